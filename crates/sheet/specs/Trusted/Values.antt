-- The value of a sheet at a setting of the nets, gate by gate. Definitions only: that it is the tree's is in ValueLaws.
use Rattle.std.specs.Prelude.{ℕ, ◌-◌, Bool, List, [], ◌∷◌, ◌++◌, length, get_or}
use Rattle.tree.specs.declared.Kind.{Kind}
use Rattle.tree.specs.Trusted.Tree.{turned, meet, unit}
use Rattle.sheet.specs.declared.Source.{Source}
use Rattle.sheet.specs.declared.Source.TheVariants.{Net as net, Gate as gate}
use Rattle.sheet.specs.declared.Edge.{Edge as Fanin}
use Rattle.sheet.specs.Trusted.Sheet.{DrawnGate, DrawnSheet}

-- the value of gate g, where `vs` has the gates' values in order; past them the net 0, which no sheet has
abbrev pub value_at : (ℕ → Bool) → List Bool → ℕ → Bool
value_at σ vs g = get_or vs (g - 1) (σ 0)

abbrev pub source_value : (ℕ → Bool) → List Bool → Source → Bool
source_value σ vs (net n) = σ n
source_value σ vs (gate g) = value_at σ vs g

abbrev pub fanins_value : (ℕ → Bool) → List Bool → Kind → List Fanin → Bool
fanins_value σ vs k [] = unit k
fanins_value σ vs k (f ∷ fs) = meet k (turned f.inverted (source_value σ vs f.source)) (fanins_value σ vs k fs)

-- the values of the gates, after those of the gates before them
abbrev pub gate_values : (ℕ → Bool) → List Bool → List DrawnGate → List Bool
gate_values σ vs [] = vs
gate_values σ vs (g ∷ gs) = gate_values σ (vs ++ (fanins_value σ vs g.kind g.fanins ∷ [])) gs

-- the last gate is the root
abbrev pub root_value : DrawnSheet → (ℕ → Bool) → Bool
root_value s σ = value_at σ (gate_values σ [] s.gates) (length s.gates)

-- the value of the output net
abbrev pub sheet_value : DrawnSheet → (ℕ → Bool) → Bool
sheet_value s σ = turned s.inverted (root_value s σ)
