-- The value of a sheet, gate by gate, is the value of its tree.
use Rattle.std.specs.Prelude.{ℕ, ◌-◌, ◌≡◌, refl, Bool, List, [], ◌∷◌, ◌++◌, map, length}
use Rattle.std.proofs.Common.{sym, ap, ap₂, ◌∙◌}
use Rattle.std.proofs.lemmas.List.{map-append}
use Rattle.std.proofs.Math.ListN.{get_or-map}
use Rattle.tree.specs.declared.Kind.{Kind}
use Rattle.tree.specs.Trusted.Tree.{Node, leaf, turned, meet}
use Rattle.tree.specs.Measures.{value, values}
use Rattle.sheet.specs.declared.Source.{Source}
use Rattle.sheet.specs.declared.Source.TheVariants.{Net as net, Gate as gate}
use Rattle.sheet.specs.declared.Edge.{Edge as Fanin}
use Rattle.sheet.specs.Trusted.Sheet.{DrawnGate, DrawnSheet}
use Rattle.sheet.specs.Trusted.Trees.{tree_at, node_of, edges_of, trees_of, tree_of}
use Rattle.sheet.specs.Trusted.Values.{value_at, source_value, fanins_value, gate_values, root_value, sheet_value}

module _ (σ : ℕ → Bool) where
  abbrev of : List Node → List Bool
  of = map (λ t. value t σ)

  at_value : (ts : List Node) (g : ℕ) → value_at σ (of ts) g ≡ value (tree_at ts g) σ
  at_value ts g = get_or-map (λ t. value t σ) ts (g - 1) (leaf 0)

  source_value_lem : (ts : List Node) (s : Source) → source_value σ (of ts) s ≡ value (node_of ts s) σ
  source_value_lem ts (net n) = refl
  source_value_lem ts (gate g) = at_value ts g

  fanins_value_lem : (ts : List Node) (k : Kind) (fs : List Fanin) → fanins_value σ (of ts) k fs ≡ values (edges_of ts fs) k σ
  fanins_value_lem ts k [] = refl
  fanins_value_lem ts k (f ∷ fs) = ap₂ (λ a b. meet k (turned f.inverted a) b) (source_value_lem ts f.source) (fanins_value_lem ts k fs)

  gates_values : (ts : List Node) (gs : List DrawnGate) → gate_values σ (of ts) gs ≡ of (trees_of ts gs)
  gates_values ts [] = refl
  gates_values ts (g ∷ gs) =
      let t : Node = Node.gate g.kind (edges_of ts g.fanins) in
      ap (λ vs. gate_values σ vs gs) (ap (λ v. of ts ++ (v ∷ [])) (fanins_value_lem ts g.kind g.fanins) ∙ sym (map-append (λ t. value t σ) ts (t ∷ [])))
      ∙ gates_values (ts ++ (t ∷ [])) gs

  -- THE ROOT'S VALUE IS THE TREE'S
  pub drawn_root_value : (s : DrawnSheet) → root_value s σ ≡ value (tree_of s) σ
  drawn_root_value s =
      ap (λ vs. value_at σ vs (length s.gates)) (gates_values [] s.gates) ∙ at_value (trees_of [] s.gates) (length s.gates)

  pub sheet_value_lem : (s : DrawnSheet) → sheet_value s σ ≡ turned s.inverted (value (tree_of s) σ)
  sheet_value_lem s = ap (turned s.inverted) (drawn_root_value s)
