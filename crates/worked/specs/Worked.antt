-- The worked examples that 01 stars ("Panels worked by hand"): for each tree and K the least number of tables of the
-- joined tree (02, #104) and, where it is given, the truth table.
-- Internal definitions: that every row is right is in WorkedRight.
use Rattle.std.specs.Prelude.{ℕ, suc, zero, ◌+◌, ◌≡◌, Bool, true, false, List, [], ◌∷◌}
use Rattle.std.proofs.Math.Option.{Option, some, none}
use Rattle.lists.specs.Trusted.Lists.{Every}
use Rattle.tree.specs.declared.Kind.{Kind}
use Rattle.tree.specs.declared.Kind.TheVariants.{And as and, Or as or}
use Rattle.tree.specs.Trusted.Tree.{Node, leaf, gate, Edges, edge}
use Rattle.cover.specs.Trusted.Cover.{Cover, tables, CoverOf, Least}
use Rattle.cover.specs.Trusted.Placed.{records}
use Rattle.joined.specs.Trusted.Joined.{joined_tree}

-- the most inputs of a table, a tree as drawn, whether its output is inverted, the tables of its least cover, and their truth table
pub record Row : Type 0 where
  pub inputs : ℕ
  pub tree : Node
  pub inverted : Bool
  pub count : ℕ
  pub truth : Option ℕ

-- where a truth table is given, each table of each least cover has it
abbrev pub Shown : Row → Option ℕ → Type 0
Shown r none = Unit {0}
Shown r (some x) = (base out : ℕ) (c : Cover) → CoverOf r.inputs (joined_tree r.tree) c → tables c ≡ r.count →
    Every (λ p. p.1.truth ≡ x) (records base c out r.inverted)

pub record Right (r : Row) : Type 0 where
  pub least : Least r.inputs (joined_tree r.tree) r.count
  pub shown : Shown r r.truth

-- `n` upright leaves, numbered from `i` on
abbrev pub ports : ℕ → ℕ → Edges
ports zero i = Edges.none
ports (suc n) i = edge false (leaf i) (ports n (suc i))

-- `n` upright gates of kind `k`, each over `m` leaves of its own, numbered from `i` on
abbrev pub gates : ℕ → Kind → ℕ → ℕ → Edges
gates zero k m i = Edges.none
gates (suc n) k m i = edge false (gate k (ports m i)) (gates n k m (i + m))

abbrev row : ℕ → Node → ℕ → Row
row K t n = record { inputs = K; tree = t; inverted = false; count = n; truth = none }

-- one table, with its truth table
abbrev single : ℕ → Node → Bool → ℕ → Row
single K t v x = record { inputs = K; tree = t; inverted = v; count = 1; truth = some x }

abbrev pub worked : List Row
worked =
    single 2 (gate and (edge false (leaf 1) (edge true (leaf 2) Edges.none))) false 2
    ∷ single 2 (gate and (edge false (leaf 1) (edge true (leaf 2) Edges.none))) true 13
    ∷ row 2 (gate and (ports 5 1)) 4
    ∷ row 5 (gate and (ports 10 1)) 3
    ∷ row 6 (gate and (ports 10 1)) 2
    ∷ single 4 (gate and (gates 2 or 2 1)) false 61152
    ∷ row 3 (gate and (gates 2 or 2 1)) 2
    ∷ row 4 (gate or (edge false (gate and (ports 5 1)) (ports 2 6))) 2
    ∷ row 5 (gate or (edge false (gate and (ports 3 1)) (gates 4 and 2 4))) 3
    ∷ row 4 (gate or (edge false (gate and (ports 3 1)) (gates 4 and 2 4))) 4
    ∷ row 5 (gate and (gates 3 or 3 1)) 3
    ∷ row 5 (gate and (gates 3 and 3 1)) 2
    ∷ []
