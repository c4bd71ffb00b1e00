-- A fanout-free tree of AND and OR gates over nets, and the value of a gate. Definitions only.
use Rattle.std.specs.Prelude.{ℕ, suc, Bool, true, false}
-- the kinds of gates are those of the code
use Rattle.tree.specs.declared.Kind.{Kind}
use Rattle.tree.specs.declared.Kind.TheVariants.{And as and, Or as or}

mutual
  pub data Node : Type 0 where
    leaf : ℕ → Node
    gate : Kind → Edges → Node

  -- the fanins of a gate, from left to right: whether inverted, and what is read
  pub data Edges : Type 0 where
    none : Edges
    edge : Bool → Node → Edges → Edges

-- how many
abbrev pub edge_count : Edges → ℕ
edge_count none = 0
edge_count (edge i t es) = suc (edge_count es)

-- `b` turned over where `i` is true
abbrev pub turned : Bool → Bool → Bool
turned false b = b
turned true true = false
turned true false = true

abbrev pub meet : Kind → Bool → Bool → Bool
meet and true b = b
meet and false b = false
meet or true b = true
meet or false b = b

-- the value of a gate of no fanins, to which each fanin is added by `meet`
abbrev pub unit : Kind → Bool
unit and = true
unit or = false
