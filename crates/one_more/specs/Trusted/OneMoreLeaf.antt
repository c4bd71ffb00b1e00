-- A sheet with one leaf more: 02, #111 "One more switch", in its words. Definitions only: that the least number stays or rises by one is in
-- Theorems.
use Rattle.std.specs.Prelude.{ℕ, ◌<◌, ◌≡◌, ◌≢◌, Bool, List, ◌∷◌, length}
use Rattle.lists.specs.Trusted.Lists.{Every, Inserted}
use Rattle.tree.specs.declared.Kind.{Kind}
use Rattle.tree.specs.Trusted.Limits.{most_fanins}
use Rattle.sheet.specs.declared.Source.TheVariants.{Net as net}
use Rattle.sheet.specs.declared.Edge.{Edge as Fanin}
use Rattle.sheet.specs.Trusted.Limits.{most_leaves}
use Rattle.sheet.specs.Trusted.Sheet.{DrawnGate, DrawnSheet, leaf_nets}
use Rattle.sheet.specs.Trusted.Trees.{tree_of}
use Rattle.sheet.specs.Trusted.Formed.{LeafNet}
use Rattle.joined.specs.Trusted.Joined.{joined_tree}

-- a leaf as a fanin, upright or inverted
abbrev pub leaf_fanin : Bool → ℕ → Fanin
leaf_fanin i n = record { inverted = i; source = net n }

-- the second list has the gates of the first, but that one of them, "a gate with at most 9 fanins", has the fanin f more, at any place
pub data OneMoreFanin (f : Fanin) : List DrawnGate → List DrawnGate → Type 0 where
  at_gate : {k : Kind} {fs gs : List Fanin} {xs : List DrawnGate} → length fs < most_fanins → Inserted f gs fs →
      OneMoreFanin f (record { kind = k; fanins = fs } ∷ xs) (record { kind = k; fanins = gs } ∷ xs)
  after : {x : DrawnGate} {xs ys : List DrawnGate} → OneMoreFanin f xs ys → OneMoreFanin f (x ∷ xs) (x ∷ ys)

-- "a net new to the sheet": a net that is not the output's, and that no leaf has
abbrev pub NewNet : DrawnSheet → ℕ → Type 0
NewNet s n = LeafNet s.out n × Every (λ m. n ≢ m) (leaf_nets s.gates)

-- "With one leaf of a net new to the sheet added to that gate"
pub record OneMoreLeaf (s s' : DrawnSheet) : Type 0 where
  pub inverted : Bool
  pub leaf_net : ℕ
  pub new_net : NewNet s leaf_net
  pub gates : OneMoreFanin (leaf_fanin inverted leaf_net) s.gates s'.gates
  pub same_out : s'.out ≡ s.out
  pub same_sign : s'.inverted ≡ s.inverted

-- "no edge that #104 would join": joining leaves the tree as it is
abbrev pub NoneJoined : DrawnSheet → Type 0
NoneJoined s = joined_tree (tree_of s) ≡ tree_of s

-- "fewer than 256 leaves"
abbrev pub FewerLeaves : DrawnSheet → Type 0
FewerLeaves s = length (leaf_nets s.gates) < most_leaves
