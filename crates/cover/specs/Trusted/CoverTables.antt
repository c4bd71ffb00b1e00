-- What adding a sheet to a part leaves behind. Definitions only: the laws are in CoverTableLaws and CoverValueLaws.
use Rattle.std.specs.Prelude.{ℕ, ◌+◌, ◌<◌, ◌≡◌, ◌≢◌, Bool, List, length}
use Rattle.lists.specs.Trusted.Lists.{◌∈◌, Every, Permuted}
use Rattle.tree.specs.Trusted.Tree.{Node}
use Rattle.cover.specs.Trusted.Cover.{Cover, CoverOf, Least}
use Rattle.cover.specs.Trusted.Tables.{LookupTable, numbered}
use Rattle.cover.specs.Trusted.Placed.{root_number, records}

-- a drawn sheet: the net `out` is to have the value of the tree, turned over where `inverted`
pub record Circuit : Type 0 where
  pub tree : Node
  pub out : ℕ
  pub inverted : Bool

-- The tables `new`, which follow the tables `old`, are those of one of the sheet's covers, each at the number that the
-- cover gives to its gate, the root's last, and each reads only codes below its own, which is to say nets and earlier tables.
pub record CoverTables (base K : ℕ) (old new : List LookupTable) (s : Circuit) : Type 0 where
  pub cover : Cover
  pub covers : CoverOf K s.tree cover
  pub taken : Permuted (numbered (length old) new) (records base cover s.out s.inverted)
  pub earlier : Every (λ p. Every (λ x. x < base + p.0) p.1.inputs) (numbered (length old) new)
  pub last : root_number cover ≡ length old + length new

-- and there are no more of them than there need be
pub record LeastCoverTables (base K : ℕ) (old new : List LookupTable) (s : Circuit) : Type 0 where
  pub added : CoverTables base K old new s
  pub fewest : Least K s.tree (length new)

-- no table drives or reads the sheet's output net
abbrev pub Fresh : Circuit → List LookupTable → Type 0
Fresh s = Every (λ r. (r.drives ≢ s.out) × (¬ (s.out ∈ r.inputs)))
