-- ONE LEAF MORE (02, #111): of an accepted sheet with no edge that #104 would join and fewer than 256 leaves, and the same sheet with one leaf of a
-- new net more at a gate of at most 9 fanins. The least numbers are those of demand 3, of the joined trees.
use Rattle.std.specs.Prelude.{ℕ, suc, ◌≤◌, ◌≡◌, ◌⊎◌, List, length}
use Rattle.std.proofs.Common.{arith, ap, subst}
use Rattle.lists.specs.Trusted.Checked.{passed}
use Rattle.cover.specs.Trusted.Cover.{Least}
use Rattle.cover.specs.Nets.{least_bounds}
use Rattle.sheet.specs.Trusted.Sheet.{DrawnSheet}
use Rattle.sheet.specs.Trusted.Trees.{tree_of}
use Rattle.sheet.specs.Trusted.Formed.{WellFormed}
use Rattle.sheet.specs.Trusted.Read.{read_sheet}
use Rattle.sheet.specs.ReadLaws.{read_formed}
use Rattle.sheet.specs.TreeLaws.{tree_proper}
use Rattle.joined.specs.Trusted.Covered.{covered}
use Rattle.joined.proofs.JoinedLaws.{joined_leaves}
use Rattle.joined.proofs.SettledLaws.{settled_unchanged, unchanged_settled}
use Rattle.drawing.specs.Trusted.Written.{written}
use Rattle.drawing.proofs.RoundTrip.{read_written}
use Rattle.one_more.specs.Trusted.OneMoreLeaf.{OneMoreLeaf, NoneJoined, FewerLeaves}
use Rattle.one_more.specs.OneMoreLaws.{more_leaves, grown_least}
use Rattle.one_more.specs.MoreSettled.{more_settled}
use Rattle.one_more.specs.GrownTrees.{tree_more}
use Rattle.one_more.proofs.GrownSheet.{more_formed}

module _ (text : List ℕ) (s s' : DrawnSheet) (accepted : read_sheet text ≡ passed s) (few : FewerLeaves s) (o : OneMoreLeaf s s') where
  formed : WellFormed s
  formed = read_formed text s accepted

  -- THE SHEET WITH ONE LEAF MORE IS ACCEPTED, in its one text
  pub more_accepted : read_sheet (written s') ≡ passed s'
  more_accepted = read_written s' (more_formed s s' formed few o)

  -- with K of 2 the least number rises by one, edges to join or not: L leaves take L - 1 tables of two inputs
  pub more_least_two : {m n : ℕ} → Least 2 (covered s).tree m → Least 2 (covered s').tree n → n ≡ suc m
  more_least_two l h =
      omega (
        arith,
        least_bounds 2 l,
        least_bounds 2 h,
        ap length (joined_leaves (tree_of s)),
        ap length (joined_leaves (tree_of s')),
        more_leaves (tree_more s s' formed o),
      )

  module _ (none : NoneJoined s) where
    -- IT HAS NO EDGE TO JOIN EITHER
    pub more_none_joined : NoneJoined s'
    more_none_joined =
        settled_unchanged (tree_of s') (more_settled (tree_more s s' formed o) (unchanged_settled (tree_of s) (tree_proper s formed) none))

    -- THE LEAST NUMBER AT THE SAME K STAYS OR RISES BY ONE
    pub more_least : (K : ℕ) → 2 ≤ K → {m n : ℕ} → Least K (covered s).tree m → Least K (covered s').tree n → (n ≡ m) ⊎ (n ≡ suc m)
    more_least K two {m} {n} l h =
        grown_least K two (tree_proper s formed) (tree_more s s' formed o) (subst (λ t. Least K t m) none l) (subst (λ t. Least K t n) more_none_joined h)
