-- Subsets as bit masks, for a search that fills an array indexed by masks.
-- Internal definitions: the laws are in MaskLaws and MaskSearch; the array is in Entries.
use Rattle.std.specs.Prelude.{ℕ, ◌/◌, ◌%◌, ◌≡◌, List, [], ◌∷◌}
use Rattle.std.specs.Int.Bits.{bit_and}
use Rattle.cover.specs.Trusted.Cover.{pick}

-- the elements of the list at the set bits of the mask; the first element is at the lowest bit
abbrev pub select : {A : Type 0} → ℕ → List A → List A
select s [] = []
select s (k ∷ ks) = pick (s % 2) (select (s / 2) ks) (k ∷ select (s / 2) ks)

-- each set bit of `u` is a set bit of `r`
abbrev pub MaskWithin : ℕ → ℕ → Type 0
MaskWithin u r = bit_and u r ≡ u
