-- The same rules as tests that compute: of a record after those before it, and of a run of records.
-- Definitions only: TestedLaws has the proof that they say what Rules says.
use Rattle.std.specs.Prelude.{ℕ, suc, ◌+◌, ◌-◌, ◌^◌, ◌≡◌, ◌⊎◌, Bool, true, false, cond, not, ◌&&◌, ◌||◌, List, [], ◌∷◌, ◌++◌, leb, ltb, eqb, length, get_or, drop}
use Rattle.table.specs.declared.Table.{Table}
use Rattle.lists.specs.Trusted.Tests.{all, elem, pairwise, within}
use Rattle.tree.specs.Trusted.Limits.{greatest_net, code_base}
use Rattle.table.specs.Trusted.Limits.{input_room, table_room, KRange, CapacityRange}
use Rattle.table.specs.Trusted.Records.{reads, level_after, blank}
use Rattle.table.specs.Trusted.Rules.{Fine, FirstBad}

abbrev pub all_zero : List ℕ → Bool
all_zero = all (λ x. eqb x 0)

abbrev pub is_blank : Table → Bool
is_blank r = eqb r.net 0 && (eqb r.count 0 && (all_zero r.inputs && (eqb r.truth 0 && eqb r.level 0)))

abbrev pub is_padded : Table → Bool
is_padded r = all_zero (drop r.count r.inputs)

-- a net, or the name of a table
abbrev pub is_code : ℕ → Bool
is_code x = within 1 greatest_net x || ltb code_base x

abbrev pub is_coded : Table → Bool
is_coded r = leb r.net greatest_net && all is_code (reads r)

abbrev pub is_sized : ℕ → Table → Bool
is_sized k r = leb 2 r.count && (leb r.count k && (pairwise ltb (reads r) && ltb r.truth (2 ^ (2 ^ r.count))))

-- an input that names a table names one of the records before, and that one drives no net
abbrev pub sourced : List Table → ℕ → Bool
sourced before x = leb x code_base || (leb x (code_base + length before) && eqb (get_or before (x - suc code_base) blank).net 0)

-- the record neither drives nor reads the net
abbrev pub clear : ℕ → Table → Bool
clear n r = not (eqb r.net n) && not (elem n (reads r))

-- the net driven, if any, is driven by no record before, and read neither by one before nor by the record itself
abbrev pub unclaimed : List Table → Table → Bool
unclaimed before r = eqb r.net 0 || (all (clear r.net) before && not (elem r.net (reads r)))

-- the record keeps 01's points after the records before it
abbrev pub keeps_points : ℕ → List Table → Table → Bool
keeps_points k before r = is_padded r && (is_coded r && (is_sized k r && (all (sourced before) (reads r) && unclaimed before r)))

-- its level is the one worked out
abbrev pub is_levelled : List Table → Table → Bool
is_levelled before r = eqb (level_after before r) r.level

-- the record keeps the rules after the records before it
abbrev pub keeps : ℕ → List Table → Table → Bool
keeps k before r = keeps_points k before r && is_levelled before r

-- none is bad; the first bad one; or refused with this number
pub data Verdict : Type 0 where
  none : Verdict
  bad : ℕ → Verdict
  refused : ℕ → Verdict

module _ (k capacity : ℕ) where
  abbrev pub walk : List Table → List Table → Verdict
  walk before [] = none
  walk before (r ∷ rs) = cond (ltb (length before) capacity && keeps k before r) (walk (before ++ r ∷ []) rs) (bad (suc (length before)))

  abbrev pub tested : List Table → Verdict
  tested rs = cond (within 2 input_room k) (cond (within 1 table_room capacity) (walk [] rs) (refused 3)) (refused 2)

-- what a verdict says of the run
abbrev pub Says : ℕ → ℕ → List Table → Verdict → Type 0
Says k capacity rs none = KRange k × CapacityRange capacity × Fine k capacity rs
Says k capacity rs (bad n) = KRange k × CapacityRange capacity × FirstBad k capacity rs n
Says k capacity rs (refused n) = ((n ≡ 2) × (¬ KRange k)) ⊎ ((n ≡ 3) × KRange k × (¬ CapacityRange capacity))

abbrev pub is_none : Verdict → Bool
is_none none = true
is_none (bad n) = false
is_none (refused n) = false
