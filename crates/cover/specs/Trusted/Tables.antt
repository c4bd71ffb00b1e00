-- A part's lookup tables, and their values and levels, worked out in list order.
-- Definitions only: the laws are in Eval and LevelLaws.
use Rattle.std.specs.Prelude.{ℕ, zero, suc, ◌+◌, ◌^◌, max, Bool, cond, List, [], ◌∷◌, map, eqb, length}
use Rattle.cover.specs.Trusted.Bits.{bit, truth_of, index, place}

-- `drives` is the net that takes the table's value, or 0, which is no net. `inputs` are the codes of what it reads: a net's
-- own number, or the base, which is above every net, plus a table's number, which is its place in the part, from 1.
-- Bit i of `truth` is its value where each input, say the j-th from 0, has the value of bit j of i.
pub record LookupTable : Type 0 where
  pub drives : ℕ
  pub inputs : List ℕ
  pub truth : ℕ

-- its value, where `e` has the value of each code
abbrev pub output : LookupTable → (ℕ → Bool) → Bool
output r e = bit r.truth (index (map e r.inputs))

-- the table that drives n and reads the codes `xs`, of whose values its own is `f`
abbrev pub tabled : ℕ → List ℕ → ((ℕ → Bool) → Bool) → LookupTable
tabled n xs f = record { drives = n; inputs = xs; truth = truth_of (λ i. f (λ c. bit i (place c xs))) (2 ^ length xs) }

-- a table and its number
abbrev pub Placed : Type 0
Placed = ℕ × LookupTable

-- the tables with their numbers, where n tables stand before them
abbrev pub numbered : ℕ → List LookupTable → List Placed
numbered n [] = []
numbered n (r ∷ rs) = (suc n, r) ∷ numbered (suc n) rs

-- the net that is driven, if any
abbrev pub driven : ℕ → List ℕ
driven zero = []
driven (suc n) = suc n ∷ []

-- the greatest of the numbers, 0 where there are none
abbrev pub greatest : List ℕ → ℕ
greatest [] = 0
greatest (x ∷ xs) = max x (greatest xs)

-- its level, where `e` has the level of each code: 02, #103, "1 plus the greatest level among the tables and driven nets it reads"
abbrev pub table_level : LookupTable → (ℕ → ℕ) → ℕ
table_level r e = suc (greatest (map e r.inputs))

-- `e`, but with `b` at the codes `xs`
abbrev pub put : {A : Type 0} → List ℕ → A → (ℕ → A) → ℕ → A
put [] b e c = e c
put (x ∷ xs) b e c = cond (eqb c x) b (put xs b e c)

module _ (base : ℕ) where
  -- the codes that take a table's value and level: its own, and that of the net that it drives
  abbrev pub writes : Placed → List ℕ
  writes p = (base + p.0) ∷ driven p.1.drives

  -- `f` works out what a table's codes have, from what `e` has at each code
  module _ {A : Type 0} (f : LookupTable → (ℕ → A) → A) where
    -- after one table
    abbrev pub step : Placed → (ℕ → A) → ℕ → A
    step p e = put (writes p) (f p.1 e) e

    -- after several, one after the other
    abbrev pub run : List Placed → (ℕ → A) → ℕ → A
    run [] e = e
    run (p ∷ ps) e = run ps (step p e)

  -- the values of the codes in a part, where σ sets the nets that no table drives
  abbrev pub settled : List LookupTable → (ℕ → Bool) → ℕ → Bool
  settled rs σ = run output (numbered 0 rs) σ

  -- the levels of the codes in a part, "free nets being 0"
  abbrev pub code_levels : List LookupTable → ℕ → ℕ
  code_levels rs = run table_level (numbered 0 rs) (λ c. 0)

  -- the levels of tables, one after the other, where `e` has those of the codes before them
  abbrev pub levels_from : (ℕ → ℕ) → List Placed → List ℕ
  levels_from e [] = []
  levels_from e (p ∷ ps) = table_level p.1 e ∷ levels_from (step table_level p e) ps

  -- THE LEVELS OF A PART'S TABLES, in list order; and those of the tables `new` after the tables `old`
  abbrev pub levels_of : List LookupTable → List ℕ
  levels_of rs = levels_from (λ c. 0) (numbered 0 rs)

  abbrev pub levels_after : (old new : List LookupTable) → List ℕ
  levels_after old new = levels_from (code_levels old) (numbered (length old) new)
