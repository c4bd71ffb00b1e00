-- The definitions computed: 01's part with two tables, a buffer with one number too few, and a refusal.
use Rattle.std.specs.Prelude.{ℕ, ◌≡◌, refl, List, [], ◌∷◌, ◌++◌, replicate}
use Rattle.lists.specs.Trusted.Checked.{passed, refused}
use Rattle.list_reading.specs.PartExamples.{part}
use Rattle.list_numbers.specs.Trusted.Numbers.{part_numbers, list_code, numbers_read}

abbrev numbers : List ℕ
numbers = 4 ∷ 8 ∷ 2 ∷ 20 ∷ 4 ∷ 1 ∷ 2 ∷ 3 ∷ 4 ∷ 0 ∷ 0 ∷ 61152 ∷ 1 ∷ 21 ∷ 2 ∷ 5 ∷ 20 ∷ 0 ∷ 0 ∷ 0 ∷ 0 ∷ 11 ∷ 2 ∷ []

part_is : part_numbers part ≡ numbers
part_is = refl

-- two numbers of the buffer are left
handed : numbers_read (passed part) (replicate 25 7) ≡ record { code = 0; numbers = numbers ++ 7 ∷ 7 ∷ [] }
handed = refl

short : numbers_read (passed part) (replicate 22 7) ≡ record { code = 917504; numbers = replicate 22 7 }
short = refl

-- a rule broken at line 2: 32 times 65536, and 2
broken : numbers_read (refused 32 2) (7 ∷ []) ≡ record { code = 2097154; numbers = 7 ∷ [] }
broken = refl

codes : (list_code (passed part) ≡ 0) × (list_code (refused 31 0) ≡ 2031616)
codes = (refl, refl)
