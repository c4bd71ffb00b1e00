-- The definitions computed: opening lines that are accepted, and one for each that is refused.
use Rattle.std.specs.Prelude.{ℕ, ◌≡◌, refl, [], ◌∷◌, map}
use Prim.Native.String.{String}
use Rattle.sheet.specs.Checks.{bytes}
use Rattle.part.specs.Trusted.Answers.{accepted, empty}
use Rattle.fast_opening.specs.Trusted.FastOpening.{fast_numbers, FastStart, unopened, fast_opened_by}

abbrev start : String → FastStart
start text = fast_opened_by (fast_numbers (bytes text))

abbrev taken : (k capacity wanted : ℕ) → FastStart
taken k capacity wanted = record { part = empty k capacity; answer = accepted; wanted = wanted }

-- with what follows the line, and the least and the greatest of each
lines_taken :
    map start ("     4     8     3\n    20     1\n" ∷ "     2     1     0\n" ∷ "     6   800  1024\n" ∷ [])
    ≡ taken 4 8 3 ∷ taken 2 1 0 ∷ taken 6 800 1024 ∷ []
lines_taken = refl

-- nothing, two fields, four, no line feed, a line feed too early, "-0", "00", blanks, and none of the three a number of its range
refused_1 :
    map start
    ("" ∷ "     4     8\n" ∷ "     4     8     3     3\n" ∷ "     4     8     3" ∷ "     4     8\n     3\n" ∷ "     4     8    -0\n"
    ∷ "     4     8    00\n" ∷ "     4     8      \n" ∷ "     9     0 1 025\n" ∷ [])
    ≡ unopened 1 ∷ unopened 1 ∷ unopened 1 ∷ unopened 1 ∷ unopened 1 ∷ unopened 1 ∷ unopened 1 ∷ unopened 1 ∷ unopened 1 ∷ []
refused_1 = refl

-- K before the capacity and the wanted level
refused_2 :
    map start ("     1     8     3\n" ∷ "     7     0  1025\n" ∷ "    -4     8    -1\n" ∷ [])
    ≡ unopened 2 ∷ unopened 2 ∷ unopened 2 ∷ []
refused_2 = refl

-- the capacity before the wanted level
refused_3 :
    map start ("     4     0     3\n" ∷ "     4   801  1025\n" ∷ "     4    -8    -1\n" ∷ [])
    ≡ unopened 3 ∷ unopened 3 ∷ unopened 3 ∷ []
refused_3 = refl

refused_34 :
    map start ("     4     8  1025\n" ∷ "     4     8    -1\n" ∷ "     4     8 -1024\n" ∷ "     4     8999999\n" ∷ [])
    ≡ unopened 34 ∷ unopened 34 ∷ unopened 34 ∷ unopened 34 ∷ []
refused_34 = refl
