-- The definitions computed: slacks at, above and below zero, their lines, and the lines of a part.
use Rattle.std.specs.Prelude.{ℕ, ◌≡◌, refl, true, false, List, [], ◌∷◌, map}
use Rattle.decimal.specs.Trusted.Number.{Number}
use Rattle.sheet.specs.Checks.{bytes}
use Rattle.table.specs.declared.Table.{Table}
use Rattle.part_records.specs.Trusted.Reservations.{unreserved}
use Rattle.part.specs.declared.Part.{Part}
use Rattle.slacks.specs.Trusted.Slack.{slack_of, slack_line, slack_lines}

abbrev plus : ℕ → Number
plus n = record { negative = false; magnitude = n }

abbrev minus : ℕ → Number
minus n = record { negative = true; magnitude = n }

-- wanted 0 and 1,024, levels 1 and 800, and the two equal
slacks_computed :
    slack_of 0 1 ∷ slack_of 0 800 ∷ slack_of 1024 1 ∷ slack_of 1024 800 ∷ slack_of 1 1 ∷ slack_of 800 800 ∷ slack_of 3 2 ∷ slack_of 2 3 ∷ []
    ≡ minus 1 ∷ minus 800 ∷ plus 1023 ∷ plus 224 ∷ plus 0 ∷ plus 0 ∷ plus 1 ∷ minus 1 ∷ []
slacks_computed = refl

lines_computed :
    slack_line 0 20 1 ∷ slack_line 0 9999 800 ∷ slack_line 1024 1 1 ∷ slack_line 2 21 2 ∷ []
    ≡ map bytes ("    20    -1\n" ∷ "  9999  -800\n" ∷ "     1  1023\n" ∷ "    21     0\n" ∷ [])
lines_computed = refl

abbrev row : (net level : ℕ) → Table
row net level = record { net = net; count = 2; inputs = 1 ∷ 2 ∷ 0 ∷ 0 ∷ 0 ∷ 0 ∷ []; truth = 8; level = level }

abbrev part_of : (used : ℕ) → List Table → Part
part_of used rows = record { k = 4; capacity = 8; used = used; reservation = unreserved; tables = rows }

-- three records of which two drive nets; of four, only three are in use
part_computed :
    map (slack_lines 2) (
    part_of 3 (row 20 1 ∷ row 0 2 ∷ row 21 3 ∷ []) ∷
    part_of 3 (row 0 1 ∷ row 20 2 ∷ row 21 2 ∷ row 22 1 ∷ []) ∷
    part_of 0 [] ∷
    [])
    ≡ map bytes ("    20     1\n    21    -1\n" ∷ "    20     0\n    21     0\n" ∷ "" ∷ [])
part_computed = refl
