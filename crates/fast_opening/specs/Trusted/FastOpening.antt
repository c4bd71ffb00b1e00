-- The opening line with a wanted level, and the part that it opens: 02, #107. Definitions only: the laws are in FastOpeningLaws and
-- FastOpeningLine.
use Rattle.std.specs.Prelude.{ℕ, Bool, cond, not, ◌&&◌, List, leb, eqb, get_or, take, drop}
use Rattle.std.proofs.Math.Option.{Option, none, some}
use Rattle.decimal.specs.Trusted.Number.{Number, columns, field_number}
use Rattle.part.specs.declared.Part.{Part}
use Rattle.part.specs.Trusted.Answers.{Answer, accepted, refused, empty}
use Rattle.part.specs.Trusted.Add.{opened}
use Rattle.opening.specs.Trusted.Opening.{count}

-- ---- the opening line: three fields and a line feed

abbrev pub all_three : Option Number → Option Number → Option Number → Option (Number × Number × Number)
all_three none y z = none
all_three (some x) none z = none
all_three (some x) (some y) none = none
all_three (some x) (some y) (some z) = some (x, y, z)

-- a line feed is no part of a number, so this is a line of three fields as a line of a sheet is one (FastOpeningLine)
abbrev pub fast_numbers : List ℕ → Option (Number × Number × Number)
fast_numbers input =
    cond (eqb (get_or input 18 0) 10)
    (all_three (field_number (take columns input)) (field_number (take columns (drop 6 input))) (field_number (take columns (drop 12 input))))
    none

-- a wanted level, 0 to 1,024
abbrev pub is_wanted : Number → Bool
is_wanted x = not x.negative && leb x.magnitude 1024

-- ---- what it opens

pub record FastStart : Type 0 where
  pub part : Part
  pub answer : Answer
  pub wanted : ℕ

-- turned away, with a part of zeros
abbrev pub unopened : (number : ℕ) → FastStart
unopened number = record { part = empty 0 0; answer = refused number 0; wanted = 0 }

-- 34, wanted level out of range, after what K and the capacity are turned away for
abbrev pub wanted_after : Answer → Part → Number → FastStart
wanted_after (refused number place) part wanted = record { part = part; answer = refused number place; wanted = 0 }
wanted_after accepted part wanted = cond (is_wanted wanted) (record { part = part; answer = accepted; wanted = wanted.magnitude }) (unopened 34)

-- 1, then 2 and 3, then 34, all with place 0
abbrev pub fast_opened_by : Option (Number × Number × Number) → FastStart
fast_opened_by none = unopened 1
fast_opened_by (some p) = wanted_after (opened (count p.0) (count p.1)).answer (opened (count p.0) (count p.1)).part p.2
