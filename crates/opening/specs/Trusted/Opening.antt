-- The opening line of an input, and the part that it opens: 01, "List". Definitions only: the laws are in OpeningLaws and OpeningLine.
use Rattle.std.specs.Prelude.{ℕ, cond, List, eqb, get_or, take, drop}
use Rattle.std.proofs.Math.Option.{Option, none, some}
use Rattle.decimal.specs.Trusted.Number.{Number, columns, field_number}
use Rattle.part.specs.Trusted.Answers.{refused, Result, empty}
use Rattle.part.specs.Trusted.Add.{opened}

-- ---- the opening line: two fields and a line feed

abbrev pub both : Option Number → Option Number → Option (Number × Number)
both none y = none
both (some x) none = none
both (some x) (some y) = some (x, y)

-- a line feed is no part of a number, so where both fields hold one, no line feed stands before the byte 12: this is a line of two
-- fields as a sheet's first line is one (OpeningLine)
abbrev pub opening_numbers : List ℕ → Option (Number × Number)
opening_numbers input = cond (eqb (get_or input 12 0) 10) (both (field_number (take columns input)) (field_number (take columns (drop columns input)))) none

-- a number with a minus sign is out of range, as 0 is
abbrev pub count : Number → ℕ
count x = cond x.negative 0 x.magnitude

-- 1, then 2 and 3, all with place 0
abbrev pub opened_by : Option (Number × Number) → Result
opened_by none = record { part = empty 0 0; answer = refused 1 0 }
opened_by (some p) = opened (count p.0) (count p.1)
