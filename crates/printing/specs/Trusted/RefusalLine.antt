-- The line of a refusal: 01, "List". Definitions only.
use Rattle.std.specs.Prelude.{ℕ, true, List, [], ◌∷◌, ◌++◌}
use Rattle.decimal.specs.Trusted.Number.{columns}
use Rattle.decimal.specs.Trusted.Columns.{fields_of, signed_field_of}

-- minus the number, the sheet's number, the place, and a line feed
abbrev pub refusal_line : (number sheet place : ℕ) → List ℕ
refusal_line number sheet place = signed_field_of columns (record { negative = true; magnitude = number }) ++ (fields_of (sheet ∷ place ∷ []) ++ (10 ∷ []))
