-- What writing a number into a field does: the answer, and the bytes after it, for every width and every number.
-- Definitions only: the laws are in WritingLaws.
use Rattle.std.specs.Prelude.{ℕ, ◌+◌, Bool, true, false, ◌&&◌, List, leb, length, ⊤, Result, Ok, Err}
use Rattle.decimal.specs.Trusted.Number.{Number}
use Rattle.decimal.specs.Trusted.Columns.{room, field_of, signed_room, signed_field_of, with_field}
use Rattle.decimal.specs.declared.TooWide.{TooWide}

pub record FieldWrite : Type 0 where
  pub answer : Result ⊤ TooWide
  pub bytes : List ℕ

-- a number without room alters no byte
abbrev pub write_if : Bool → List ℕ → List ℕ → FieldWrite
write_if true new old = record { answer = Ok tt; bytes = new }
write_if false new old = record { answer = Err (record {}); bytes = old }

-- a number into a whole field
abbrev pub field_written : List ℕ → ℕ → FieldWrite
field_written old n = write_if (room (length old) n) (field_of (length old) n) old

abbrev pub signed_written : List ℕ → Number → FieldWrite
signed_written old n = write_if (signed_room (length old) n) (signed_field_of (length old) n) old

-- and into the field of so many columns that starts at a place of a longer line
abbrev pub field_written_at : List ℕ → ℕ → ℕ → ℕ → FieldWrite
field_written_at old at width n = write_if (leb (at + width) (length old) && room width n) (with_field old at width (field_of width n)) old

abbrev pub signed_written_at : List ℕ → ℕ → ℕ → Number → FieldWrite
signed_written_at old at width n = write_if (leb (at + width) (length old) && signed_room width n) (with_field old at width (signed_field_of width n)) old
