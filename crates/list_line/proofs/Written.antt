-- A number that has room in its field is written there.
use Prim.Native.Nat.{ℕ, ◌+◌, ◌≤◌, ◌<◌, ◌^◌}
use mathlib.Core.Path.{◌≡◌, sym, ap, ◌∙◌}
use mathlib.Core.List.{List}
use lib.ListN.{length}
use Rattle.lists.specs.TestLaws.{reflects_le, reflects_and, reflects_true}
use Rattle.decimal.specs.Trusted.Columns.{field_of}
use Rattle.decimal.specs.ColumnLaws.{reflects_room, field_length}
use Rattle.decimal.specs.Trusted.Writing.{FieldWrite, write_if, field_written_at}
use Rattle.decimal.specs.Trusted.Columns.{with_field}
use Rattle.std.specs.Prelude.{⊤, Result}
use Rattle.decimal.specs.declared.TooWide.{TooWide}
use Rattle.list_line.specs.Trusted.Writes.{pasted}

pub number_written : (old new : List ℕ) (at width n : ℕ) {a : Result ⊤ TooWide} → at + width ≤ length old → (0 < width) × (n < 10 ^ width) →
    record { answer = a; bytes = new } ≡ field_written_at old at width n → new ≡ pasted old at (field_of width n)
number_written old new at width n {a} l h e =
    ap (λ (o : FieldWrite). o.bytes) e
    ∙ ap (λ b. (write_if b (with_field old at width (field_of width n)) old).bytes)
    (reflects_true (reflects_and (reflects_le (at + width) (length old)) (reflects_room width n)) (l, h))
    ∙ ap (λ w. with_field old at w (field_of width n)) (sym (field_length width n))
