-- A field that is a part of a longer line: what a write into the part does to the line.
use Rattle.std.specs.Prelude.{⊤, Result, Ok, Err}
use Rattle.decimal.specs.declared.TooWide.{TooWide}
use Prim.Native.Nat.{ℕ, ◌+◌, ◌-◌, ◌≤◌, ◌<◌}
use native.Mathlib.Omega.{arith}
use mathlib.Core.Path.{◌≡◌, sym, ap, ◌∙◌}
use mathlib.Core.Bool.{Bool, true, false, ◌&&◌}
use mathlib.Core.List.{List, ◌++◌}
use lib.Dec.{leb}
use lib.ListN.{length, take}
use borrow.Author.Tests.{le-leb, lt-leb}
use borrow.Rule.Slice.PartMut.{mid_of, put_mid, mid_len, Post-is, put_same}
use Rattle.decimal.specs.Trusted.Writing.{write_if}
use Rattle.decimal.specs.Trusted.Columns.{with_field}

part_written : (b : Bool) (old field last : List ℕ) (at width : ℕ) {a : Result ⊤ TooWide} →
    record { answer = a; bytes = last } ≡ write_if b field (mid_of at (at + width - at) old) →
    record { answer = a; bytes = put_mid at (at + width - at) old last } ≡ write_if b (with_field old at width field) old
part_written true old field last at width e =
    ap (λ o. record { answer = o.answer; bytes = put_mid at (at + width - at) old o.bytes }) e
    ∙ ap (λ l. record { answer = Ok tt; bytes = take at old ++ (field ++ l) }) (Post-is at (at + width) old (omega arith))
part_written false old field last at width e =
    ap (λ o. record { answer = o.answer; bytes = put_mid at (at + width - at) old o.bytes }) e
    ∙ ap (λ l. record { answer = Err (record {}); bytes = l }) (put_same at (at + width - at) old)

part_columns : (old : List ℕ) (at width : ℕ) → at + width ≤ length old → length (mid_of at (at + width - at) old) ≡ width
part_columns old at width h = mid_len at (at + width) old h ∙ omega arith

-- a field that depends on its width, where the line has the columns, and where it ends before
pub place_within : (test : ℕ → Bool) (field : ℕ → List ℕ) (old last : List ℕ) (at width : ℕ) {a : Result ⊤ TooWide} → at + width ≤ length old →
    let part = mid_of at (at + width - at) old in
    record { answer = a; bytes = last } ≡ write_if (test (length part)) (field (length part)) part →
    record { answer = a; bytes = put_mid at (at + width - at) old last } ≡ write_if (leb (at + width) (length old) && test width) (with_field old at width (field width)) old
place_within test field old last at width h e =
    part_written (test width) old (field width) last at width
    (e ∙ ap (λ m. write_if (test m) (field m) (mid_of at (at + width - at) old)) (part_columns old at width h))
    ∙ sym (ap (λ t. write_if (t && test width) (with_field old at width (field width)) old) (le-leb (at + width) (length old) h))

pub place_past : (b : Bool) (old field : List ℕ) (at width : ℕ) → length old < at + width →
    write_if false field old ≡ write_if (leb (at + width) (length old) && b) (with_field old at width field) old
place_past b old field at width h = sym (ap (λ t. write_if (t && b) (with_field old at width field) old) (lt-leb (at + width) (length old) h))
