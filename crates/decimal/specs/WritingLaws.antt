-- A number with a sign that has room is written.
use Rattle.std.specs.Prelude.{ℕ, zero, suc, ◌+◌, ◌-◌, ◌^◌, ◌≤◌, ◌<◌, ◌≡◌, refl, Bool, true, false, cond, ◌&&◌, List, length, Ok}
use Rattle.std.proofs.Common.{arith, ap₂, le-leb}
use Rattle.lists.specs.TestLaws.{reflects_true}
use Rattle.decimal.specs.Trusted.Number.{Number}
use Rattle.decimal.specs.Inside.{Within}
use Rattle.decimal.specs.Trusted.Columns.{room, signed_room, signed_field_of}
use Rattle.decimal.specs.ColumnLaws.{reflects_room}
use Rattle.decimal.specs.Trusted.Writing.{write_if, signed_written_at}
use Rattle.decimal.specs.Trusted.Columns.{with_field}

signed_room_lem : (width : ℕ) (n : Number) → 0 < width → Within width n → signed_room width n ≡ true
signed_room_lem width n p h = by_sign n.negative h.sign
  where
    some_column : (k m : ℕ) → 0 < m → m < 10 ^ k → 0 < k
    some_column zero m p h = absurd (omega arith)
    some_column (suc k) m p h = omega arith

    by_sign : (b : Bool) → (b ≡ true → (0 < n.magnitude) × (n.magnitude < 10 ^ (width - 1))) → cond b (room (width - 1) n.magnitude) (room width n.magnitude) ≡ true
    by_sign false s = reflects_true (reflects_room width n.magnitude) (p, h.size)
    by_sign true s =
        reflects_true (reflects_room (width - 1) n.magnitude) (some_column (width - 1) n.magnitude (s refl).0 (s refl).1, (s refl).1)

pub signed_written_at_lem : (old : List ℕ) (at width : ℕ) (n : Number) → at + width ≤ length old → 0 < width → Within width n →
    signed_written_at old at width n ≡ record { answer = Ok tt; bytes = with_field old at width (signed_field_of width n) }
signed_written_at_lem old at width n l p h =
    ap₂ (λ a b. write_if (a && b) (with_field old at width (signed_field_of width n)) old) (le-leb (at + width) (length old) l) (signed_room_lem width n p h)
