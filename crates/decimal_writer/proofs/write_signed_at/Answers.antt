use Prim.Native.Nat.{◌+◌, ◌-◌}
use native.Mathlib.Omega.{arith}
use mathlib.Core.Path.{ap, ◌∙◌}
use borrow.Rule.Slice.PartMut.{mid_of}
use mir.Facts.{to_z-of_z}
use Rattle.decimal.specs.Trusted.Columns.{signed_room, signed_field_of}
use Rattle.decimal.specs.Trusted.Reading.{number_of_int}
use Rattle.decimal.specs.Trusted.Writing.{signed_written}
use Rattle.decimal_writer.proofs.PlaceLaws.{place_within, place_past}
use Rattle.decimal_writer.proofs.write_signed_at.Goals as goal

pub returns-then-buf-at : goal.returns-then-buf-at
returns-then-buf-at c =
    let a = c.args in
    place_past (signed_room a.width (number_of_int a.v)) a.buf.now (signed_field_of a.width (number_of_int a.v)) a.at a.width (omega arith)

pub returns : goal.returns
returns c =
    let a = c.args in
    place_within (λ m. signed_room m (number_of_int a.v)) (λ m. signed_field_of m (number_of_int a.v)) a.buf.now c.write_signed.new.dst a.at a.width (omega arith)
    (c.write_signed.ensures ∙ ap (λ z. signed_written (mid_of a.at (a.at + a.width - a.at) a.buf.now) (number_of_int z)) (to_z-of_z c.ranges.v))
