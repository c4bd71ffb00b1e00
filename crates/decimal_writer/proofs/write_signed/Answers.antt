use Rattle.std.specs.Prelude.{Ok}
use Prim.Native.Nat.{◌-◌}
use mathlib.Core.Path.{◌≡◌, sym, ap, ap₂, ◌∙◌}
use lib.ListN.{length, set}
use mir.Facts.{to_z-of_z}
use Rattle.decimal.specs.Trusted.Columns.{field_of}
use Rattle.decimal.specs.ColumnLaws.{field_length}
use Rattle.decimal.specs.Trusted.Reading.{number_of_int}
use Rattle.decimal.specs.Trusted.Writing.{signed_written}
use Rattle.decimal_writer.proofs.WriteLaws.{plain_written, minus_written, minus_wide}
use Rattle.decimal_writer.proofs.write_signed.Goals as goal
use Rattle.decimal_writer.proofs.write_signed.Goals.{After-negative}

-- what the two calls answer is the number
number : (c : After-negative) →
    number_of_int c.args.v ≡ record { negative = c.negative.result; magnitude = c.magnitude-n.result }
number c =
    let same = to_z-of_z c.ranges.v in
    sym (ap₂ (λ b m. record { negative = b; magnitude = m }) (c.negative.ensures ∙ ap (λ z. (number_of_int z).negative) same)
    (c.magnitude-n.ensures ∙ ap (λ z. (number_of_int z).magnitude) same))

pub returns-then-not-negative : goal.returns-then-not-negative
returns-then-not-negative c =
    let m = c.magnitude-n.result in
    let dst = c.args.dst.now in
    c.write.ensures ∙ plain_written dst m
    ∙ sym (ap (signed_written dst) (number (goal.at.returns-then-not-negative c).After-negative ∙ ap (λ b. record { negative = b; magnitude = m }) c.if-not-negative.true))

pub returns-then-dst-count : goal.returns-then-dst-count
returns-then-dst-count c =
    let m = c.magnitude-n.result in
    let dst = c.args.dst.now in
    minus_wide c.digit_count-count.ensures dst c.if-dst-count.true
    ∙ sym (ap (signed_written dst) (number (goal.at.returns-then-dst-count c).After-negative ∙ ap (λ b. record { negative = b; magnitude = m }) c.if-not-negative.false))

pub returns : goal.returns
returns c =
    let m = c.magnitude-n.result in
    let dst = c.args.dst.now in
    let count = c.digit_count-count.result in
    ap (λ l. record { answer = Ok tt; bytes = set l (length l - count - 1) 45 }) c.put.ensures
    ∙ ap (λ w. record { answer = Ok tt; bytes = set (field_of (length dst) m) (w - count - 1) 45 }) (field_length (length dst) m)
    ∙ minus_written c.digit_count-count.ensures dst c.if-dst-count.false
    ∙ sym (ap (signed_written dst) (number (goal.at.returns c).After-negative ∙ ap (λ b. record { negative = b; magnitude = m }) c.if-not-negative.false))
