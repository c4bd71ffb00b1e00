use Rattle.std.specs.Prelude.{Ok}
use mathlib.Core.Path.{sym, ap, ◌∙◌}
use lib.ListN.{length}
use Rattle.decimal.specs.Trusted.Columns.{field_of}
use Rattle.decimal.specs.Trusted.Writing.{write_if}
use Rattle.decimal_writer.proofs.WriteLaws.{has_room, no_room}
use Rattle.decimal_writer.proofs.write.Goals as goal

pub returns-then-dst-digit_count : goal.returns-then-dst-digit_count
returns-then-dst-digit_count c =
    let a = c.args in
    let dst = a.dst.now in
    sym (ap (λ b. write_if b (field_of (length dst) a.n) dst) (no_room c.digit_count.ensures (length dst) c.if-dst-digit_count.true))

pub returns : goal.returns
returns c =
    let a = c.args in
    let dst = a.dst.now in
    ap (λ l. record { answer = Ok tt; bytes = l }) c.put.ensures
    ∙ sym (ap (λ b. write_if b (field_of (length dst) a.n) dst) (has_room c.digit_count.ensures (length dst) c.if-dst-digit_count.false))
