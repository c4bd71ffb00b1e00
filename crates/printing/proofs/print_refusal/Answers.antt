use native.Mathlib.Omega.{arith}
use mathlib.Core.Path.{ap, ◌∙◌}
use Rattle.decimal.specs.Trusted.Writing.{signed_written_at}
use lib.ListN.{length-set}
use Rattle.printing.proofs.Printing.{minus_held, minus_number, refusal_out, refusal_in}
use Rattle.printing.proofs.print_refusal.Goals as goal

pub returns-then-output-lt-REFUSAL : goal.returns-then-output-lt-REFUSAL
returns-then-output-lt-REFUSAL c = let a = c.args in refusal_out a.output.now a.number a.sheet a.place (omega arith)

pub overflow_sub-number : goal.overflow_sub-number
overflow_sub-number c = minus_held c.args.number (omega arith)

pub shape_of-output : goal.shape_of-output
shape_of-output c =
    length-set c.write_at-2.new.buf 18 10 ∙ c.write_at-2.auto.buf ∙ c.write_at.auto.buf
    ∙ c.write_signed_at.auto.buf

pub returns : goal.returns
returns c =
    let a = c.args in
    refusal_in a.output.now a.number a.sheet a.place (omega arith) c.requires (omega arith) (omega arith) (omega arith)
    c.write_signed_at.new.buf c.write_at.new.buf c.write_at-2.new.buf
    (c.write_signed_at.ensures ∙ ap (signed_written_at a.output.now 0 6) (minus_number a.number c.requires (omega arith))) c.write_at.ensures c.write_at-2.ensures
