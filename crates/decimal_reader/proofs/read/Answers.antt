use Rattle.std.proofs.Common.{arith, sym, ap, ◌∙◌}
use Rattle.decimal.specs.Trusted.Reading.{field_answer}
use Rattle.decimal_reader.proofs.NumberLaws.{field_full, number_none, number_after_blanks}
use Rattle.decimal_reader.proofs.read.Goals as goal

pub returns-in_err-first_other : goal.returns-in_err-first_other
returns-in_err-first_other c =
    let s = c.args.s.now in
    c.from_residual.ensures ∙ sym (ap field_answer (field_full s (omega arith) ∙ number_none s (sym c.first_other.ensures ∙ c.in_err-first_other.was)))

pub returns : goal.returns
returns c =
    let s = c.args.s.now in
    c.signed.ensures ∙ sym (ap field_answer (field_full s (omega arith) ∙ number_after_blanks s (sym c.first_other.ensures ∙ c.in_ok-first_other.was)))
