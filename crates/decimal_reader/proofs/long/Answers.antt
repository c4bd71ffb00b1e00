use Rattle.std.proofs.Common.{arith, ◌∙◌, sym, ap}
use Rattle.decimal.specs.Trusted.Number.{in_word}
use Rattle.decimal.specs.Trusted.Reading.{parsed}
use Rattle.decimal_reader.proofs.NumberLaws.{past_digit, natural_first}
use Rattle.decimal_reader.proofs.long.Goals as goal

pub returns-in_err-checked_mul : goal.returns-in_err-checked_mul
returns-in_err-checked_mul c =
    let past = c.in_err-checked_mul.ensures in
    rw c.from_residual.ensures (sym (ap (λ o. parsed (in_word o)) (natural_first c.args.s.now (omega arith) (λ e. c.if-s-eq48.false e) ∙ c.loop-b.invariant.1)
    ∙ ap parsed (past_digit c.args.s.now c.loop-b.b-index c.loop-b.n (omega arith) (omega (arith, past)))))

pub returns-in_err-n : goal.returns-in_err-n
returns-in_err-n c =
    let past = c.in_err-n.ensures in
    let d = c.in_ok-digit.ensures.value in
    let m = c.in_ok-checked_mul.ensures in
    rw c.from_residual-in_err-n.ensures (sym (ap (λ o. parsed (in_word o)) (natural_first c.args.s.now (omega arith) (λ e. c.if-s-eq48.false e) ∙ c.loop-b.invariant.1)
    ∙ ap parsed (past_digit c.args.s.now c.loop-b.b-index c.loop-b.n (omega arith) (omega (arith, past, d.0, d.1, m)))))
