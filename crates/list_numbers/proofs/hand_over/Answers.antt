use native.Mathlib.Omega.{arith}
use mathlib.Core.Path.{sym, ap, ◌∙◌}
use Rattle.list_reading.specs.Trusted.ListAnswers.{list_answer}
use Rattle.list_numbers.specs.Trusted.Numbers.{numbers_read}
use Rattle.list_numbers.specs.Answered.{came_of}
use Rattle.list_numbers.specs.NumbersLaws.{code_refused, code_accepted}
use Rattle.list_numbers.proofs.hand_over.Goals as goal

pub returns-then-code-ne0 : goal.returns-then-code-ne0
returns-then-code-ne0 c =
    let a = c.args in
    let e = c.answer_code-code.ensures in
    ap (λ n. record { code = n; numbers = a.numbers.now }) e
    ∙ sym (code_refused a.read.part a.numbers.now (list_answer a.read.answer) (λ z. c.if-code-ne0.true (e ∙ z)))

pub returns : goal.returns
returns c =
    let a = c.args in
    let e = code_accepted a.read.answer (sym c.answer_code-code.ensures ∙ omega arith) in
    c.put_part.ensures ∙ ap (λ b. numbers_read (came_of a.read.part b) a.numbers.now) (sym e)
