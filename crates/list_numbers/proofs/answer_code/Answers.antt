use mathlib.Core.Path.{sym, ap}
use Rattle.list_reading.specs.Trusted.ListAnswers.{list_answer}
use Rattle.list_numbers.specs.Answered.{answer_code}
use Rattle.list_numbers.proofs.answer_code.Goals as goal

pub returns-in-NotLaidOut : goal.returns-in-NotLaidOut
returns-in-NotLaidOut c = ap (λ a. answer_code (list_answer a)) (sym c.in-NotLaidOut.is)

pub returns-in-RuleBroken : goal.returns-in-RuleBroken
returns-in-RuleBroken c = ap (λ a. answer_code (list_answer a)) (sym c.in-RuleBroken.is)
