use mathlib.Core.Path.{◌≡◌, sym, ◌∙◌, subst}
use mathlib.Core.List.{[]}
use Rattle.part_records.specs.declared.Reservation.{Reservation}
use Rattle.part.specs.Trusted.AddAnswers.{adding_result}
use Rattle.part.specs.Trusted.Reservations.{withdrawn}
use Rattle.list_reading.specs.Trusted.ReadList.{read_list}
use Rattle.list_reading.specs.Trusted.ListAnswers.{list_answer}
use Rattle.list_numbers.specs.Answered.{answer_code}
use Rattle.list_reservations.specs.ListReservationLaws.{code_unread, code_passed}
use Rattle.list_reservations.specs.Trusted.ListReservations.{CodeAfterList}
use Rattle.list_reservations.proofs.withdraw_from_list.Goals as goal
use Rattle.list_reservations.proofs.withdraw_from_list.Goals.{After-read_reserved-read, Else-code-ne0}

abbrev reservation : After-read_reserved-read → Reservation
reservation c = let a = c.args in record { count = a.reserved; net = a.net }

-- the list was accepted
code_zero : (c : Else-code-ne0) → answer_code (list_answer c.read_reserved-read.result.answer) ≡ 0
code_zero c = sym c.answer_code-code.ensures ∙ c.if-code-ne0.false

pub returns-then-code-ne0 : goal.returns-then-code-ne0
returns-then-code-ne0 c =
    let n = c.answer_code-code.ensures in
    let list = read_list c.args.list.now in
    subst (CodeAfterList (λ p x. x ≡ withdrawn p) list (reservation (goal.at.returns-then-code-ne0 c).After-read_reserved-read)) (sym n)
    (code_unread (λ p x. x ≡ withdrawn p) (reservation (goal.at.returns-then-code-ne0 c).After-read_reserved-read) c.read_reserved-read.result.part _ list c.read_reserved-read.ensures (λ z. c.if-code-ne0.true (n ∙ z)))

pub returns : goal.returns
returns c =
    code_passed (λ p x. x ≡ withdrawn p) (reservation (goal.at.returns c).After-read_reserved-read) c.read_reserved-read.result.part _ (read_list c.args.list.now) c.read_reserved-read.ensures (code_zero (goal.at.returns c).Else-code-ne0)
    (adding_result c.withdraw-answered.result.part c.withdraw-answered.result.answer []) c.withdraw-answered.ensures c.outcome_code.result c.outcome_code.ensures
