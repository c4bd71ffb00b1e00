use mathlib.Core.Path.{◌≡◌, sym, ◌∙◌, subst}
use Rattle.part_records.specs.declared.Reservation.{Reservation}
use Rattle.part.specs.Trusted.AddAnswers.{adding_result}
use Rattle.part.specs.Trusted.Tries.{CallResult}
use Rattle.part.specs.Trusted.Reservations.{Reserve}
use Rattle.part.specs.declared.Part.{Part}
use Rattle.list_reading.specs.Trusted.ReadList.{read_list}
use Rattle.list_reading.specs.Trusted.ListAnswers.{list_answer}
use Rattle.list_numbers.specs.Answered.{answer_code}
use Rattle.list_reservations.specs.ListReservationLaws.{code_unread, code_passed}
use Rattle.list_reservations.specs.Trusted.ListReservations.{CodeAfterList}
use Rattle.list_reservations.proofs.reserve_on_list.Goals as goal
use Rattle.list_reservations.proofs.reserve_on_list.Goals.{After-read_reserved-read, Else-code-ne0}

abbrev reservation : After-read_reserved-read → Reservation
reservation c = let a = c.args in record { count = a.reserved; net = a.net }

-- reserving may give this
abbrev Gives : After-read_reserved-read → Part → CallResult → Type 0
Gives c p r = Reserve p c.args.text.now r

-- the list was accepted
code_zero : (c : Else-code-ne0) → answer_code (list_answer c.read_reserved-read.result.answer) ≡ 0
code_zero c = sym c.answer_code-code.ensures ∙ c.if-code-ne0.false

pub returns-then-code-ne0 : goal.returns-then-code-ne0
returns-then-code-ne0 c =
    let n = c.answer_code-code.ensures in
    let list = read_list c.args.list.now in
    subst (CodeAfterList (Gives (goal.at.returns-then-code-ne0 c).After-read_reserved-read) list (reservation (goal.at.returns-then-code-ne0 c).After-read_reserved-read)) (sym n)
    (code_unread (Gives (goal.at.returns-then-code-ne0 c).After-read_reserved-read) (reservation (goal.at.returns-then-code-ne0 c).After-read_reserved-read) c.read_reserved-read.result.part _ list c.read_reserved-read.ensures (λ z. c.if-code-ne0.true (n ∙ z)))

pub returns : goal.returns
returns c =
    code_passed (Gives (goal.at.returns c).After-read_reserved-read) (reservation (goal.at.returns c).After-read_reserved-read) c.read_reserved-read.result.part _ (read_list c.args.list.now) c.read_reserved-read.ensures (code_zero (goal.at.returns c).Else-code-ne0)
    (adding_result c.reserve-answered.result.part c.reserve-answered.result.answer c.reserve-answered.ensures.0) c.reserve-answered.ensures.1 c.outcome_code.result c.outcome_code.ensures
