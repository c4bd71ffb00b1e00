use mathlib.Core.Path.{◌≡◌, sym, ◌∙◌, subst}
use Rattle.part_records.specs.declared.Reservation.{Reservation}
use Rattle.part.specs.Trusted.AddAnswers.{adding_result}
use Rattle.part.specs.Trusted.Tries.{CallResult}
use Rattle.part.specs.Trusted.Reservations.{Commit}
use Rattle.part.specs.declared.Part.{Part}
use Rattle.list_reading.specs.Trusted.ReadList.{read_list}
use Rattle.list_reading.specs.Trusted.ListAnswers.{list_answer}
use Rattle.list_numbers.specs.Answered.{answer_code}
use Rattle.list_sets.specs.Trusted.ListSets.{AfterList}
use Rattle.list_sets.specs.ListSetLaws.{list_unread, list_passed, beside_shaped, told_of_accepted, after_call}
use Rattle.list_reservations.specs.ListReservationLaws.{commit_list_sound}
use Rattle.list_reservations.proofs.commit_to_list.Goals as goal
use Rattle.list_reservations.proofs.commit_to_list.Goals.{After-commit-committed, After-read_reserved-read, Else-code-ne0}

abbrev reservation : After-read_reserved-read → Reservation
reservation c = let a = c.args in record { count = a.reserved; net = a.net }

-- committing may give this
abbrev Gives : After-read_reserved-read → Part → CallResult → Type 0
Gives c p r = Commit p c.args.text.now r

-- what it gave, with the sheets that were tried
abbrev committed : After-commit-committed → CallResult
committed c = adding_result c.commit-committed.result.part c.commit-committed.result.answer c.commit-committed.ensures.0

-- the list was accepted
code_zero : (c : Else-code-ne0) → answer_code (list_answer c.read_reserved-read.result.answer) ≡ 0
code_zero c = sym c.answer_code-code.ensures ∙ c.if-code-ne0.false

pub returns-then-code-ne0 : goal.returns-then-code-ne0
returns-then-code-ne0 c =
    let n = c.answer_code-code.ensures in
    let a = c.args in
    subst (λ n. AfterList (Gives (goal.at.returns-then-code-ne0 c).After-read_reserved-read) (read_list a.list.now) (reservation (goal.at.returns-then-code-ne0 c).After-read_reserved-read) a.output.now n a.output.now) (sym n)
    (list_unread (reservation (goal.at.returns-then-code-ne0 c).After-read_reserved-read) c.read_reserved-read.result.part _ (Gives (goal.at.returns-then-code-ne0 c).After-read_reserved-read) (read_list a.list.now) c.read_reserved-read.ensures a.output.now (λ z. c.if-code-ne0.true (n ∙ z)))

pub put_outcome-requires : goal.put_outcome-requires
put_outcome-requires c e =
    let a = c.args in
    let shape = beside_shaped (reservation (goal.at.put_outcome-requires c).After-read_reserved-read) c.read_reserved-read.result.part _ a.list.now c.read_reserved-read.ensures (code_zero (goal.at.put_outcome-requires c).Else-code-ne0) in
    commit_list_sound c.read_reserved-read.result.part shape a.text.now (committed (goal.at.put_outcome-requires c).After-commit-committed) c.commit-committed.ensures.1
    (told_of_accepted c.tell_sheet-told.result 0 (committed (goal.at.put_outcome-requires c).After-commit-committed).answer c.tell_sheet-told.ensures e)

pub returns : goal.returns
returns c =
    let a = c.args in
    let p = c.put_outcome in
    let after = after_call (committed (goal.at.returns c).After-commit-committed) c.tell_sheet-told.result c.tell_sheet-told.ensures a.output.now p.result p.new.output p.ensures in
    list_passed (reservation (goal.at.returns c).After-read_reserved-read) c.read_reserved-read.result.part _ (Gives (goal.at.returns c).After-read_reserved-read) (read_list a.list.now) c.read_reserved-read.ensures a.output.now (code_zero (goal.at.returns c).Else-code-ne0)
    (committed (goal.at.returns c).After-commit-committed) c.commit-committed.ensures.1 p.result p.new.output after
