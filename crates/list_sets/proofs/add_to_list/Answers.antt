use mathlib.Core.Path.{◌≡◌, sym, ◌∙◌, subst}
use Rattle.part_records.specs.declared.Reservation.{Reservation}
use Rattle.part.specs.Trusted.Tries.{CallResult}
use Rattle.part.specs.Trusted.Sets.{AddSet}
use Rattle.part.specs.Trusted.SetAnswers.{set_result}
use Rattle.part.specs.declared.Part.{Part}
use Rattle.list_reading.specs.Trusted.ReadList.{read_list}
use Rattle.list_reading.specs.Trusted.ListAnswers.{list_answer}
use Rattle.list_numbers.specs.Answered.{answer_code}
use Rattle.list_sets.specs.Trusted.ListSets.{AfterList}
use Rattle.list_sets.specs.ListSetLaws.{list_unread, list_passed, beside_shaped, told_of_accepted, after_call, added_sound}
use Rattle.list_sets.proofs.add_to_list.Goals as goal
use Rattle.list_sets.proofs.add_to_list.Goals.{After-add_set-added, After-read_reserved-read, Else-code-ne0}

abbrev reservation : After-read_reserved-read → Reservation
reservation c = let a = c.args in record { count = a.reserved; net = a.net }

-- adding the set may give this
abbrev Gives : After-read_reserved-read → Part → CallResult → Type 0
Gives c p r = let a = c.args in AddSet p a.lengths.now a.text.now r

-- the list was accepted
code_zero : (c : Else-code-ne0) → answer_code (list_answer c.read_reserved-read.result.answer) ≡ 0
code_zero c = sym c.answer_code-code.ensures ∙ c.if-code-ne0.false

-- what the call gave, with the sheets that were tried
abbrev added : After-add_set-added → CallResult
added c = set_result c.add_set-added.result.part c.add_set-added.result.answer c.add_set-added.ensures.0

pub returns-then-code-ne0 : goal.returns-then-code-ne0
returns-then-code-ne0 c =
    let n = c.answer_code-code.ensures in
    let a = c.args in
    subst (λ n. AfterList (Gives (goal.at.returns-then-code-ne0 c).After-read_reserved-read) (read_list a.list.now) (reservation (goal.at.returns-then-code-ne0 c).After-read_reserved-read) a.output.now n a.output.now) (sym n)
    (list_unread (reservation (goal.at.returns-then-code-ne0 c).After-read_reserved-read) c.read_reserved-read.result.part _ (Gives (goal.at.returns-then-code-ne0 c).After-read_reserved-read) (read_list a.list.now) c.read_reserved-read.ensures a.output.now (λ z. c.if-code-ne0.true (n ∙ z)))

pub put_outcome-requires : goal.put_outcome-requires
put_outcome-requires c e =
    let a = c.args in
    let shape = beside_shaped (reservation (goal.at.put_outcome-requires c).After-read_reserved-read) c.read_reserved-read.result.part _ a.list.now c.read_reserved-read.ensures (code_zero (goal.at.put_outcome-requires c).Else-code-ne0) in
    added_sound c.read_reserved-read.result.part shape a.lengths.now a.text.now (added (goal.at.put_outcome-requires c).After-add_set-added) c.add_set-added.ensures.1
    (told_of_accepted c.tell_set-told.result (added (goal.at.put_outcome-requires c).After-add_set-added).position (added (goal.at.put_outcome-requires c).After-add_set-added).answer c.tell_set-told.ensures e)

pub returns : goal.returns
returns c =
    let a = c.args in
    let p = c.put_outcome in
    let after = after_call (added (goal.at.returns c).After-add_set-added) c.tell_set-told.result c.tell_set-told.ensures a.output.now p.result p.new.output p.ensures in
    list_passed (reservation (goal.at.returns c).After-read_reserved-read) c.read_reserved-read.result.part _ (Gives (goal.at.returns c).After-read_reserved-read) (read_list a.list.now) c.read_reserved-read.ensures a.output.now (code_zero (goal.at.returns c).Else-code-ne0)
    (added (goal.at.returns c).After-add_set-added) c.add_set-added.ensures.1 p.result p.new.output after
