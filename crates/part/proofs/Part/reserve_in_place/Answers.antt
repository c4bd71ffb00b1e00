use borrow.Author.Rules.{rules}
use mathlib.Core.Path.{◌≡◌, sym, ap, ◌∙◌, subst}
use mathlib.Core.List.{List, []}
use Rattle.std.specs.Prelude.{Err}
use Rattle.part.specs.Trusted.Tries.{Try}
use Rattle.part.specs.Trusted.Reservations.{Reserve}
use Rattle.part.specs.Trusted.AddAnswers.{adding_answer, adding_result}
use Rattle.part.specs.declared.AddError.TheVariants.{Unsound}
use Rattle.part.proofs.StoringLaws.{levels_refused, levels_given}
use Rattle.part.proofs.ReserveLaws.{reserve_unsound, reserve_open, reserve_tried}
use Rattle.part.proofs.Part.reserve_in_place.Goals as goal

pub returns-in_err-levels : goal.returns-in_err-levels
returns-in_err-levels c =
    let p = c.args.self.now in
    let text = c.args.text.now in
    let (unsound, e) = levels_refused p c.levels.result c.levels.ensures Unsound c.in_err-levels.field-0.0 (sym c.ok_or.ensures.value ∙ c.in_err-levels.was) in
    let r : c.from_residual.result ≡ Err c.in_err-levels.field-0.0 = search rules in
    subst (λ r. (ts : List Try) × Reserve p text (adding_result p r ts)) (sym (r ∙ ap Err e)) ([], reserve_unsound p text unsound)

pub returns-then-is_reserved : goal.returns-then-is_reserved
returns-then-is_reserved c =
    let p = c.args.self.now in
    let l = levels_given p c.levels.result c.levels.ensures Unsound c.in_ok-levels.levels (sym c.ok_or.ensures.value ∙ c.in_ok-levels.was) in
    ([], reserve_open p c.args.text.now l.0 (sym c.is_reserved.ensures ∙ c.if-is_reserved.true))

pub set_aside-requires : goal.set_aside-requires
set_aside-requires c =
    let l = levels_given c.args.self.now c.levels.result c.levels.ensures Unsound c.in_ok-levels.levels (sym c.ok_or.ensures.value ∙ c.in_ok-levels.was) in
    (l.1, l.2)

pub returns : goal.returns
returns c =
    let p = c.args.self.now in
    let l = levels_given p c.levels.result c.levels.ensures Unsound c.in_ok-levels.levels (sym c.ok_or.ensures.value ∙ c.in_ok-levels.was) in
    let t = c.set_aside in
    (_, reserve_tried p c.args.text.now l.0 (sym c.is_reserved.ensures ∙ c.if-is_reserved.false) t.new.self (adding_answer t.result) t.ensures)
