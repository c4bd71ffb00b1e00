use borrow.Author.Rules.{rules}
use mathlib.Core.Path.{◌≡◌, sym, ap, ◌∙◌, subst}
use mathlib.Core.List.{List, []}
use Rattle.std.specs.Prelude.{Err}
use Rattle.part.specs.Trusted.Tries.{Try}
use Rattle.part.specs.Trusted.Reservations.{Commit}
use Rattle.part.specs.Trusted.AddAnswers.{adding_result}
use Rattle.part.specs.declared.AddError.TheVariants.{Unsound}
use Rattle.part.proofs.StoringLaws.{levels_refused, levels_given}
use Rattle.part.proofs.ReserveLaws.{commit_unsound, commit_closed, commit_tried}
use Rattle.part.proofs.Part.commit_in_place.Goals as goal

pub returns-in_err-levels : goal.returns-in_err-levels
returns-in_err-levels c =
    let p = c.args.self.now in
    let text = c.args.text.now in
    let (unsound, e) = levels_refused p c.levels.result c.levels.ensures Unsound c.in_err-levels.field-0.0 (sym c.ok_or.ensures.value ∙ c.in_err-levels.was) in
    let r : c.from_residual.result ≡ Err c.in_err-levels.field-0.0 = search rules in
    subst (λ r. (ts : List Try) × Commit p text (adding_result p r ts)) (sym (r ∙ ap Err e)) ([], commit_unsound p text unsound)

pub returns-then-not-is_reserved : goal.returns-then-not-is_reserved
returns-then-not-is_reserved c =
    let p = c.args.self.now in
    let l = levels_given p c.levels.result c.levels.ensures Unsound c.in_ok-levels.levels (sym c.ok_or.ensures.value ∙ c.in_ok-levels.was) in
    ([], commit_closed p c.args.text.now l.0 (sym c.is_reserved.ensures ∙ c.if-not-is_reserved.true))

pub commit_sheet-requires : goal.commit_sheet-requires
commit_sheet-requires c =
    let l = levels_given c.args.self.now c.levels.result c.levels.ensures Unsound c.in_ok-levels.levels (sym c.ok_or.ensures.value ∙ c.in_ok-levels.was) in
    (l.1, l.2)

pub returns : goal.returns
returns c =
    let p = c.args.self.now in
    let l = levels_given p c.levels.result c.levels.ensures Unsound c.in_ok-levels.levels (sym c.ok_or.ensures.value ∙ c.in_ok-levels.was) in
    let t = c.commit_sheet in
    (t.ensures.0, commit_tried p c.args.text.now l.0 (sym c.is_reserved.ensures ∙ c.if-not-is_reserved.false) _ t.ensures.1)
