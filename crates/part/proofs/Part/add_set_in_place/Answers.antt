use borrow.Author.Rules.{rules}
use mathlib.Core.Path.{◌≡◌, sym, ap, ◌∙◌, subst}
use mathlib.Core.List.{List, []}
use lib.ListN.{length}
use Rattle.std.specs.Prelude.{Err}
use Rattle.table.specs.ResultLaws.{says_true}
use Rattle.set_lengths.specs.LengthLaws.{whole_reflects}
use Rattle.part.specs.Trusted.Tries.{Try}
use Rattle.part.specs.Trusted.Sets.{AddSet}
use Rattle.part.specs.Trusted.SetAnswers.{set_result, Positioned}
use Rattle.part.specs.declared.SetError.TheVariants.{Unsound}
use Rattle.part.proofs.StoringLaws.{levels_refused, levels_given}
use Rattle.part.proofs.SetLaws.{set_unsound, set_unfit, set_fit}
use Rattle.part.proofs.Part.add_set_in_place.Goals as goal

pub returns-in_err-levels : goal.returns-in_err-levels
returns-in_err-levels c =
    let a = c.args in
    let p = a.self.now in
    let (unsound, e) = levels_refused p c.levels.result c.levels.ensures Unsound c.in_err-levels.field-0.0 (sym c.ok_or.ensures.value ∙ c.in_err-levels.was) in
    let r : c.from_residual.result ≡ Err c.in_err-levels.field-0.0 = search rules in
    subst (λ r. (ts : List Try) × AddSet p a.lengths.now a.text.now (set_result p r ts) × Positioned r) (sym (r ∙ ap Err e))
    ([], set_unsound p a.lengths.now a.text.now unsound, tt)

pub returns-then-not-whole : goal.returns-then-not-whole
returns-then-not-whole c =
    let a = c.args in
    let l = levels_given a.self.now c.levels.result c.levels.ensures Unsound c.in_ok-levels.levels (sym c.ok_or.ensures.value ∙ c.in_ok-levels.was) in
    ([], set_unfit a.self.now a.lengths.now a.text.now l.0 (sym c.whole.ensures ∙ c.if-not-whole.true), tt)

pub take_each-requires : goal.take_each-requires
take_each-requires c =
    let a = c.args in
    let l = levels_given a.self.now c.levels.result c.levels.ensures Unsound c.in_ok-levels.levels (sym c.ok_or.ensures.value ∙ c.in_ok-levels.was) in
    (l.1, l.2, says_true (whole_reflects a.lengths.now (length a.text.now)) (sym c.whole.ensures ∙ c.if-not-whole.false))

pub returns : goal.returns
returns c =
    let a = c.args in
    let l = levels_given a.self.now c.levels.result c.levels.ensures Unsound c.in_ok-levels.levels (sym c.ok_or.ensures.value ∙ c.in_ok-levels.was) in
    let t = c.take_each in
    (t.ensures.0, set_fit a.self.now a.lengths.now a.text.now l.0 (sym c.whole.ensures ∙ c.if-not-whole.false) _ t.ensures.1, t.ensures.2)
