use borrow.Author.Rules.{rules}
use mathlib.Core.Path.{◌≡◌, sym, ap, ◌∙◌, subst}
use Rattle.std.specs.Prelude.{Err}
use Rattle.part.specs.Trusted.Add.{Add}
use Rattle.part.specs.Trusted.AddAnswers.{adding_answer}
use Rattle.part.specs.declared.AddError.TheVariants.{Unsound}
use Rattle.part.proofs.StoringLaws.{add_unsound, levels_refused, levels_given}
use Rattle.part.proofs.Part.add_by.Goals as goal

pub returns-in_err-levels : goal.returns-in_err-levels
returns-in_err-levels g c =
    let a = c.args in
    let w = g.W.Choose.way in
    let (unsound, e) = levels_refused a.self.now c.levels.result c.levels.ensures Unsound c.in_err-levels.field-0.0 (sym c.ok_or.ensures.value ∙ c.in_err-levels.was) in
    let r : c.from_residual.result ≡ Err c.in_err-levels.field-0.0 = search rules in
    subst (λ r. Add w a.self.now a.text.now a.self.now (adding_answer r)) (sym (r ∙ ap Err e)) (add_unsound w a.self.now a.text.now unsound)

pub take-requires : goal.take-requires
take-requires g c =
    let l = levels_given c.args.self.now c.levels.result c.levels.ensures Unsound c.in_ok-levels.levels (sym c.ok_or.ensures.value ∙ c.in_ok-levels.was) in
    (l.1, l.2)
