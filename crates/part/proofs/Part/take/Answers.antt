use borrow.Author.Rules.{rules}
use mathlib.Core.Path.{◌≡◌, sym, subst}
use Rattle.std.specs.Prelude.{Err}
use Rattle.sheet.specs.Trusted.Answers.{number_of, drawn_sheet}
use Rattle.sheet.specs.ReadLaws.{read_formed}
use Rattle.part.specs.Trusted.Add.{Add}
use Rattle.part.specs.Trusted.AddAnswers.{adding_answer}
use Rattle.part.proofs.StoringLaws.{add_misread, add_offered}
use Rattle.part.specs.declared.AddError.TheVariants.{Misread}
use Rattle.part.proofs.Part.take.Goals as goal

pub returns-in_err-sheet : goal.returns-in_err-sheet
returns-in_err-sheet g c =
    let a = c.args in
    let w = g.W.Choose.way in
    let error = c.in_err-sheet.field-0.0 in
    let r : c.from_residual.result ≡ Err (Misread error) = search rules in (
      subst (λ r. Add w a.self.now a.text.now a.self.now (adding_answer r)) (sym r)
          (add_misread w a.self.now a.text.now c.requires.0 (number_of error.why) error.line (sym c.in_err-sheet.ensures)),
      c.requires.1,
    )

pub offer_sheet-requires : goal.offer_sheet-requires
offer_sheet-requires g c = (c.requires.0, read_formed c.args.text.now (drawn_sheet c.in_ok-sheet.sheet) (sym c.in_ok-sheet.ensures), c.requires.1)

pub returns : goal.returns
returns g c =
    let a = c.args in
    let o = c.offer_sheet in
    (add_offered g.W.Choose.way a.self.now a.text.now c.requires.0 (drawn_sheet c.in_ok-sheet.sheet) (sym c.in_ok-sheet.ensures) o.new.self (adding_answer o.result) o.ensures.0, o.ensures.1)
