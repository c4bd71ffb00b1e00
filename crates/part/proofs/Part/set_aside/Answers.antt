use borrow.Author.Rules.{rules}
use mathlib.Core.Path.{◌≡◌, sym, subst}
use Rattle.std.specs.Prelude.{Err}
use Rattle.sheet.specs.Trusted.Answers.{number_of, drawn_sheet}
use Rattle.sheet.specs.ReadLaws.{read_formed}
use Rattle.joined.specs.Trusted.Covered.{covered}
use Rattle.part.specs.Trusted.Answers.{accepted}
use Rattle.part.specs.Trusted.Ways.{least}
use Rattle.part.specs.Trusted.Add.{Add}
use Rattle.part.specs.Trusted.AddAnswers.{add_refusal, adding_answer}
use Rattle.part.specs.Trusted.Reservations.{Reserves}
use Rattle.part.proofs.StoringLaws.{add_misread, add_offered}
use Rattle.part.proofs.SetLaws.{refusal}
use Rattle.part.proofs.ReserveLaws.{covered_read, aside_refused, aside_accepted}
use Rattle.part.specs.declared.AddError.TheVariants.{Misread}
use Rattle.part.proofs.Part.set_aside.Goals as goal

pub returns-in_err-sheet : goal.returns-in_err-sheet
returns-in_err-sheet c =
    let p = c.args.self.now in
    let text = c.args.text.now in
    let error = c.in_err-sheet.field-0.0 in
    let r : c.from_residual.result ≡ Err (Misread error) = search rules in
    subst (λ r. Reserves least p text p (adding_answer r)) (sym r)
    (aside_refused p text p (number_of error.why) error.line (add_misread least p text c.requires.0 (number_of error.why) error.line (sym c.in_err-sheet.ensures)))

pub offer_sheet-requires : goal.offer_sheet-requires
offer_sheet-requires c = (c.requires.0, read_formed c.args.text.now (drawn_sheet c.in_ok-sheet.sheet) (sym c.in_ok-sheet.ensures), c.requires.1)

pub returns-in_err-offer_sheet : goal.returns-in_err-offer_sheet
returns-in_err-offer_sheet c =
    let p = c.args.self.now in
    let text = c.args.text.now in
    let why = c.in_err-offer_sheet.field-0.0 in
    let q = c.offer_sheet.new.self in
    let (number, place, e) = refusal why in
    let r : c.from_residual-in_err-offer_sheet.result ≡ Err why = search rules in
    let g = add_offered least p text c.requires.0 (drawn_sheet c.in_ok-sheet.sheet) (sym c.in_ok-sheet.ensures) q (add_refusal why) c.in_err-offer_sheet.ensures.0 in
    subst (λ r. Reserves least p text p (adding_answer r)) (sym r)
    (subst (Reserves least p text p) (sym e) (aside_refused p text q number place (subst (Add least p text q) e g)))

pub returns : goal.returns
returns c =
    let p = c.args.self.now in
    let text = c.args.text.now in
    let d = drawn_sheet c.in_ok-sheet.sheet in
    let q = c.offer_sheet.new.self in
    aside_accepted p text q (add_offered least p text c.requires.0 d (sym c.in_ok-sheet.ensures) q accepted c.in_ok-offer_sheet.ensures.0)
    (covered d) (covered_read text d (sym c.in_ok-sheet.ensures))
