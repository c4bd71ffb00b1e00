use borrow.Author.Rules.{rules}
use mathlib.Core.Path.{◌≡◌, sym, subst}
use mathlib.Core.List.{List, []}
use Rattle.std.specs.Prelude.{Err}
use Rattle.sheet.specs.Trusted.Answers.{number_of, drawn_sheet}
use Rattle.sheet.specs.ReadLaws.{read_formed}
use Rattle.table.specs.LevelTest.{LevelsStand}
use Rattle.part.specs.Trusted.Parts.{tables_of, released}
use Rattle.part.specs.Trusted.Sound.{Sound}
use Rattle.joined.specs.Trusted.Covered.{covered}
use Rattle.part.specs.Trusted.Answers.{accepted}
use Rattle.part.specs.Trusted.Ways.{least}
use Rattle.part.specs.Trusted.Add.{Offer}
use Rattle.part.specs.Trusted.Tries.{Try}
use Rattle.part.specs.Trusted.Reservations.{Committed}
use Rattle.part.specs.Trusted.AddAnswers.{add_refusal, adding_result}
use Rattle.joined_mapper.specs.JoinedMap.{circuit_of}
use Rattle.part.proofs.SetLaws.{refusal}
use Rattle.part.proofs.ReserveLaws.{released_sound, commit_sheet, commit_misread, commit_other, commit_refused, commit_accepted}
use Rattle.part.specs.declared.AddError.TheVariants.{Misread}
use Rattle.part.proofs.Part.commit_sheet.Goals as goal

pub returns-in_err-sheet : goal.returns-in_err-sheet
returns-in_err-sheet c =
    let p = c.args.self.now in
    let text = c.args.text.now in
    let error = c.in_err-sheet.field-0.0 in
    let r : c.from_residual.result ≡ Err (Misread error) = search rules in
    subst (λ r. (ts : List Try) × Committed p text (adding_result p r ts)) (sym r)
    (_, commit_misread p text c.requires.0 (number_of error.why) error.line (sym c.in_err-sheet.ensures))

pub returns-then-sheet-self : goal.returns-then-sheet-self
returns-then-sheet-self c = ([], commit_other c.args.self.now c.args.text.now c.requires.0 (drawn_sheet c.in_ok-sheet.sheet) (sym c.in_ok-sheet.ensures) c.if-sheet-self.true)

pub offer_sheet-requires : goal.offer_sheet-requires
offer_sheet-requires c =
    let a = c.args in (
      subst Sound (sym c.release.ensures) (released_sound a.self.now c.requires.0),
      read_formed a.text.now (drawn_sheet c.in_ok-sheet.sheet) (sym c.in_ok-sheet.ensures),
      subst (λ p. LevelsStand a.levels.now (tables_of p)) (sym c.release.ensures) c.requires.1,
    )

pub returns-in_err-offer_sheet : goal.returns-in_err-offer_sheet
returns-in_err-offer_sheet c =
    let p = c.args.self.now in
    let text = c.args.text.now in
    let d = drawn_sheet c.in_ok-sheet.sheet in
    let q = c.offer_sheet.new.self in
    let why = c.in_err-offer_sheet.field-0.0 in
    let (number, place, i) = refusal why in
    let r : c.from_residual-in_err-offer_sheet.result ≡ Err why = search rules in
    let o = subst (λ o. Offer least o (circuit_of c.in_ok-sheet.sheet) q (add_refusal why)) c.release.ensures c.in_err-offer_sheet.ensures.0 in
    subst (λ r. (ts : List Try) × Committed p text (adding_result p r ts)) (sym r) (
      _,
      subst (λ a. Committed p text (commit_sheet p text p q a)) (sym i)
          (commit_refused p text c.requires.0 d (sym c.in_ok-sheet.ensures) c.if-sheet-self.false q number place (subst (Offer least (released p) (covered d) q) i o)),
    )

pub returns : goal.returns
returns c =
    let p = c.args.self.now in
    let d = drawn_sheet c.in_ok-sheet.sheet in
    let q = c.offer_sheet.new.self in
    let o = subst (λ o. Offer least o (circuit_of c.in_ok-sheet.sheet) q accepted) c.release.ensures c.in_ok-offer_sheet.ensures.0 in
    (_, commit_accepted p c.args.text.now c.requires.0 d (sym c.in_ok-sheet.ensures) c.if-sheet-self.false q o)
