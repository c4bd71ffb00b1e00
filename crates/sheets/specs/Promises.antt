-- What the functions promise. Internal definitions: the laws are in SheetsLaws.
use Rattle.std.specs.Prelude.{ℕ, ◌≤◌, ◌<◌, ◌≡◌, List, length, drop, Result, Ok, Err, IfOk, IfErr}
use Rattle.sheet.specs.Trusted.Cut.{sheet_text}
use Rattle.part.specs.Trusted.Parts.{Shaped}
use Rattle.part.specs.Trusted.Sound.{Sound}
use Rattle.part.specs.Trusted.Answers.{Answer, accepted}
use Rattle.part.specs.Trusted.AddAnswers.{add_refusal}
use Rattle.part.specs.Trusted.Ways.{Way}
use Rattle.part.specs.Trusted.Add.{Add}
use Rattle.part.specs.declared.Part.{Part}
use Rattle.part.specs.declared.AddError.{AddError}
use Rattle.part.specs.declared.NumberedRefusal.{NumberedRefusal}
use Rattle.printing.specs.Trusted.RefusalLine.{refusal_line}
use Rattle.sheets.specs.Trusted.Sheets.{SheetsPrint}

-- ---- one sheet of an input, at a place

-- what an add of it answers, by the place after it or its refusal
abbrev pub step_answer : Result ℕ AddError → Answer
step_answer (Ok end) = accepted
step_answer (Err why) = add_refusal why

-- it was added to the part p, which is then q, and the next place is `end`
pub record Onwards (input : List ℕ) (p : Part) (at : ℕ) (q : Part) (end : ℕ) : Type 0 where
  pub rest : (sheet_text (drop at input)).1 ≡ drop end input
  pub grown : p.used < q.used
  pub after : at < end
  pub within : end ≤ length input

pub record Stepped (w : Way) (input : List ℕ) (p : Part) (at : ℕ) (q : Part) (r : Result ℕ AddError) : Type 0 where
  pub add : Add w p (sheet_text (drop at input)).0 q (step_answer r)
  pub shaped : Shaped p → Shaped q
  pub sound : Sound q
  pub onwards : IfOk r (Onwards input p at q)

-- ---- all sheets

-- what is printed at the end, where `final` has what is printed of the last part
abbrev pub end_line : (Part → List ℕ) → Part → Result (Unit {0}) NumberedRefusal → List ℕ
end_line final q (Ok done) = final q
end_line final q (Err why) = refusal_line why.number why.sheet why.line

pub record Ended (w : Way) (p : Part) (text : List ℕ) (q : Part) (r : Result (Unit {0}) NumberedRefusal) : Type 0 where
  pub mapped : (final : Part → List ℕ) → SheetsPrint w final p 0 text (end_line final q r)
  pub sound : Sound q
  pub numbered : IfErr r (λ why. 0 < why.number)
