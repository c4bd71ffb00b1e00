-- What is printed for the sheets of an input: 01, "List". Which covers of those that the way allows are taken is free, so it is a relation.
-- Definitions only: the laws are in SheetsLaws.
use Rattle.std.specs.Prelude.{ℕ, suc, ◌<◌, List, [], length}
use Rattle.sheet.specs.Trusted.Cut.{sheet_text}
use Rattle.part.specs.Trusted.Answers.{accepted, refused}
use Rattle.part.specs.Trusted.Ways.{Way}
use Rattle.part.specs.Trusted.Add.{Add}
use Rattle.part.specs.declared.Part.{Part}
use Rattle.printing.specs.Trusted.RefusalLine.{refusal_line}

-- THE SHEETS of a text, added one after the other to the part p in the way w, where `n` were added before: each is as many lines as its
-- gate count says, the first that is refused ends the reading, and where none is it is printed what `final` has for the last part
pub data SheetsPrint (w : Way) (final : Part → List ℕ) : Part → ℕ → List ℕ → List ℕ → Type 0 where
  ended : {p : Part} {n : ℕ} → SheetsPrint w final p n [] (final p)
  stopped : {p : Part} {n : ℕ} {text : List ℕ} (q : Part) (number place : ℕ) → 0 < length text → Add w p (sheet_text text).0 q (refused number place) →
      SheetsPrint w final p n text (refusal_line number (suc n) place)
  added : {p : Part} {n : ℕ} {text out : List ℕ} (q : Part) → 0 < length text → Add w p (sheet_text text).0 q accepted →
      SheetsPrint w final q (suc n) (sheet_text text).1 out → SheetsPrint w final p n text out
