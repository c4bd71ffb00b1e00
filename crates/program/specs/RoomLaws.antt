-- All that the program prints fits into `longest` bytes: a buffer with that many is never too short.
use Rattle.std.specs.Prelude.{ℕ, ◌≤◌, ◌≡◌, refl, List, length, drop, Result, Ok, Err}
use Rattle.std.proofs.Common.{arith}
use Rattle.part.specs.Trusted.Parts.{Shaped}
use Rattle.part.specs.Trusted.Sound.{Sound}
use Rattle.part.specs.Trusted.Answers.{Answer, accepted, refused}
use Rattle.part.specs.declared.Part.{Part}
use Rattle.listing.specs.Lines.{longest}
use Rattle.listing.proofs.LineLaws.{list_short}
use Rattle.opening.specs.Trusted.Opening.{opening_numbers, opened_by}
use Rattle.sheets.specs.SheetsBounds.{sheets_short}
use Rattle.program.specs.Trusted.Program.{After, Prints}
use Rattle.program.specs.Promises.{Answered, AtFront}
use Rattle.program.specs.ProgramLaws.{opened_good}
use Rattle.program.specs.AnsweredLaws.{answered_front, answered_whole}
use Rattle.printing.specs.declared.NoRoom.{NoRoom}

-- a refusal's line has 19 bytes
refusal_short : 19 ≤ longest
unfolding longest
refusal_short = omega arith

after_short : (p : Part) (a : Answer) → (a ≡ accepted → Shaped p × Sound p) → (text out : List ℕ) → After (record { part = p; answer = a }) text out → length out ≤ longest
after_short p accepted h text out m = let g = h refl in sheets_short longest refusal_short list_short g.0 g.1 m
after_short p (refused number place) h text out e = rw e refusal_short

-- WHAT IS PRINTED IS NO LONGER THAN THE LONGEST LIST
pub prints_short : (input out : List ℕ) → Prints input out → length out ≤ longest
prints_short input out =
    let r = opened_by (opening_numbers input) in
    after_short r.part r.answer (opened_good (opening_numbers input)) (drop 13 input) out

-- A BUFFER OF THE LONGEST LIST'S LENGTH IS NEVER TOO SHORT
module _ {input new old : List ℕ} {r : Result ℕ NoRoom} (enough : longest ≤ length old) (h : Answered input r new old) where
  pub wrote_front : {n : ℕ} → r ≡ Ok n → AtFront input n new old
  wrote_front = answered_front longest prints_short enough h

  pub never_short : {x : NoRoom} → r ≡ Err x → ⊥
  never_short = answered_whole longest prints_short enough h
