-- All that the program prints fits into `fast_longest` bytes: a buffer with that many is never too short.
use Rattle.std.specs.Prelude.{ℕ, ◌≤◌, ◌≡◌, refl, List, length, drop, Result, Ok, Err}
use Rattle.std.proofs.Common.{arith, length-append}
use Rattle.part.specs.Trusted.Parts.{Shaped}
use Rattle.part.specs.Trusted.Sound.{Sound}
use Rattle.part.specs.Trusted.Answers.{Answer, accepted, refused}
use Rattle.part.specs.declared.Part.{Part}
use Rattle.listing.specs.Trusted.Listing.{list_of}
use Rattle.listing.specs.Lines.{longest}
use Rattle.listing.proofs.LineLaws.{list_short}
use Rattle.slacks.specs.Trusted.Slack.{slack_lines}
use Rattle.slacks.specs.SlackLaws.{slacks_short}
use Rattle.fast_opening.specs.Trusted.FastOpening.{fast_numbers, fast_opened_by}
use Rattle.sheets.specs.SheetsBounds.{sheets_short}
use Rattle.program.specs.AnsweredLaws.{answered_front, answered_whole}
use Rattle.fast_program.specs.Trusted.FastProgram.{fast_list, FastAfter, FastPrints}
use Rattle.fast_program.specs.Promises.{FastAnswered, FastAtFront}
use Rattle.fast_program.proofs.FastProgramLaws.{fast_opened_good}
use Rattle.fast_program.specs.FastLongest.{fast_longest}
use Rattle.printing.specs.declared.NoRoom.{NoRoom}

-- a refusal's line has 19 bytes
refusal_short : 19 ≤ fast_longest
unfolding fast_longest longest
refusal_short = omega arith

list_and_slacks_short : (wanted : ℕ) (p : Part) → Sound p → length (fast_list wanted p) ≤ fast_longest
unfolding fast_longest
list_and_slacks_short wanted p h =
    omega (arith, list_short p h, slacks_short wanted p (omega (arith, h.used_fits, h.capacity_range.1)), length-append (list_of p) (slack_lines wanted p))

after_short : (p : Part) (a : Answer) (wanted : ℕ) → (a ≡ accepted → Shaped p × Sound p × (p.used ≡ 0)) → (text out : List ℕ) →
    FastAfter (record { part = p; answer = a; wanted = wanted }) text out → length out ≤ fast_longest
after_short p accepted wanted h text out m = let g = h refl in sheets_short fast_longest refusal_short (list_and_slacks_short wanted) g.0 g.1 m
after_short p (refused number place) wanted h text out e = rw e refusal_short

-- WHAT IS PRINTED IS NO LONGER
pub fast_prints_short : (input out : List ℕ) → FastPrints input out → length out ≤ fast_longest
fast_prints_short input out =
    let r = fast_opened_by (fast_numbers input) in
    after_short r.part r.answer r.wanted (fast_opened_good (fast_numbers input)) (drop 19 input) out

-- A BUFFER OF THAT LENGTH IS NEVER TOO SHORT
module _ {input new old : List ℕ} {r : Result ℕ NoRoom} (enough : fast_longest ≤ length old) (h : FastAnswered input r new old) where
  pub fast_wrote_front : {n : ℕ} → r ≡ Ok n → FastAtFront input n new old
  fast_wrote_front = answered_front fast_longest fast_prints_short enough h

  pub fast_never_short : {x : NoRoom} → r ≡ Err x → ⊥
  fast_never_short = answered_whole fast_longest fast_prints_short enough h
