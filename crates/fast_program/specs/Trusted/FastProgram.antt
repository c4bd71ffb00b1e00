-- What the program for the fewest levels prints for an input: 02, #107. Which of the fastest covers are taken is free, so it is a relation.
-- Definitions only: the laws are in FastProgramLaws, FastRoomLaws and FastFrontLaws, those of the sheets in SheetsLaws of sheets.
use Rattle.std.specs.Prelude.{ℕ, ◌≡◌, List, ◌++◌, drop}
use Rattle.part.specs.Trusted.Ways.{fastest}
use Rattle.part.specs.Trusted.Answers.{accepted, refused}
use Rattle.part.specs.declared.Part.{Part}
use Rattle.listing.specs.Trusted.Listing.{list_of}
use Rattle.slacks.specs.Trusted.Slack.{slack_lines}
use Rattle.fast_opening.specs.Trusted.FastOpening.{FastStart, fast_numbers, fast_opened_by}
use Rattle.printing.specs.Trusted.RefusalLine.{refusal_line}
use Rattle.sheets.specs.Trusted.Sheets.{SheetsPrint}

-- of the last part: its list, and after it a line for each of its nets
abbrev pub fast_list : (wanted : ℕ) → Part → List ℕ
fast_list wanted p = list_of p ++ slack_lines wanted p

-- WHAT IS PRINTED, after an opening: the refusal, or what comes of the text after the line
abbrev pub FastAfter : FastStart → List ℕ → List ℕ → Type 0
FastAfter r text out =
    elim r.answer [ accepted ↦ SheetsPrint fastest (fast_list r.wanted) r.part 0 text out | refused number place ↦ out ≡ refusal_line number 0 place ]

abbrev pub FastPrints : List ℕ → List ℕ → Type 0
FastPrints input out = FastAfter (fast_opened_by (fast_numbers input)) (drop 19 input) out
