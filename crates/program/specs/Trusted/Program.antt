-- What the mapping program prints for an input: 01, "List". Which least covers are taken is free, so it is a relation.
-- Definitions only: the laws are in ProgramLaws and RoomLaws, those of the sheets in SheetsLaws of sheets. Runs in program_laws has the same as a list of adds.
use Rattle.std.specs.Prelude.{ℕ, ◌≡◌, List, drop}
use Rattle.part.specs.Trusted.Ways.{least}
use Rattle.part.specs.Trusted.Answers.{accepted, refused, Result}
use Rattle.listing.specs.Trusted.Listing.{list_of}
use Rattle.opening.specs.Trusted.Opening.{opening_numbers, opened_by}
use Rattle.printing.specs.Trusted.RefusalLine.{refusal_line}
use Rattle.sheets.specs.Trusted.Sheets.{SheetsPrint}

-- WHAT IS PRINTED, after an opening: the refusal, or what comes of the text after the line
abbrev pub After : Result → List ℕ → List ℕ → Type 0
After r text out = elim r.answer [ accepted ↦ SheetsPrint least list_of r.part 0 text out | refused number place ↦ out ≡ refusal_line number 0 place ]

abbrev pub Prints : List ℕ → List ℕ → Type 0
Prints input out = After (opened_by (opening_numbers input)) (drop 13 input) out
