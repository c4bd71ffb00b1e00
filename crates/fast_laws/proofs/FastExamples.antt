-- What the program for the fewest levels prints, by computation: refusals of the opening line, no sheets, and 01's example with the wanted level 1.
use Rattle.std.proofs.Common.{arith}
use Rattle.std.specs.Prelude.{refl, [], ◌∷◌, ◌++◌}
use Rattle.lists.specs.Trusted.Checked.{◌>>=◌, require, given}
use Rattle.sheet.specs.Checks.{bytes}
use Rattle.part.specs.Trusted.Parts.{blanks}
use Rattle.part.specs.Trusted.Ways.{fastest}
use Rattle.part.specs.Trusted.Answers.{accepted}
use Rattle.demands.specs.Trusted.Calls.{add, one_sheet}
use Rattle.demands.proofs.ChainExample.{first, second, first_text, second_text, first_read, second_read, start, middle, end_part, fastest_1, fastest_2, fast_add_1, fast_add}
use Rattle.sheets.specs.Trusted.Sheets.{ended, added}
use Rattle.fast_program.specs.Trusted.FastProgram.{FastPrints}
use Rattle.fast_laws.specs.Trusted.FastRuns.{SlacksOf, no_sheet_lem, sheet}

-- a wanted level of 1,025 is refused, whatever follows, and a capacity of 801 before it
too_high : FastPrints (bytes "     4     8  1025\n" ++ first_text) (bytes "   -34     0     0\n")
too_high = refl

capacity_first : FastPrints (bytes "     4   801  1025\n") (bytes "    -3     0     0\n")
capacity_first = refl

-- of no sheets line 0 alone, and no slack line
no_sheets : FastPrints (bytes "     4     8     3\n") (bytes "     4     8     0\n")
unfolding blanks
no_sheets = ended

-- both sheets, and the slacks of both
drawing_printed : FastPrints (bytes "     4     8     1\n" ++ (first_text ++ second_text))
    (bytes "     4     8     2\n     1    20     4     1     2     3     4                61152\n     2    21     2     5    20                   11\n    20     0\n    21    -1\n")
unfolding ◌>>=◌ require given blanks
drawing_printed = added {text = first_text ++ second_text} middle (omega arith) fast_add_1 (added {text = second_text} end_part (omega arith) fast_add ended)

-- sheet by sheet: the first has the root level 1 on the empty part, the second 2 on the part with the first
drawing_slacks : SlacksOf 1 start (add fastest first_text ∷ add fastest second_text ∷ [])
    (one_sheet fastest first_text start middle accepted ∷ one_sheet fastest second_text middle end_part accepted ∷ []) (bytes "    20     0\n    21    -1\n")
unfolding blanks
drawing_slacks = sheet first 1 1 first_read fastest_1 (sheet second 1 2 second_read fastest_2 no_sheet_lem)
