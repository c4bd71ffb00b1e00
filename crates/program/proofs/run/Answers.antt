use Prim.Native.Nat.{ℕ}
use native.Mathlib.Nat.{pos_of_ne-zero}
use mathlib.Core.List.{List}
use lib.ListN.{drop}
use Rattle.part.specs.Trusted.Ways.{least}
use Rattle.listing.specs.Trusted.Listing.{list_of}
use Rattle.sheets.specs.Trusted.Sheets.{SheetsPrint}
use Rattle.program.specs.Trusted.Program.{Prints}
use Rattle.program.specs.ProgramLaws.{opening_refused, opening_accepted, opening_sound, opening_none}
use Rattle.program.proofs.run.Goals as goal
use Rattle.program.proofs.run.Goals.{After-add_sheets}

-- what comes of the sheets is what is printed
mapped : (c : After-add_sheets) {out : List ℕ} → let input = c.args.input.now in
    SheetsPrint least list_of c.read_opening-start.result.part 0 (drop 13 input) out → Prints input out
mapped c m =
    opening_accepted c.args.input.now c.read_opening-start.result c.read_opening-start.ensures c.if-told-ne0.false _ m

pub print_refusal-requires : goal.print_refusal-requires
print_refusal-requires c = pos_of_ne-zero c.if-told-ne0.true

pub returns-then-told-ne0 : goal.returns-then-told-ne0
returns-then-told-ne0 c =
    record { line = _; prints = opening_refused c.args.input.now c.read_opening-start.result c.read_opening-start.ensures c.if-told-ne0.true; written = c.print_refusal.ensures }

pub add_sheets-requires : goal.add_sheets-requires
add_sheets-requires c =
    let input = c.args.input.now in
    let o = c.read_opening-start in
    (opening_sound input o.result o.ensures c.if-told-ne0.false, opening_none input o.result o.ensures c.if-told-ne0.false)

pub print_list-requires : goal.print_list-requires
print_list-requires c = c.add_sheets.ensures.sound

pub returns-in-Ok : goal.returns-in-Ok
returns-in-Ok c = record { line = _; prints = mapped (goal.at.returns-in-Ok c).After-add_sheets (c.in-Ok.ensures.mapped list_of); written = c.print_list.ensures }

pub print_refusal-requires-in-Err : goal.print_refusal-requires-in-Err
print_refusal-requires-in-Err c = c.in-Err.ensures.numbered

pub returns-in-Err : goal.returns-in-Err
returns-in-Err c =
    record { line = _; prints = mapped (goal.at.returns-in-Err c).After-add_sheets (c.in-Err.ensures.mapped list_of); written = c.print_refusal-in-Err.ensures }
