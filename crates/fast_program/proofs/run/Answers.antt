use Prim.Native.Nat.{ℕ}
use native.Mathlib.Nat.{pos_of_ne-zero}
use mathlib.Core.List.{List}
use lib.ListN.{drop}
use Rattle.part.specs.Trusted.Ways.{fastest}
use Rattle.sheets.specs.Trusted.Sheets.{SheetsPrint}
use Rattle.fast_program.specs.Trusted.FastProgram.{fast_list, FastPrints}
use Rattle.fast_program.proofs.FastProgramLaws.{fast_refused, fast_accepted, fast_opened}
use Rattle.fast_program.proofs.run.Goals as goal
use Rattle.fast_program.proofs.run.Goals.{After-add_sheets_fast}

-- what comes of the sheets is what is printed
mapped : (c : After-add_sheets_fast) {out : List ℕ} → let input = c.args.input.now in
    SheetsPrint fastest (fast_list c.read_fast_opening-start.result.wanted) c.read_fast_opening-start.result.part 0 (drop 19 input) out → FastPrints input out
mapped c m =
    fast_accepted c.args.input.now c.read_fast_opening-start.result c.read_fast_opening-start.ensures c.if-told-ne0.false _ m

pub print_refusal-requires : goal.print_refusal-requires
print_refusal-requires c = pos_of_ne-zero c.if-told-ne0.true

pub returns-then-told-ne0 : goal.returns-then-told-ne0
returns-then-told-ne0 c =
    record { line = _; prints = fast_refused c.args.input.now c.read_fast_opening-start.result c.read_fast_opening-start.ensures c.if-told-ne0.true; written = c.print_refusal.ensures }

pub add_sheets_fast-requires : goal.add_sheets_fast-requires
add_sheets_fast-requires c =
    let o = c.read_fast_opening-start in
    fast_opened c.args.input.now o.result o.ensures c.if-told-ne0.false

pub print_fast_list-requires : goal.print_fast_list-requires
print_fast_list-requires c = c.add_sheets_fast.ensures.sound

pub returns-in-Ok : goal.returns-in-Ok
returns-in-Ok c =
    record { line = _; prints = mapped (goal.at.returns-in-Ok c).After-add_sheets_fast (c.in-Ok.ensures.mapped (fast_list c.read_fast_opening-start.result.wanted)); written = c.print_fast_list.ensures }

pub print_refusal-requires-in-Err : goal.print_refusal-requires-in-Err
print_refusal-requires-in-Err c = c.in-Err.ensures.numbered

pub returns-in-Err : goal.returns-in-Err
returns-in-Err c =
    record { line = _; prints = mapped (goal.at.returns-in-Err c).After-add_sheets_fast (c.in-Err.ensures.mapped (fast_list c.read_fast_opening-start.result.wanted)); written = c.print_refusal-in-Err.ensures }
