use Prim.Native.Nat.{◌+◌}
use mathlib.Core.Path.{◌≡◌, sym, subst}
use lib.ListN.{length}
use Rattle.std.specs.Prelude.{Ok}
use Rattle.std.proofs.lemmas.Result.{err_from_is_err_and}
use Rattle.listing.specs.Trusted.Listing.{list_of}
use Rattle.slacks.specs.Trusted.Slack.{slack_lines}
use Rattle.printing.specs.Promises.{WrittenAs}
use Rattle.fast_program.specs.Trusted.FastProgram.{fast_list}
use Rattle.fast_program.specs.FastListLaws.{list_width, written_behind, unwritten_behind}
use Rattle.fast_program.proofs.print_fast_list.Goals as goal
use Rattle.fast_program.proofs.print_fast_list.Goals.{After-lines_width-width, After-print_list}

-- the place is where the list ends
width_is : (c : After-lines_width-width) → 19 + c.lines_width-width.result ≡ length (list_of c.args.part)
width_is c = list_width c.args.part c.lines_width-width.result c.lines_width-width.ensures.0

-- the slacks are written, and then the list
written : (c : After-print_list) → let a = c.args in let n = c.in_ok-slacks.slacks in
    (n ≡ length (slack_lines a.wanted a.part))
    × WrittenAs (fast_list a.wanted a.part) (Ok (19 + c.lines_width-width.result + n)) c.print_list.new.output a.output.now
written c =
    let a = c.args in
    written_behind a.output.now (list_of a.part) (slack_lines a.wanted a.part) (19 + c.lines_width-width.result) (list_width c.args.part c.lines_width-width.result c.lines_width-width.ensures.0)
    c.print_slacks.new.output c.print_list.new.output c.print_slacks.result c.print_list.result c.in_ok-slacks.was c.print_slacks.ensures c.print_list.ensures

pub returns : goal.returns
returns c = (written (goal.at.returns c).After-print_list).1

pub returns-in_err-slacks : goal.returns-in_err-slacks
returns-in_err-slacks c =
    let a = c.args in
    let e = err_from_is_err_and c.from_residual.result c.from_residual.ensures.1 in
    subst (λ r. WrittenAs (fast_list a.wanted a.part) r c.print_slacks.new.output a.output.now) (sym e.1)
    (unwritten_behind a.output.now (list_of a.part) (slack_lines a.wanted a.part) (19 + c.lines_width-width.result) (width_is (goal.at.returns-in_err-slacks c).After-lines_width-width)
    c.print_slacks.new.output c.print_slacks.result c.in_err-slacks.was c.print_slacks.ensures)
