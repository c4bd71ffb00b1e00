use Prim.Native.Nat.{◌≤◌}
use native.Mathlib.Omega.{arith}
use lib.ListN.{length}
use Rattle.listing.specs.Lines.{longest}
use Rattle.program.specs.RoomLaws.{wrote_front, never_short}
use Rattle.program.proofs.print.Goals as goal
use Rattle.program.proofs.print.Goals.{After-run}

-- the buffer has room for the longest list
roomy : (c : After-run) → longest ≤ length c.args.output.now
unfolding longest
roomy c = omega arith

pub returns-in-Ok : goal.returns-in-Ok
returns-in-Ok c = wrote_front (roomy (goal.at.returns-in-Ok c).After-run) c.run.ensures c.in-Ok.is

pub returns-in-Err : goal.returns-in-Err
returns-in-Err c = absurd (never_short (roomy (goal.at.returns-in-Err c).After-run) c.run.ensures c.in-Err.is)
