use Prim.Native.Nat.{◌≤◌}
use native.Mathlib.Omega.{arith}
use lib.ListN.{length}
use Rattle.listing.specs.Lines.{longest}
use Rattle.fast_program.specs.FastLongest.{fast_longest}
use Rattle.fast_program.proofs.FastRoomLaws.{fast_wrote_front, fast_never_short}
use Rattle.fast_program.proofs.print.Goals as goal
use Rattle.fast_program.proofs.print.Goals.{After-run}

-- the buffer has room for all that can be printed
roomy : (c : After-run) → fast_longest ≤ length c.args.output.now
unfolding fast_longest longest
roomy c = omega arith

pub returns-in-Ok : goal.returns-in-Ok
returns-in-Ok c = fast_wrote_front (roomy (goal.at.returns-in-Ok c).After-run) c.run.ensures c.in-Ok.is

pub returns-in-Err : goal.returns-in-Err
returns-in-Err c = absurd (fast_never_short (roomy (goal.at.returns-in-Err c).After-run) c.run.ensures c.in-Err.is)
