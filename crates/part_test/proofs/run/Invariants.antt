-- The line begins within the script. The measure is the bytes left.
use Rattle.std.proofs.Common.{◌-◌, ◌≤◌, length}
use Rattle.part_test.proofs.run.Given as goal

abbrev pub invariant-loop-at : goal.invariant-loop-at
invariant-loop-at g l = l.at ≤ length l.script

abbrev pub decreases-loop-at : goal.decreases-loop-at
decreases-loop-at g l = length l.script - l.at
