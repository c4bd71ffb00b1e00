use Rattle.level_arrays.specs.Arrays.{own_above}
use Rattle.level_rows.specs.Runs.{RunWritten}
use Rattle.level_rows.proofs.lift.Given as goal

abbrev pub invariant-loop-s : goal.invariant-loop-s
invariant-loop-s l = RunWritten l.initial.own l.own 0 l.s (own_above l.k l.arrays l.at)
