use Rattle.level_rows.specs.Sums.{LeastSum}
use Rattle.level_rows.proofs.least_sum.Given as goal

abbrev pub invariant-loop-i : goal.invariant-loop-i
invariant-loop-i l = LeastSum l.arrays l.x l.y l.w l.i l.most l.least
