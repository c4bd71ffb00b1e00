use Rattle.level_rows.proofs.Lowering.{Lowered}
use Rattle.level_rows.proofs.lowered.Given as goal

abbrev pub invariant-loop-w : goal.invariant-loop-w
invariant-loop-w l = Lowered l.arrays l.x l.y l.fn.row.at l.row.at l.w
