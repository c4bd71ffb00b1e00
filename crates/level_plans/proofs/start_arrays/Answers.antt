use native.Mathlib.Omega.{arith}
use Rattle.level_plans.proofs.Starting.{started_clear, started_singles}
use Rattle.level_plans.proofs.start_arrays.Goals as goal

pub returns-then-from-gt0 : goal.returns-then-from-gt0
returns-then-from-gt0 c =
    started_singles c.clear_first.ensures c.requires.2 c.if-from-gt0.true c.put_singles.ensures

pub returns-else-from-gt0 : goal.returns-else-from-gt0
returns-else-from-gt0 c = started_clear c.clear_first.ensures c.requires.2 (omega arith)
