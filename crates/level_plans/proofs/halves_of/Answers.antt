use Rattle.level_plans.proofs.Halving.{passed_next}
use Rattle.level_plans.proofs.halves_of.Goals as goal

pub loop-u-preserved : goal.loop-u-preserved
loop-u-preserved c = passed_next c.loop-u.invariant c.in_default.ensures
