-- The invariant: i arrays are filled.
use mathlib.Core.Path.{◌≡◌}
use lib.ListN.{length}
use Rattle.plan.specs.Limits.{masks}
use Rattle.level_plans.specs.Ranges.{RangeFilled}
use Rattle.level_plans.proofs.fill_arrays.Given as goal

abbrev pub invariant-loop-i : goal.invariant-loop-i
invariant-loop-i l =
    RangeFilled l.k l.from l.i l.f l.store l.arrays × (length l.rows ≡ 80) × (length l.own ≡ masks)
