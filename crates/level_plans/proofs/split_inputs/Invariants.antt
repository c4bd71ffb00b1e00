-- The invariant: no number of inputs passed gives the sum.
use Prim.Native.Nat.{ℕ, ◌<◌}
use mathlib.Core.Logic.{◌≢◌}
use Rattle.level_plans.specs.Backing.{row_sum}
use Rattle.level_plans.proofs.split_inputs.Given as goal

abbrev pub invariant-loop-i : goal.invariant-loop-i
invariant-loop-i l = ((j : ℕ) → 0 < j → j < l.i → row_sum l.arrays l.w l.x l.y j ≢ l.e)
