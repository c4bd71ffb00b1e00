use Prim.Native.Nat.{◌-◌, ◌≤◌}
use Rattle.pending.specs.MergeLaws.{Level}
use Rattle.rows.proofs.spread.Given as goal

abbrev pub invariant-loop-i : goal.invariant-loop-i
invariant-loop-i l = (l.i - 1 ≤ l.n - 1) × Level l.truth l.columns l.n l.i l.words
