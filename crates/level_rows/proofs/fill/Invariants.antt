-- Each mask passed is alike to itself.
use Prim.Native.Nat.{ℕ, ◌^◌, ◌≤◌, ◌<◌}
use mathlib.Core.Path.{◌≡◌}
use lib.ListN.{length, get_or}
use Rattle.plan.specs.Limits.{masks}
use Rattle.level_rows.proofs.fill.Given as goal

abbrev pub invariant-loop-s : goal.invariant-loop-s
invariant-loop-s l = (length l.like ≡ masks) × (2 ^ l.n ≤ masks) × ((s : ℕ) → s < l.s → get_or l.like s 0 ≡ s)
