use Prim.Native.Nat.{ℕ, ◌≤◌}
use lib.ListN.{get_or}
use Rattle.cover.specs.Trusted.Cover.{pick}
use Rattle.plan.specs.Masks.{MaskWithin}
use Rattle.level_arrays.specs.Arrays.{big}
use Rattle.level_rows.proofs.Lowering.{CellTried}
use Rattle.level_rows.proofs.best_row.Given as goal

abbrev pub invariant-loop-u : goal.invariant-loop-u
invariant-loop-u l = MaskWithin l.u l.r × (l.u ≤ l.r) × ((w : ℕ) → w ≤ l.k → CellTried l.arrays l.at l.top l.r w (pick w big l.own) (get_or l.row.at w big) l.u)

abbrev pub decreases-loop-u : goal.decreases-loop-u
decreases-loop-u l = l.u
