-- The invariant: the first h fanins have their rows.
use Prim.Native.Nat.{ℕ, ◌+◌, ◌*◌, ◌≤◌, ◌<◌}
use mathlib.Core.Path.{◌≡◌}
use lib.ListN.{length, get_or}
use Rattle.level_arrays.specs.Arrays.{big, fan_row}
use Rattle.level_lines.proofs.look_rows.Given as goal

abbrev pub invariant-loop-h : goal.invariant-loop-h
invariant-loop-h l = (length l.rows ≡ length l.initial.rows) × ((g w : ℕ) → g < l.h → w ≤ 6 → get_or l.rows (g * 8 + w) big ≡ fan_row l.store l.f l.bound g w)
