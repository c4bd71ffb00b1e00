-- No row of the first h fanins changes from last on.
use Prim.Native.Nat.{ℕ, ◌+◌, ◌-◌, ◌≤◌, ◌<◌}
use lib.ListN.{get_or}
use Rattle.level_lines.proofs.last_change.Given as goal

abbrev pub invariant-loop-h : goal.invariant-loop-h
invariant-loop-h l =
    ((h : ℕ) → h < l.h → get_or l.f.levels h 0 + (get_or l.f.lines h 0 - 1) ≤ l.last) × (l.last ≤ 2255)
