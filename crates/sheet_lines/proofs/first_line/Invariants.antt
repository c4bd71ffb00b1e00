-- The invariant: no line passed has an entry for k inputs.
use Prim.Native.Nat.{ℕ, ◌≤◌, ◌<◌}
use Rattle.level_arrays.specs.Arrays.{big, line_at}
use Rattle.sheet_lines.proofs.first_line.Given as goal

abbrev pub invariant-loop-j : goal.invariant-loop-j
invariant-loop-j l = (i : ℕ) → i < l.j → big ≤ line_at l.store l.g i l.k
