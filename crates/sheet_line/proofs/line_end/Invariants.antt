-- The line from `start` on is the bytes passed before the line from `i` on.
use Prim.Native.Nat.{◌-◌, ◌≤◌}
use mathlib.Core.Path.{◌≡◌}
use lib.ListN.{take, drop}
use Rattle.sheet.specs.Trusted.Line.{line}
use Rattle.sheet_line.proofs.LineLaws.{before}
use Rattle.sheet_line.proofs.line_end.Given as goal

abbrev pub invariant-loop-i : goal.invariant-loop-i
invariant-loop-i l = (l.start ≤ l.i) × (line (drop l.start l.text) ≡ before (take (l.i - l.start) (drop l.start l.text)) (line (drop l.i l.text)))
