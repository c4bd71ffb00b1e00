-- What is left to read, with what was read put before it, is the same at each line (`AtLine`) and at each fanin (`AtFanin`), and no fault
-- was found.
use mathlib.Core.Path.{◌≡◌}
use Rattle.std.specs.Prelude.{None}
use Rattle.sheet_gates.proofs.LinesLaws.{AtLine, AtFanin}
use Rattle.sheet_gates.proofs.gate_lines.Given as goal

abbrev pub invariant-loop-i : goal.invariant-loop-i
invariant-loop-i l =
    (l.fault ≡ None) × AtFanin l.text l.start l.out l.count l.gates l.fanins l.used l.seen l.leaves l.g l.line l.i

abbrev pub invariant-lines : goal.invariant-lines
invariant-lines l =
    (l.fault ≡ None) × AtLine l.text l.start l.out l.count l.gates l.fanins l.used l.seen l.leaves l.end l.g
