use Prim.Native.Nat.{◌≤◌}
use mathlib.Core.Path.{◌≡◌}
use lib.ListN.{length, take}
use Rattle.list_line.specs.Trusted.Writes.{pasted}
use Rattle.list_numbers.proofs.put_inputs.Given as goal

abbrev pub invariant-loop-i : goal.invariant-loop-i
invariant-loop-i l =
    (l.i ≤ 6) × (length l.inputs ≡ 6) × (length l.numbers ≡ length l.initial.numbers) × (l.numbers ≡ pasted l.initial.numbers l.at (take l.i l.inputs))
