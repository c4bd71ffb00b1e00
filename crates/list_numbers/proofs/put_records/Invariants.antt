use Prim.Native.Nat.{◌≤◌}
use mathlib.Core.Path.{◌≡◌}
use lib.ListN.{length, take}
use Rattle.lists.specs.Trusted.Lists.{gather}
use Rattle.part.specs.Trusted.Parts.{Shaped}
use Rattle.list_line.specs.Trusted.Writes.{pasted}
use Rattle.list_numbers.specs.Trusted.Numbers.{record_numbers}
use Rattle.list_numbers.proofs.put_records.Given as goal

abbrev pub invariant-loop-t : goal.invariant-loop-t
invariant-loop-t l =
    (l.t ≤ l.p.used) × Shaped l.p × (length l.numbers ≡ length l.initial.numbers) × (l.numbers ≡ pasted l.initial.numbers l.at (gather record_numbers (take l.t l.p.tables)))
