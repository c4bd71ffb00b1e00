use Prim.Native.Nat.{◌+◌}
use mathlib.Core.Path.{◌≡◌}
use lib.ListN.{take}
use lib.Seq.{slice}
use Rattle.cover.specs.Trusted.Bits.{place}
use Rattle.rows.proofs.place.Given as goal

abbrev pub invariant-loop-i : goal.invariant-loop-i
invariant-loop-i l = place l.code (take l.count l.inputs) ≡ l.i + place l.code (slice l.i l.count l.inputs)
