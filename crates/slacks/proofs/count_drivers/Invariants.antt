use Prim.Native.Nat.{◌≤◌}
use mathlib.Core.Path.{◌≡◌}
use lib.ListN.{length, take}
use Rattle.slacks.specs.Trusted.Slack.{drivers}
use Rattle.slacks.proofs.count_drivers.Given as goal

abbrev pub invariant-loop-t : goal.invariant-loop-t
invariant-loop-t l =
    (l.t ≤ l.p.used) × (length l.p.tables ≡ 800) × (l.n ≡ length (drivers (take l.t l.p.tables))) × (l.n ≤ l.t)
