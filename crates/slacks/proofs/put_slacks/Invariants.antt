use Prim.Native.Nat.{◌+◌, ◌≤◌}
use mathlib.Core.Path.{◌≡◌}
use lib.ListN.{length, take}
use Rattle.list_line.specs.Trusted.Writes.{pasted}
use Rattle.slacks.specs.SlackText.{slack_text}
use Rattle.slacks.proofs.put_slacks.Given as goal

abbrev pub invariant-loop-t : goal.invariant-loop-t
invariant-loop-t l =
    (l.t ≤ l.p.used) × (length l.p.tables ≡ 800) × (length l.buf ≡ length l.initial.buf) × (l.place ≡ l.at + length (slack_text l.wanted (take l.t l.p.tables)))
    × (l.buf ≡ pasted l.initial.buf l.at (slack_text l.wanted (take l.t l.p.tables)))
