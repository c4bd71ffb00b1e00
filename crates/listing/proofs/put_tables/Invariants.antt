use Prim.Native.Nat.{◌+◌, ◌≤◌}
use mathlib.Core.Path.{◌≡◌}
use lib.ListN.{length}
use Rattle.list_line.specs.Trusted.Writes.{pasted}
use Rattle.listing.specs.Lines.{table_lines}
use Rattle.listing.proofs.put_tables.Given as goal

abbrev pub invariant-loop-t : goal.invariant-loop-t
invariant-loop-t l =
    (l.t ≤ l.p.used) × (length l.p.tables ≡ 800) × (length l.buf ≡ length l.initial.buf) × (l.place ≡ l.at + length (table_lines l.p l.t)) × (l.buf ≡ pasted l.initial.buf l.at (table_lines l.p l.t))
