use Prim.Native.Nat.{◌*◌, ◌≤◌}
use mathlib.Core.Path.{◌≡◌}
use lib.ListN.{length}
use Rattle.listing.specs.Lines.{table_lines}
use Rattle.listing.proofs.tables_width.Given as goal

abbrev pub invariant-loop-t : goal.invariant-loop-t
invariant-loop-t l =
    (l.t ≤ l.p.used) × (length l.p.tables ≡ 800) × (l.width ≡ length (table_lines l.p l.t)) × (l.width ≤ 76 * l.t)
