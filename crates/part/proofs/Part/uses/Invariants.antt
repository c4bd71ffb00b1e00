use mathlib.Core.Path.{◌≡◌}
use lib.ListN.{length}
use Rattle.table.specs.Trusted.Limits.{table_room}
use Rattle.part.proofs.StoringLaws.{Looked}
use Rattle.part.proofs.Part.uses.Given as goal

abbrev pub invariant-loop-i : goal.invariant-loop-i
invariant-loop-i l = (length l.self.tables ≡ table_room) × Looked l.self l.net l.i l.uses
