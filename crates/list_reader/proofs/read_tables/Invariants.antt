use mathlib.Core.Path.{◌≡◌}
use Rattle.part_records.specs.Trusted.Reservations.{unreserved}
use Rattle.list_reading.specs.LoopLaws.{LinesSoFar}
use Rattle.list_reader.proofs.read_tables.Given as goal

abbrev pub invariant-loop-t : goal.invariant-loop-t
invariant-loop-t l =
    (l.part.k ≡ l.k) × (l.part.capacity ≡ l.capacity) × (l.part.reservation ≡ unreserved) × LinesSoFar l.text l.k l.used l.part.tables l.prefix l.levels l.at l.t
