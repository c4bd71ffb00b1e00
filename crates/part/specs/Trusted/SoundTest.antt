-- Soundness of a part as a test that computes. Definitions only: SoundLaws has the proof that it says what Sound says.
use Rattle.std.specs.Prelude.{◌-◌, Bool, ◌&&◌, leb, drop}
use Rattle.lists.specs.Trusted.Tests.{all}
use Rattle.table.specs.Trusted.RecordTest.{is_blank, tested, is_none}
use Rattle.part_records.specs.Trusted.Reservations.{is_reservable}
use Rattle.part.specs.declared.Part.{Part}
use Rattle.part.specs.Trusted.Parts.{in_use}

unfoldable pub sound : Part → Bool
sound p =
    is_none (tested p.k p.capacity (in_use p))
    && (leb p.used p.capacity && (all is_blank (drop p.used p.tables) && is_reservable (p.capacity - p.used) p.reservation))
