-- The test of a part says that it is sound; and the used count of a sound part.
use Rattle.std.specs.Prelude.{◌-◌, ◌≤◌, ◌≡◌, length, drop}
use Rattle.std.proofs.Common.{arith, length-take, length-take-le}
use Rattle.lists.specs.TestLaws.{reflects_le, reflects_map, reflects_and, reflects_all}
use Rattle.lists.specs.Trusted.Tests.{Reflects}
use Rattle.table.specs.Trusted.Limits.{table_room}
use Rattle.table.specs.Trusted.RecordTest.{is_blank}
use Rattle.table.specs.TestedLaws.{blank_reflects, none_reflects}
use Rattle.part_records.specs.ReservationLaws.{reservation_reflects}
use Rattle.part.specs.declared.Part.{Part}
use Rattle.part.specs.Trusted.Parts.{in_use}
use Rattle.part.specs.Trusted.Sound.{Sound}
use Rattle.part.specs.Trusted.SoundTest.{sound}

-- THE TEST OF A PART says that it is sound
pub sound_reflects : (p : Part) → Reflects (sound p) (Sound p)
unfolding sound
sound_reflects p =
    reflects_map
    (λ h. record { k_range = h.0.0; capacity_range = h.0.1; used_fits = h.1.0; rest_blank = h.1.1.0; rules = h.0.2.rules; reservation = h.1.1.1 })
    (λ h. ((h.k_range, h.capacity_range, record { rules = h.rules; fits = rw length-take (omega (arith, h.used_fits)) }), (h.used_fits, (h.rest_blank, h.reservation))))
    (reflects_and (none_reflects p.k p.capacity (in_use p))
    (reflects_and (reflects_le p.used p.capacity)
    (reflects_and (reflects_all is_blank blank_reflects (drop p.used p.tables)) (reservation_reflects (p.capacity - p.used) p.reservation))))

-- the used count of a sound part is the number of its records in use
pub used_count : (p : Part) → length p.tables ≡ table_room → Sound p → length (in_use p) ≡ p.used
used_count p room h =
    let l : p.used ≤ length p.tables = omega (arith, h.used_fits, h.capacity_range.1, room) in
    length-take-le p.used p.tables l
