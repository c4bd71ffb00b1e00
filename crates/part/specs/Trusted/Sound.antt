-- Soundness of a part, by the five points of 01, "Part", in their order, and its reservation (02, #109). A value of the struct may be anything.
-- Definitions only: the laws are in SoundLaws.
use Rattle.std.specs.Prelude.{◌-◌, ◌≤◌, drop}
use Rattle.lists.specs.Trusted.Lists.{Every}
use Rattle.table.specs.Trusted.Limits.{KRange, CapacityRange}
use Rattle.table.specs.Trusted.Rules.{Blank, Rules}
use Rattle.part_records.specs.Trusted.Reservations.{Reservable}
use Rattle.part.specs.declared.Part.{Part}
use Rattle.part.specs.Trusted.Parts.{in_use}

-- K and the capacity are in range, the used count is at most the capacity, the records past it are zero, those in use keep the rules, and
-- the reservation is one that the part may have
pub record Sound (p : Part) : Type 0 where
  pub k_range : KRange p.k
  pub capacity_range : CapacityRange p.capacity
  pub used_fits : p.used ≤ p.capacity
  pub rest_blank : Every Blank (drop p.used p.tables)
  pub rules : Rules p.k (in_use p)
  pub reservation : Reservable (p.capacity - p.used) p.reservation
