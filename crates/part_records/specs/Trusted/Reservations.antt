-- What a part may have reserved (02, #109; the paper says "hold" and "set aside"). Definitions only: the law is in ReservationLaws.
use Rattle.std.specs.Prelude.{ℕ, ◌≤◌, ◌≡◌, ◌↔◌, Bool, ◌&&◌, leb, eqb}
use Rattle.std.specs.Bool.{beq}
use Rattle.tree.specs.Trusted.Limits.{greatest_net}
use Rattle.part_records.specs.declared.Reservation.{Reservation}

-- "A part is not sound if the number set aside is above capacity minus used, if just one of the two is zero, or if the held net is out of
-- range": `left` is the capacity minus used
pub record Reservable (left : ℕ) (r : Reservation) : Type 0 where
  pub fits : r.count ≤ left
  pub both : (r.count ≡ 0) ↔ (r.net ≡ 0)
  pub range : r.net ≤ greatest_net

-- as a test that computes
abbrev pub is_reservable : ℕ → Reservation → Bool
is_reservable left r = leb r.count left && (beq (eqb r.count 0) (eqb r.net 0) && leb r.net greatest_net)

-- "both zero when nothing is held"
abbrev pub unreserved : Reservation
unreserved = record { count = 0; net = 0 }
