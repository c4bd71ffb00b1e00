-- The test of a reservation says that it is one.
use Rattle.std.specs.Prelude.{ℕ, zero, suc, ◌≤◌, ◌≡◌, refl, ◌↔◌, ◌≢◌, Bool, true, false, T, eqb}
use Rattle.std.proofs.Common.{arith}
use Rattle.std.specs.Bool.{beq}
use Rattle.lists.specs.Trusted.Tests.{Reflects, within}
use Rattle.lists.specs.TestLaws.{reflects_le, reflects_eq, reflects_within, reflects_map, reflects_and, reflects_same}
use Rattle.tree.specs.Trusted.Limits.{greatest_net}
use Rattle.part_records.specs.Trusted.Reservations.{Reservable, is_reservable, unreserved}
use Rattle.part_records.specs.declared.Reservation.{Reservation}

reflects_both : {a b : Bool} {P Q : Type 0} → Reflects a P → Reflects b Q → Reflects (beq a b) (P ↔ Q)
reflects_both {a} {b} {P} {Q} r s = go a b r.to r.from s.to s.from
  where
    go : (a b : Bool) → (T a → P) → (P → T a) → (T b → Q) → (Q → T b) → Reflects (beq a b) (P ↔ Q)
    go true true f g h i = record { to = λ t. (λ x. h tt, λ y. f tt); from = λ e. tt }
    go true false f g h i = record { to = λ t. absurd t; from = λ e. i (e.0 (f tt)) }
    go false true f g h i = record { to = λ t. absurd t; from = λ e. g (e.1 (h tt)) }
    go false false f g h i = record { to = λ t. (λ x. absurd (g x), λ y. absurd (i y)); from = λ e. tt }

-- THE TEST OF A RESERVATION says that it is one that a part may have
pub reservation_reflects : (left : ℕ) (r : Reservation) → Reflects (is_reservable left r) (Reservable left r)
reservation_reflects left r =
    reflects_map (λ h. record { fits = h.0; both = h.1.0; range = h.1.1 }) (λ h. (h.fits, (h.both, h.range)))
    (reflects_and (reflects_le r.count left) (reflects_and (reflects_both (reflects_eq r.count 0) (reflects_eq r.net 0)) (reflects_le r.net greatest_net)))

-- by the number set aside
pub none_reserved : (left : ℕ) (r : Reservation) → r.count ≡ 0 → eqb r.net 0 ≡ is_reservable left r
none_reserved left r z =
    reflects_same (reflects_eq r.net 0) (reservation_reflects left r)
    (λ e. record { fits = omega arith; both = (λ x. e, λ x. z); range = omega (arith, e) }) (λ h. h.both.0 z)

pub some_reserved : (left : ℕ) (r : Reservation) → r.count ≤ left → r.count ≢ 0 → within 1 greatest_net r.net ≡ is_reservable left r
some_reserved left r l n =
    reflects_same (reflects_within 1 greatest_net r.net) (reservation_reflects left r)
    (λ w. record { fits = l; both = (λ z. absurd (n z), λ z. absurd (omega (arith, w.0, z))); range = w.1 }) (λ h. (some r.net h.both, h.range))
  where
    some : (m : ℕ) → (r.count ≡ 0) ↔ (m ≡ 0) → 1 ≤ m
    some zero b = absurd (n (b.1 refl))
    some (suc m) b = omega arith

-- nothing reserved is possible in every part
pub none_reservable : (left : ℕ) → Reservable left unreserved
none_reservable left = record { fits = omega arith; both = (λ e. e, λ e. e); range = omega arith }
