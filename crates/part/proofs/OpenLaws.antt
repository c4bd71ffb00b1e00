-- What an opening gives, by its tests; that it has the shape of its type, and that an accepted one is sound.
use Rattle.std.specs.Prelude.{ℕ, ◌-◌, ◌≡◌, refl, cond, length}
use Rattle.std.proofs.Common.{arith}
use Rattle.std.proofs.lemmas.List.{length-replicate}
use Rattle.lists.specs.Trusted.Tests.{within}
use Rattle.lists.specs.ListLaws.{every_replicate}
use Rattle.lists.specs.TestLaws.{reflects_within, by_reflects}
use Rattle.table.specs.Trusted.Limits.{input_room, table_room, KRange, CapacityRange}
use Rattle.table.specs.Trusted.Records.{blank}
use Rattle.table.specs.Trusted.Rules.{Blank}
use Rattle.table.specs.TestedLaws.{no_records}
use Rattle.part_records.specs.ReservationLaws.{none_reservable}
use Rattle.part.specs.Trusted.Parts.{blanks, Shaped}
use Rattle.part.specs.Trusted.Sound.{Sound}
use Rattle.part.specs.Trusted.Answers.{accepted, refused, Result, empty}
use Rattle.part.specs.Trusted.Add.{opened}

pub empty_sound : (k capacity : ℕ) → KRange k → CapacityRange capacity → Sound (empty k capacity)
unfolding blanks
empty_sound k capacity g h = record {
  k_range = g;
  capacity_range = h;
  used_fits = omega arith;
  rest_blank = every_replicate Blank table_room blank (record { net = refl; count = refl; inputs = every_replicate (λ x. x ≡ 0) input_room 0 refl; truth = refl; level = refl });
  rules = (no_records k capacity).rules;
  reservation = none_reservable (capacity - 0);
}

pub empty_shaped : (k capacity : ℕ) → Shaped (empty k capacity)
unfolding blanks
empty_shaped k capacity = record {
  records = length-replicate table_room blank;
  inputs = every_replicate (λ r. length r.inputs ≡ input_room) table_room blank refl;
}

-- what an opening gives, by its tests
pub opened_cases : (k capacity : ℕ) (P : Result → Type 0) →
    (KRange k → CapacityRange capacity → P (record { part = empty k capacity; answer = accepted })) →
    ((¬ KRange k) → P (record { part = empty 0 0; answer = refused 2 0 })) →
    (KRange k → (¬ CapacityRange capacity) → P (record { part = empty 0 0; answer = refused 3 0 })) → P (opened k capacity)
opened_cases k capacity P f g h =
    by_reflects (λ b. P (cond b (cond (within 1 table_room capacity) good bad_capacity) bad_k)) (reflects_within 2 input_room k)
    (λ r. by_reflects (λ b. P (cond b good bad_capacity)) (reflects_within 1 table_room capacity) (f r) (h r))
    g
  where
    good : Result
    good = record { part = empty k capacity; answer = accepted }

    bad_capacity : Result
    bad_capacity = record { part = empty 0 0; answer = refused 3 0 }

    bad_k : Result
    bad_k = record { part = empty 0 0; answer = refused 2 0 }

pub opened_shaped : (k capacity : ℕ) → Shaped (opened k capacity).part
opened_shaped k capacity = opened_cases k capacity (λ r. Shaped r.part) (λ g h. empty_shaped k capacity) (λ n. empty_shaped 0 0) (λ g n. empty_shaped 0 0)

pub opened_sound : (k capacity : ℕ) → (opened k capacity).answer ≡ accepted → Sound (opened k capacity).part
opened_sound k capacity =
    opened_cases k capacity (λ r. r.answer ≡ accepted → Sound r.part) (λ g h e. empty_sound k capacity g h)
    (λ n e. let z : ◌≡◌ {A = ℕ} 0 1 = cc in absurd (omega arith)) (λ g n e. let z : ◌≡◌ {A = ℕ} 0 1 = cc in absurd (omega arith))

-- an accepted opening: the part has no table, and the K and the capacity that were asked for
pub opened_empty : (k capacity : ℕ) → (opened k capacity).answer ≡ accepted → (opened k capacity).part ≡ empty k capacity
opened_empty k capacity =
    opened_cases k capacity (λ r. r.answer ≡ accepted → r.part ≡ empty k capacity) (λ g h e. refl)
    (λ n e. let z : ◌≡◌ {A = ℕ} 0 1 = cc in absurd (omega arith)) (λ g n e. let z : ◌≡◌ {A = ℕ} 0 1 = cc in absurd (omega arith))
