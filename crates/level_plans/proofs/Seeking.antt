-- An operand's entry, read back from the same array where what holds it is not placed. Assumes nothing.
use Prim.Native.Nat.{ℕ, ◌+◌, ◌-◌, ◌*◌}
use native.Mathlib.Omega.{arith}
use mathlib.Core.Path.{◌≡◌, refl}
use mathlib.Core.Logic.{inr}
use mathlib.Core.Bool.{false}
use mathlib.Core.List.{List}
use Rattle.level_arrays.specs.Arrays.{entry_at}
use Rattle.level_plans.specs.Backing.{array_room, Seekable, Sought}

module _ {K i s w e b : ℕ} {a : List ℕ} (q : Seekable K a i s w) (here : e ≡ entry_at a (i * array_room) s w)
    (before : b ≡ entry_at a ((i - 1) * array_room) s K) where
  -- the entry is not one more than that for K inputs in the array before
  pub seek_held : (e ≡ b + 1 → ⊥) → Sought K a i s w i w false
  seek_held h = record {
    kept = record { some = q.some; inputs = q.inputs; held = inr (i - 1, omega (arith, q.slot), λ z. h (omega (arith, z, q.some))) };
    from = (refl, refl);
  }
