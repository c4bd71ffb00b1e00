-- The loop over the submasks of r, from the greatest down: none that is passed makes the entry. Assumes nothing.
use Prim.Native.Nat.{ℕ, ◌+◌, ◌-◌, ◌*◌, ◌<◌}
use native.Mathlib.Omega.{arith}
use native.Mathlib.Decide.{dec_lt}
use mathlib.Core.Path.{◌≡◌}
use Rattle.std.proofs.Common.{None}
use mathlib.Core.Logic.{◌≢◌, by_cases}
use mathlib.Core.List.{List}
use lib.Bits.{bit_and}
use Rattle.plan.specs.Masks.{MaskWithin}
use Rattle.plan.specs.MaskLaws.{next_within, next_greatest}
use Rattle.level_plans.specs.Backing.{row_sum, InputsOf}

-- no sum by a submask above u is e
pub record SubmasksPassed (a : List ℕ) (at top r w e u : ℕ) : Type 0 where
  pub part : MaskWithin u r
  pub none : (v j : ℕ) → u < v → MaskWithin v r → 0 < j → j < w → row_sum a w (at + (top + r - v) * 8) (at + v * 8) j ≢ e

module _ {a : List ℕ} {at top r w e : ℕ} where
  pub passed_next : {u : ℕ} → SubmasksPassed a at top r w e u → InputsOf a w e (at + (top + r - u) * 8) (at + u * 8) None →
      SubmasksPassed a at top r w e (bit_and (u - 1) r)
  passed_next {u} p q = record {
    part = next_within u r;
    none = λ v j l i.
        by_cases (dec_lt u v) (λ h. p.none v j h i) λ h.
        by_cases (dec_lt v u) (λ g. absurd (omega (arith, next_greatest u r v p.part i g))) λ g.
        let s : v ≡ u = omega arith in
        rw s (q j);
  }
