-- An entry that can be read back where what holds it is not placed: at a mask of two bits or more it is a sum of two. Assumes nothing.
use Prim.Native.Nat.{ℕ, zero, suc, ◌+◌, ◌*◌, ◌^◌, ◌≤◌, ◌<◌}
use native.Mathlib.Omega.{arith}
use native.Mathlib.Decide.{dec_lt}
use mathlib.Core.Path.{◌≡◌, sym, ap, ◌∙◌}
use mathlib.Core.Logic.{⊎_elim, by_cases}
use mathlib.Core.List.{List}
use lib.Pow.{pow_mono}
use Rattle.plan.specs.MaskLaws.{top_bit}
use Rattle.level_arrays.specs.Arrays.{entry_at, own_above, ReadsBack}
use Rattle.level_arrays.specs.declared.Draft.{Draft}
use Rattle.level_plans.specs.Backing.{array_room, SumOf, Backing, Backed}

module _ {K n from top : ℕ} {a : List ℕ} (b : Backing K n from top a) where
  -- it is not that of a table of its own: for K inputs that is above what it was at the bound before
  not_own : (p s w : ℕ) → p < top → 0 < s → s < 2 ^ n → ReadsBack K a (suc p) s w →
      entry_at a (suc p * array_room) s w ≡ own_above K a (p * array_room) s → ⊥
  not_own p s w t some low k e =
      ⊎_elim
      (λ f. let g = b.falling p s t some low in omega (arith, rw f at e, rw f at k.some))
      (λ x. let f : x.0 ≡ p = omega (arith, x.1) in x.2 (e ∙ ap (λ m. own_above K a (m * array_room) s) (sym f)))
      k.held

  pub kept_sum : (h r w i : ℕ) → h < n → 0 < r → r < 2 ^ h → i ≤ top → ReadsBack K a i (2 ^ h + r) w →
      (0 < i) × (u : ℕ) × (j : ℕ) × SumOf a (i * array_room) (2 ^ h) r w u j
  kept_sum h r w zero l some low t k =
      absurd (⊎_elim (λ f. let g = rw f at k.some in omega (arith, b.searched.first h r l some low)) (λ x. omega (arith, x.1)) k.held)
  kept_sum h r w (suc p) l some low t k =
      let m : 2 ^ h + r < 2 ^ n = omega (arith, pow_mono l) in
      let c = (b.searched.next p t).more h r w l some low m k.inputs.0 k.inputs.1 in
      ⊎_elim
      (λ e. absurd (not_own p (2 ^ h + r) w t (omega arith) m k e))
      (λ x. (omega arith, x.0, x.1, record { some = x.2; part = x.3; inputs = (x.4, x.5); is = x.6 }))
      (c.some k.some)

-- so there is a bound
pub some_bound : {K n from top i s w : ℕ} {a : List ℕ} {d : Draft} → Backed K n from top a i s w d → 0 < from + i
some_bound {n = n} {from} {i = i} {s = s} {w} q =
    let b = q.arrays in
    let t = top_bit n s q.mask.0 q.mask.1 in
    by_cases (dec_lt 0 t.1)
    (λ l. let k = (kept_sum b t.0 t.1 w i t.2 l t.3 q.slot (rw t.4 at q.kept)).0 in omega arith)
    (λ l.
    by_cases (dec_lt 0 (from + i)) (λ k. k) λ k.
    let z : i ≡ 0 = omega arith in
    let o : s ≡ 2 ^ t.0 = omega (arith, t.4) in
    absurd (omega (arith, b.nothing t.0 w t.2 q.kept.inputs.1 (omega arith), rw (z, o) at q.kept.some)))
