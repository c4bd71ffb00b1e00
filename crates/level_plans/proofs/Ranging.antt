-- The arrays of the bounds, filled one after the other: what holds after one more. Assumes nothing.
use Prim.Native.Nat.{ℕ, suc, ◌+◌, ◌-◌, ◌*◌, ◌^◌, ◌≤◌, ◌<◌, min}
use native.Mathlib.Omega.{arith}
use native.Mathlib.Decide.{dec_lt}
use mathlib.Core.Path.{◌≡◌, refl, sym, ap, ◌∙◌}
use mathlib.Core.Logic.{inl, inr, ⊎_elim, by_cases}
use mathlib.Core.List.{List}
use lib.ListN.{get_or}
use lib.Pow.{pow_mono, pow-lt}
use Rattle.plan.specs.Limits.{masks}
use Rattle.plan.specs.MaskLaws.{within_le}
use Rattle.levels.specs.Groups.{LevelCell}
use Rattle.level_arrays.specs.Arrays.{big, entry_at, Searchable, ArrayFilled, own_above, Ranged}
use Rattle.level_plans.specs.Backing.{array_room}

-- ---- an array that is filled, from equal rows and entries

cell_same : {best best' : ℕ → ℕ → ℕ} {top r w q e : ℕ} → ((s v : ℕ) → s ≤ top + r → v ≤ w → best' s v ≡ best s v) →
    LevelCell big best top r w q e → LevelCell big best' top r w q e
cell_same {top = top} {r} {w} f c = record {
  most = c.most;
  own = c.own;
  sums = λ u i p m j l.
      omega (arith, c.sums u i p m j l, f (top + r - u) i (omega arith) (omega arith), f u (w - i) (omega (arith, within_le u r m)) (omega arith));
  some = λ l.
      ⊎_elim inl
      (λ x.
      let s = f (top + r - x.0) x.1 (omega arith) (omega (arith, x.5)) in
      let t = f x.0 (w - x.1) (omega (arith, within_le x.0 r x.3)) (omega arith) in
      inr (x.0, x.1, x.2, x.3, x.4, x.5, omega (arith, x.6)))
      (c.some l);
}

filled_as : {K n at : ℕ} {rows rows' : ℕ → ℕ → ℕ} {own own' : ℕ → ℕ} {a b : List ℕ} → ArrayFilled K n rows own a at (2 ^ n) →
    ((h w : ℕ) → h < n → w ≤ K → rows h w ≡ rows' h w) → ((s : ℕ) → s < 2 ^ n → own s ≡ own' s) →
    ((s w : ℕ) → s < 2 ^ n → w ≤ K → entry_at b at s w ≡ entry_at a at s w) → ArrayFilled K n rows' own' b at (2 ^ n)
filled_as p f g e = record {
  one = λ h w l k j. e (2 ^ h) w k j ∙ p.one h w l k j ∙ f h w l j;
  none = λ h r l o j k. e (2 ^ h + r) 0 k (omega arith) ∙ p.none h r l o j k;
  more = λ h r w l o j k x y.
      rw (e (2 ^ h + r) w k y, sym (g (2 ^ h + r) k)) (cell_same (λ s v m n. e s v (omega arith) (omega arith)) (p.more h r w l o j k x y));
}

-- ---- one array more: b is a below it

module _ {K n from i : ℕ} {rows : ℕ → ℕ → ℕ → ℕ} {a : List ℕ} (b : List ℕ) (t : Searchable K n) (p : Ranged K n from i rows a)
    (same : (j : ℕ) → j < suc i * array_room → get_or b j big ≡ get_or a j big) where
  masks_few : 2 ^ n ≤ masks
  masks_few = pow_mono t.fanins.1

  same_entry : (j s w : ℕ) → j ≤ i → s < 2 ^ n → w ≤ K → entry_at b (j * array_room) s w ≡ entry_at a (j * array_room) s w
  same_entry j s w l m k = same (j * array_room + s * 8 + w) (omega (arith, masks_few, t.table.1))

  same_lifted : (j s : ℕ) → j ≤ i → s < 2 ^ n → own_above K a (j * array_room) s ≡ own_above K b (j * array_room) s
  same_lifted j s l m = ap (λ x. min big (suc x)) (sym (same_entry j s K l m (omega arith)))

  pub ranged_next : {read : ℕ → ℕ → ℕ} {own : ℕ → ℕ} → ArrayFilled K n read own b (suc i * array_room) (2 ^ n) →
      ((h w : ℕ) → h < n → w ≤ K → read h w ≡ rows (from + i) h w) → ((s : ℕ) → s < 2 ^ n → own s ≡ own_above K a (i * array_room) s) →
      Ranged K n from (suc i) rows b
  ranged_next q f g = record {
    searched = record {
      first = λ h r l o k. same_entry 0 (2 ^ h + r) K (omega arith) (omega (arith, pow_mono l)) (omega arith) ∙ p.searched.first h r l o k;
      next = λ j l.
          by_cases (dec_lt j i)
          (λ d.
          filled_as (p.searched.next j d) (λ h w _ _. refl) (λ s. same_lifted j s (omega arith)) (λ s w. same_entry (suc j) s w d))
          (λ d.
          let z : j ≡ i = omega arith in
          rw z (filled_as q f (λ s m. g s m ∙ same_lifted i s (omega arith) m) (λ s w _ _. refl)));
    };
    zeroth = λ h w c l k e. same_entry 0 (2 ^ h) w (omega arith) (pow-lt l) k ∙ p.zeroth h w c l k e;
    nothing = λ h w l k e. same_entry 0 (2 ^ h) w (omega arith) (pow-lt l) k ∙ p.nothing h w l k e;
  }
