-- Alike masks, put from one bit to the next. Assumes nothing.
use Prim.Native.Nat.{ℕ, ◌+◌, ◌-◌, ◌^◌, ◌≤◌, ◌<◌}
use native.Mathlib.Omega.{arith}
use native.Mathlib.Decide.{dec_lt}
use native.Mathlib.Numerals.{add-one}
use mathlib.Core.Path.{◌≡◌, sym, ◌∙◌}
use mathlib.Core.Logic.{⊎_elim, by_cases}
use mathlib.Core.List.{List}
use lib.Bits.{bit_and}
use lib.ListN.{length, get_or}
use Rattle.lists.specs.Trusted.Lists.{here, more}
use Rattle.lists.specs.ListLaws.{permuted_refl, permuted_sym, permuted_trans}
use Rattle.plan.specs.MaskLaws.{select_bit}
use Rattle.level_arrays.specs.declared.Fans.{Fans}
use Rattle.level_arrays.specs.Alike.{Label, no_label, fan_labels, MasksAlike, LikeMasks}
use Rattle.level_arrays.specs.AlikeLaws.{top_labels, labels_count, label_at}
use Rattle.level_masks.specs.Like.{LikeBit, LikesPut}

-- ---- from one bit to the next

module _ (cs : List Label) {h r : ℕ} (l : h < length cs) (k : r < 2 ^ h) where
  below_alike : (m : ℕ) → m < 2 ^ h → MasksAlike cs m r → MasksAlike cs (2 ^ h + m) (2 ^ h + r)
  below_alike m b p = permuted_trans (permuted_sym (top_labels 0 cs h m l b)) (permuted_trans (more here p) (top_labels 0 cs h r l k))

  bit_alike : (j : ℕ) → j ≤ h → get_or cs j no_label ≡ get_or cs h no_label → bit_and r (2 ^ j) ≡ 0 → MasksAlike cs (r + 2 ^ j) (2 ^ h + r)
  bit_alike j b e z =
      permuted_trans (permuted_sym (more (select_bit cs j r no_label (omega arith) z) (permuted_refl _))) (rw e (top_labels 0 cs h r l k))

module _ (f : Fans) {h bit : ℕ} {a b : List ℕ} (l : h < f.count) (old : LikeMasks (fan_labels f) a (2 ^ h)) (bits : LikeBit f h bit) (put : LikesPut (2 ^ h) bit a b (2 ^ h)) where
  new_alike : (r : ℕ) → r < 2 ^ h → MasksAlike (fan_labels f) (get_or b (2 ^ h + r) 0) (2 ^ h + r)
  new_alike r k =
      let n = labels_count f in
      let (j, jh, e, d) = bits in
      let lh : h < length (fan_labels f) = omega arith in
      ⊎_elim
      (λ x. rw x.1 (below_alike (fan_labels f) lh k (get_or a r 0) (omega (arith, x.0)) (old.alike r (omega (arith, x.0)) k)))
      (⊎_elim
      (λ x. rw (x.1, e) (bit_alike (fan_labels f) lh k j jh (label_at f j (omega arith) ∙ d ∙ sym (label_at f h l)) (rw e at x.0)))
      (λ x. rw x (permuted_refl _)))
      (put.is r k).is

  pub likes_next : LikeMasks (fan_labels f) b (2 ^ (h + 1))
  likes_next = record {
    low = λ s p k.
        by_cases (dec_lt s (2 ^ h)) (λ d. omega (arith, put.before s d, old.low s p d)) λ d.
        let e : s ≡ 2 ^ h + (s - 2 ^ h) = omega arith in
        let o : 2 ^ (h + 1) ≡ 2 ^ h + 2 ^ h = rw add-one (omega arith) in
        rw e (put.is (s - 2 ^ h) (omega arith)).low;
    alike = λ s p k.
        by_cases (dec_lt s (2 ^ h)) (λ d. rw (put.before s d) (old.alike s p d)) λ d.
        let e : s ≡ 2 ^ h + (s - 2 ^ h) = omega arith in
        let o : 2 ^ (h + 1) ≡ 2 ^ h + 2 ^ h = rw add-one (omega arith) in
        rw e (new_alike (s - 2 ^ h) (omega arith));
  }
