-- A search that goes by masks: from the least keys of all smaller masks, the best join of a mask's two parts is the mask's
-- least key. So an array filled in rising order of masks ends with the least key of the whole list (EntryLaws).
use Rattle.std.specs.Prelude.{ℕ, ◌+◌, ◌-◌, ◌^◌, ◌≤◌, ◌<◌, ◌≡◌, List, ◌∷◌, length, get_or}
use Rattle.std.proofs.Common.{add-zero, arith, pow_pos}
use Rattle.std.proofs.Math.Decide.{dec_lt}
use Rattle.std.proofs.Math.Logic.{by_cases}
use Rattle.std.proofs.Math.Pow.{pow-lt}
use Rattle.lists.specs.Trusted.Lists.{Permuted, more}
use Rattle.lists.specs.Sequences.{Mix, left}
use Rattle.lists.specs.ListLaws.{permuted_refl, permuted_sym, permuted_to}
use Rattle.plan.specs.declared.Key.{Key}
use Rattle.plan.specs.Key.{leaf_key, ◌≼◌, join}
use Rattle.plan.specs.Reach.{Reach, both, LeastReach, Wide}
use Rattle.plan.specs.ReachLaws.{least_permuted, least_one, least_single, no_reach}
use Rattle.plan.specs.SubsetLaws.{least_step}
use Rattle.plan.specs.Masks.{select, MaskWithin}
use Rattle.plan.specs.MaskLaws.{within_le, select_mix, select_parted, select_top, select_none, select_every, select_some}

module _ (K : ℕ) (two : 2 ≤ K) (ks : List Key) (wide : Wide ks) where
  -- the key at a bit
  abbrev at : ℕ → Key
  at h = get_or ks h leaf_key

  top_permuted : (h r : ℕ) → h < length ks → r < 2 ^ h → Permuted (at h ∷ select r ks) (select (2 ^ h + r) ks)
  top_permuted h r l p = more (select_top ks h r leaf_key l p) (permuted_refl _)

  -- a mask of one bit
  pub mask_one : (h : ℕ) → h < length ks → LeastReach K (select (2 ^ h) ks) (get_or ks h leaf_key)
  mask_one h l =
      let p = rw add-zero at (top_permuted h 0 l (pow_pos h)) in
      least_permuted (rw (select_none ks) (least_single (at h))) (permuted_sym p)

  -- a mask of more: its highest bit h, and r below it
  module _ (h r : ℕ) (l : h < length ks) (some : 0 < r) (below : r < 2 ^ h) (best : ℕ → Key)
      (before : (s : ℕ) → 0 < s → s < 2 ^ h + r → LeastReach K (select s ks) (best s)) where
    -- a submask of r, and the rest of the mask
    low_part : (u : ℕ) → 0 < u → MaskWithin u r → LeastReach K (select u ks) (best u)
    low_part u p w = before u p (omega (arith, within_le u r w, pow_pos h))

    high_part : (u : ℕ) → 0 < u → MaskWithin u r → LeastReach K (at h ∷ select (r - u) ks) (best (2 ^ h + r - u))
    high_part u p w =
        let e : 2 ^ h + r - u ≡ 2 ^ h + (r - u) = omega (arith, within_le u r w) in
        let b = before (2 ^ h + r - u) (omega (arith, pow_pos h)) (omega (arith, within_le u r w)) in
        least_permuted b (rw e (top_permuted h (r - u) l (omega arith)))

    pub mask_step : (k : Key) → ((u : ℕ) × (0 < u) × MaskWithin u r × (k ≡ join K (best (2 ^ h + r - u)) (best u))) →
        ((u : ℕ) → 0 < u → MaskWithin u r → k ≼ join K (best (2 ^ h + r - u)) (best u)) → LeastReach K (select (2 ^ h + r) ks) k
    mask_step k made low = least_permuted (least_step K two thick (select_some ks r leaf_key some in_range) reached under) (permuted_sym whole)
      where
        whole : Permuted (at h ∷ select r ks) (select (2 ^ h + r) ks)
        whole = top_permuted h r l below

        in_range : r < 2 ^ length ks
        in_range = omega (arith, pow-lt l)

        thick : Wide (at h ∷ select r ks)
        thick = permuted_to (permuted_sym whole) (select_every ks (2 ^ h + r) wide)

        reached : Reach K (at h ∷ select r ks) k
        reached =
            let u = made.0 in
            rw made.3
            (both (left (select_mix ks u r made.2)) (high_part u made.1 made.2).reach (low_part u made.1 made.2).reach)

        under : (xs ys : List Key) (a b : Key) → Mix xs ys (select r ks) → LeastReach K (at h ∷ xs) a → LeastReach K ys b →
            k ≼ join K a b
        under xs ys a b m f g =
            let q = select_parted ks r m in
            let u = q.0 in
            let f' = rw q.2 at f in
            let g' = rw q.3 at g in
            by_cases (dec_lt 0 u)
            (λ p. rw (least_one f' (high_part u p q.1), least_one g' (low_part u p q.1)) (low u p q.1))
            (λ p. let z : u ≡ 0 = omega arith in absurd (no_reach (rw (z, select_none ks) at g'.reach)))
