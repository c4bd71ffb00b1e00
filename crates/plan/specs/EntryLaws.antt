-- Laws of the arrays that the search fills: one more entry, and what the entries and volumes below a mask give for it.
use Rattle.std.specs.Prelude.{ℕ, ◌+◌, ◌-◌, ◌*◌, ◌^◌, ◌≤◌, ◌<◌, ◌≡◌, refl, List, length, get_or, set}
use Rattle.std.proofs.Common.{add-zero, arith, ap, get_or-set_same, get_or-set_other, pow_pos}
use Rattle.std.proofs.Math.Decide.{dec_lt}
use Rattle.std.proofs.Math.Logic.{by_cases}
use Rattle.lists.specs.Trusted.Lists.{sum}
use Rattle.lists.specs.NumberLaws.{sum_inserted, sum_mix}
use Rattle.plan.specs.declared.Key.{Key}
use Rattle.plan.specs.Key.{leaf_key, join}
use Rattle.plan.specs.Limits.{most_inputs, most_gate_leaves}
use Rattle.plan.specs.Masks.{select, MaskWithin}
use Rattle.plan.specs.MaskLaws.{within_le, within_top, select_mix, select_top, select_none, select_every}
use Rattle.plan.specs.MaskSearch.{mask_one, mask_step}
use Rattle.plan.specs.Reach.{Wide}
use Rattle.plan.specs.ReachBounds.{reach_leaves, select_small, select_few}
use Rattle.plan.specs.Entries.{entry, FewUnder, Smalls, BestJoin, Entered, Entries, Volumes, GoodKeys}
use Rattle.plan.specs.Volume.{volume, fewest_leaves}
use Rattle.plan.specs.VolumeLaws.{volume_most, join_volume, reach_volume}

kept : (xs : List ℕ) (i x s : ℕ) → s < i → get_or (set xs i x) s 0 ≡ get_or xs s 0
kept xs i x s l = get_or-set_other xs i s x 0 (λ e. omega arith)

-- a store at s or above
entered_kept : {K : ℕ} {ks : List Key} {bs ws : List ℕ} {s : ℕ} {a : Key} {u : ℕ} (i x y : ℕ) → s ≤ i →
    Entered K ks bs ws s a u → Entered K ks (set bs i x) (set ws i y) s a u
entered_kept {bs = bs} {ws = ws} {s = s} {u = u} i x y l e = record {
  least = e.least;
  alone = e.alone;
  apart = λ p.
      let h = e.apart p in
      let j = h.1 in
      let g : s - u < i = omega arith in
      let f : u < i = omega arith in
      (h.0, j, rw (kept bs i x (s - u) g, kept ws i y (s - u) g, kept bs i x u f, kept ws i y u f) h.2);
}

-- one entry more
pub entries_more : {K : ℕ} {ks : List Key} {bs ws us : List ℕ} {n : ℕ} {a : Key} {u : ℕ} →
    n < length bs → n < length ws → n < length us → Entries K ks bs ws us n → Entered K ks bs ws n a u →
    Entries K ks (set bs n a.below) (set ws n a.width) (set us n u) (n + 1)
entries_more {bs = bs} {ws = ws} {us = us} {n = n} {a = a} {u = u} lb lw lu es e = record {
  at = λ s p l.
      by_cases (dec_lt s n)
      (λ h.
      rw (kept bs n a.below s h, kept ws n a.width s h, kept us n u s h)
      (entered_kept n a.below a.width (omega arith) (es.at s p h)))
      (λ h.
      let q : s ≡ n = omega arith in
      rw (q, get_or-set_same bs n a.below 0 lb, get_or-set_same ws n a.width 0 lw, get_or-set_same us n u 0 lu)
      (entered_kept n a.below a.width (omega arith) e));
}

-- one volume more
pub volumes_more : {K : ℕ} {ks : List Key} {vs : List ℕ} {n v : ℕ} → n < length vs → Volumes K ks vs n →
    v ≡ sum (volume K) (select n ks) → Volumes K ks (set vs n v) (n + 1)
volumes_more {vs = vs} {n = n} {v = v} lv f e = record {
  at = λ s p l.
      by_cases (dec_lt s n) (λ h. rw (kept vs n v s h) (f.at s p h)) λ h.
      let q : s ≡ n = omega arith in
      rw (q, get_or-set_same vs n v 0 lv) e;
}

-- a mask of one bit
pub volume_one : (K : ℕ) (ks : List Key) (h : ℕ) → h < length ks → volume K (get_or ks h leaf_key) ≡ sum (volume K) (select (2 ^ h) ks)
volume_one K ks h l =
    let i = rw add-zero at (select_top ks h 0 leaf_key l (pow_pos h)) in
    omega (arith, sum_inserted (volume K) i, ap (sum (volume K)) (select_none ks))

module _ {K : ℕ} {ks : List Key} (good : GoodKeys K ks) where
  wide : Wide ks
  wide a m = (good.keys a m).some

  pub entries_small : {bs ws us : List ℕ} {n : ℕ} → Entries K ks bs ws us n → Smalls K bs ws n
  entries_small es s p l = select_small good s (es.at s p l).least.reach

  -- a mask of one bit
  pub entered_one : {bs ws : List ℕ} (h : ℕ) → h < length ks → Entered K ks bs ws (2 ^ h) (get_or ks h leaf_key) 0
  entered_one h l = record {
    least = mask_one K good.table.0 ks wide h l;
    alone = λ z. (h, l, refl, refl);
    apart = λ p. absurd (omega arith);
  }

  -- a mask of more: its highest bit h, and r below it
  pub entered_join : {bs ws us : List ℕ} {a : Key} {u : ℕ} (h r : ℕ) → h < length ks → 0 < r → r < 2 ^ h →
      Entries K ks bs ws us (2 ^ h + r) → BestJoin K bs ws (2 ^ h) r a u → Entered K ks bs ws (2 ^ h + r) a u
  entered_join {bs} {ws} {a = a} {u = u} h r l p q es b =
      let m = b.made in record {
        least =
            mask_step K good.table.0 ks wide h r l p q (entry bs ws) (λ s f g. (es.at s f g).least) a (u, m.some, m.part, m.is)
            b.low;
        alone = λ z. absurd (omega (arith, m.some));
        apart = λ f. (within_top h r u q m.part, omega (arith, within_le u r m.part), m.is);
      }

  -- the selected keys' volumes are at most that of the key at the mask
  entry_volume : {bs ws us : List ℕ} {n : ℕ} → Entries K ks bs ws us n → (s : ℕ) → 0 < s → s < n →
      sum (volume K) (select s ks) ≤ volume K (entry bs ws s)
  entry_volume es s p l =
      reach_volume K good.table.0 (es.at s p l).least.reach (select_every ks s wide)
      (select_every ks s (λ a m. (good.keys a m).most))

  -- and at most that of every join by a submask
  pub join_bound : {bs ws us : List ℕ} {s : ℕ} → Entries K ks bs ws us s → (u : ℕ) → 0 < u → u < s → MaskWithin u s →
      sum (volume K) (select s ks) ≤ volume K (join K (entry bs ws (s - u)) (entry bs ws u))
  join_bound {bs} {ws} {s = s} es u p l w =
      let m = entries_small es in
      let q : 0 < s - u = omega arith in
      let k : s - u < s = omega arith in
      omega (
        arith,
        sum_mix (volume K) (select_mix ks u s w),
        entry_volume es (s - u) q k,
        entry_volume es u p l,
        join_volume K good.table.0 (entry bs ws (s - u)) (entry bs ws u) (m (s - u) q k).most (m u p l).most,
      )

  -- few leaves stand under a mask, and under a submask and the rest
  entry_leaves : {bs ws us : List ℕ} {n : ℕ} → Entries K ks bs ws us n → (s : ℕ) → 0 < s → s < n →
      fewest_leaves (entry bs ws s) ≤ sum fewest_leaves (select s ks)
  entry_leaves es s p l = reach_leaves K good.table.0 (es.at s p l).least.reach

  pub join_few : {bs ws us : List ℕ} {s : ℕ} → Entries K ks bs ws us s → (u : ℕ) → 0 < u → u < s → MaskWithin u s →
      FewUnder (entry bs ws (s - u)) (entry bs ws u)
  join_few {s = s} es u p l w =
      omega (
        arith,
        sum_mix fewest_leaves (select_mix ks u s w),
        entry_leaves es (s - u) (omega arith) (omega arith),
        entry_leaves es u p l,
        select_few good s,
      )

  pub volumes_few : {bs ws us vs : List ℕ} {n : ℕ} → Entries K ks bs ws us n → Volumes K ks vs n → (s : ℕ) → 0 < s → s < n →
      get_or vs s 0 ≤ (most_inputs - 1) * most_gate_leaves + most_inputs
  volumes_few {bs} {ws} es f s p l =
      let m = entries_small es s p l in
      let b = volume_most {a = entry bs ws s} most_inputs most_gate_leaves good.table.1 m.most (omega (arith, entry_leaves es s p l, select_few good s)) in
      omega (arith, f.at s p l, entry_volume es s p l)
