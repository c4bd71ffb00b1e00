-- The least key that a grown list of keys reaches is near to the least that the list reaches: `grown_near`.
-- A list reaches the same keys in any order, so the key that is added or changed may stand first.
use Rattle.std.specs.Prelude.{ℕ, ◌≤◌, ◌≡◌, List, [], ◌∷◌}
use Rattle.std.proofs.Common.{add-zero, arith}
use Rattle.lists.specs.Trusted.Lists.{more}
use Rattle.lists.specs.Sequences.{Mix, left, right}
use Rattle.lists.specs.ListLaws.{inserted_from, permuted_refl}
use Rattle.lists.specs.MixLaws.{mix_none, mix_all, mix_swap, mix_every}
use Rattle.plan.specs.declared.Key.{Key}
use Rattle.plan.specs.Key.{leaf_key, ◌≼◌, join}
use Rattle.plan.specs.KeyLaws.{≼_refl, ≼_trans, pack_cases, is_pack, join_comm, join_mono}
use Rattle.plan.specs.Reach.{Reach, one, both, LeastReach, Wide}
use Rattle.plan.specs.ReachLaws.{no_reach, reach_wide, least_permuted}
use Rattle.one_more.specs.Grown.{deeper, Near, Grown, added, changed}

-- ---- joins

join_above : (K : ℕ) (a b : Key) → b ≼ join K a b
join_above K a b = pack_cases K _ _ _ (λ r. b ≼ r) (omega arith) (omega arith) (omega arith)

deeper_join : (K d : ℕ) (a b : Key) → deeper d (join K a b) ≡ join K (deeper d a) b
deeper_join K d a b =
    pack_cases K _ _ _ (λ r. deeper d r ≡ join K (deeper d a) b)
    (λ p. is_pack _ K _ _ _ (omega arith))
    (λ p q. is_pack _ K _ _ _ (omega arith))
    (λ p q. is_pack _ K _ _ _ (omega arith))

module _ (K : ℕ) (two : 2 ≤ K) where
  join_leaf : (a : Key) → join K leaf_key a ≼ deeper 1 a
  join_leaf a = pack_cases K _ _ _ (λ r. r ≼ deeper 1 a) (omega arith) (omega arith) (omega arith)

  join_deeper : (d : ℕ) (a c : Key) {b : Key} → b ≼ deeper d a → 1 ≤ a.width → 1 ≤ c.width → join K b c ≼ deeper d (join K a c)
  join_deeper d a c h u v = rw (deeper_join K d a c) (join_mono K two h (≼_refl c) u v)

  -- ---- the first key changed

  reach_deeper : (d : ℕ) {x y a : Key} {ks : List Key} → y ≼ deeper d x → Wide (x ∷ ks) → Reach K (x ∷ ks) a →
      (b : Key) × Reach K (y ∷ ks) b × (b ≼ deeper d a)
  reach_deeper d h w one = (_, one, h)
  reach_deeper d h w (both {a = a} {b = b} (left m) p q) =
      let v = mix_every (left m) w in
      let r = reach_deeper d h v.0 p in
      (_, both (left m) r.1 q, join_deeper d a b r.2 (reach_wide two p v.0) (reach_wide two q v.1))
  reach_deeper d h w (both {a = a} {b = b} (right m) p q) =
      let v = mix_every (right m) w in
      let r = reach_deeper d h v.1 q in
      let l = join_deeper d b a r.2 (reach_wide two q v.1) (reach_wide two p v.0) in
      (_, both (right m) p r.1, rw (join_comm K a b, join_comm K a r.0) l)

  least_deeper : (d : ℕ) {x y a b : Key} {ks : List Key} → y ≼ deeper d x → Wide (x ∷ ks) →
      LeastReach K (x ∷ ks) a → LeastReach K (y ∷ ks) b → b ≼ deeper d a
  least_deeper d h w l g = let r = reach_deeper d h w l.reach in ≼_trans (g.least r.0 r.1) r.2

  -- ---- the first key left out

  -- the list is empty, or it reaches a key that is no worse than `b`
  data Under (b : Key) : List Key → Type 0 where
    nothing : Under b []
    some : {a : Key} {ks : List Key} → Reach K ks a → a ≼ b → Under b ks

  under_join : {a b : Key} {xs ys zs : List Key} → Mix xs ys zs → Under a xs → Reach K ys b → 1 ≤ a.width → 1 ≤ b.width →
      Under (join K a b) zs
  under_join {a} {b} m nothing q u v = some (rw (mix_all (mix_swap m)) at q) (join_above K a b)
  under_join {b = b} m (some p h) q u v = some (both m p q) (join_mono K two h (≼_refl b) u v)

  reach_under : {x b : Key} {ks : List Key} → Wide (x ∷ ks) → Reach K (x ∷ ks) b → Under b ks
  reach_under w one = nothing
  reach_under w (both (left m) p q) =
      let v = mix_every (left m) w in
      under_join m (reach_under v.0 p) q (reach_wide two p v.0) (reach_wide two q v.1)
  reach_under w (both {a = a} {b = b} (right m) p q) =
      let v = mix_every (right m) w in
      rw (join_comm K a b) (under_join (mix_swap m) (reach_under v.1 q) p (reach_wide two q v.1) (reach_wide two p v.0))

  least_under : {a b : Key} {ks : List Key} → LeastReach K ks a → Under b ks → a ≼ b
  least_under l nothing = absurd (no_reach l.reach)
  least_under l (some p h) = ≼_trans (l.least _ p) h

  -- ---- a grown list

  pub grown_near : {a b : Key} {ks js : List Key} → Grown ks js → Wide ks → Wide js → LeastReach K ks a → LeastReach K js b → Near a b
  grown_near {a} {ks = ks} (added i) w v l g =
      let h = least_permuted g (more i (permuted_refl ks)) in
      record {
        low = least_under l (reach_under (inserted_from i v) h.reach);
        high = ≼_trans (h.least _ (both (left (mix_none ks)) one l.reach)) (join_leaf a);
      }
  grown_near (changed {ls = ls} i j n) w v l g =
      let f = least_permuted l (more i (permuted_refl ls)) in
      let h = least_permuted g (more j (permuted_refl ls)) in
      record {
        low = rw add-zero at (least_deeper 0 (rw add-zero n.low) (inserted_from j v) h f);
        high = least_deeper 1 n.high (inserted_from i w) f h;
      }
