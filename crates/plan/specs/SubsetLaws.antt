-- Each entry is the least key that its part of the list reaches, or there is none; so `least_of` is the least that the list
-- reaches. `least_step` is the law behind a program that goes by parts.
use Rattle.std.specs.Prelude.{ℕ, ◌≤◌, ◌≡◌, refl, ◌⊎◌, List, [], ◌∷◌, length}
use Rattle.std.proofs.Common.{inl, inr, ⊎_elim, arith}
use Rattle.std.proofs.Math.Option.{Option, some, none, get_or}
use Rattle.lists.specs.Sequences.{Mix, neither, left, right}
use Rattle.lists.specs.ListLaws.{every_none, every_cons, every_head, every_tail}
use Rattle.lists.specs.MixLaws.{every_mix, mix_every, mix_swap}
use Rattle.plan.specs.declared.Key.{Key}
use Rattle.plan.specs.Key.{leaf_key, ◌≼◌, join}
use Rattle.plan.specs.KeyLaws.{≼_refl, ≼_trans, better_cases, join_comm, join_mono}
use Rattle.plan.specs.Reach.{Reach, one, both, LeastReach, Wide}
use Rattle.plan.specs.ReachLaws.{no_reach, reach_wide}
use Rattle.plan.specs.Subsets.{SubsetEntries, tip, fork, better_of, join_of, betters, joins, solve, no_entries, only, entries, full, least_of}

-- What the entries are: each is the least key that has a property of its part, or there is no such key.

abbrev Exact : (Key → Type 0) → Option Key → Type 0
Exact P none = (r : Key) → P r → ⊥
Exact P (some o) = P o × ((r : Key) → P r → o ≼ r)

abbrev Property : Type 1
Property = List Key → Key → Type 0

-- the property of the parts with `k` added
abbrev plus : Key → Property → Property
plus k P zs = P (k ∷ zs)

abbrev either : Property → Property → Property
either P Q zs r = P zs r ⊎ Q zs r

abbrev Implies : Property → Property → Type 0
Implies P Q = (zs : List Key) (r : Key) → P zs r → Q zs r

abbrev Same : Property → Property → Type 0
Same P Q = Implies P Q × Implies Q P

-- every entry is exact
abbrev Each : {ks : List Key} → SubsetEntries ks → Property → Type 0
Each (tip o) P = Exact (P []) o
Each (fork {k} a b) P = Each a P × Each b (plus k P)

exact_iff : (P Q : Key → Type 0) (o : Option Key) → ((r : Key) → P r → Q r) → ((r : Key) → Q r → P r) → Exact P o → Exact Q o
exact_iff P Q none f g h = λ r q. h r (g r q)
exact_iff P Q (some o) f g h = (f o h.0, λ r q. h.1 r (g r q))

each_iff : {ks : List Key} (P Q : Property) (t : SubsetEntries ks) → Same P Q → Each t P → Each t Q
each_iff P Q (tip o) e h = exact_iff (P []) (Q []) o (e.0 []) (e.1 []) h
each_iff P Q (fork {k} a b) e h =
    (each_iff P Q a e h.0, each_iff (plus k P) (plus k Q) b (λ zs. e.0 (k ∷ zs), λ zs. e.1 (k ∷ zs)) h.1)

better_exact : (P Q : Key → Type 0) (a b : Option Key) → Exact P a → Exact Q b → Exact (λ r. P r ⊎ Q r) (better_of a b)
better_exact P Q none none h l = λ r. ⊎_elim (h r) (l r)
better_exact P Q none (some b) h l = (inr l.0, λ r. ⊎_elim (λ p. absurd (h r p)) (l.1 r))
better_exact P Q (some a) none h l = (inl h.0, λ r. ⊎_elim (h.1 r) (λ q. absurd (l r q)))
better_exact P Q (some a) (some b) h l =
    better_cases a b (λ o. Exact (λ r. P r ⊎ Q r) (some o))
    (λ c. (inl h.0, λ r. ⊎_elim (h.1 r) (λ q. ≼_trans c (l.1 r q))))
    (λ c. (inr l.0, λ r. ⊎_elim (λ p. ≼_trans c (h.1 r p)) (l.1 r)))

betters_exact : {ks : List Key} (P Q : Property) (a b : SubsetEntries ks) → Each a P → Each b Q → Each (betters a b) (either P Q)
betters_exact P Q (tip a) (tip b) h l = better_exact (P []) (Q []) a b h l
betters_exact P Q (fork {k} a b) (fork c d) h l =
    (betters_exact P Q a c h.0 l.0, betters_exact (plus k P) (plus k Q) b d h.1 l.1)

-- `r` is `k`, at the empty part
abbrev Only : Key → Property
Only k [] r = r ≡ k
Only k (z ∷ zs) r = ⊥

no_entries_exact : (P : Property) (ks : List Key) → ((zs : List Key) (r : Key) → P zs r → ⊥) → Each (no_entries ks) P
no_entries_exact P [] f = f []
no_entries_exact P (k ∷ ks) f = (no_entries_exact P ks f, no_entries_exact (plus k P) ks (λ zs. f (k ∷ zs)))

only_exact : (ks : List Key) (r : Key) → Each (only ks r) (Only r)
only_exact [] r = (refl, λ s e. rw e (≼_refl r))
only_exact (k ∷ ks) r = (only_exact ks r, no_entries_exact (plus k (Only r)) ks (λ zs s b. b))

full_exact : {ks : List Key} (P : Property) (t : SubsetEntries ks) → Each t P → Exact (P ks) (full t)
full_exact P (tip a) h = h
full_exact P (fork {k} a b) h = full_exact (plus k P) b h.1

-- every key with the property has inputs
abbrev Thick : Property → Type 0
Thick P = (zs : List Key) (r : Key) → P zs r → 1 ≤ r.width

module _ (K : ℕ) where
  -- a join of a key with the first property and one with the second, at parts that make up this one
  data Joined (P Q : Property) : List Key → Key → Type 0 where
    joined : {xs ys zs : List Key} {a b : Key} → Mix xs ys zs → P xs a → Q ys b → Joined P Q zs (join K a b)

  at_empty : {P Q : Property} {r : Key} → Joined P Q [] r →
      (C : Key → Type 0) → ((a b : Key) → P [] a → Q [] b → C (join K a b)) → C r
  at_empty (joined neither p q) C f = f _ _ p q

  -- the first key is in one part or in the other
  joined_in : (k : Key) (P Q : Property) → Implies (either (Joined (plus k P) Q) (Joined P (plus k Q))) (plus k (Joined P Q))
  joined_in k P Q zs r (inl (joined m p q)) = joined (left m) p q
  joined_in k P Q zs r (inr (joined m p q)) = joined (right m) p q

  joined_out : (k : Key) (P Q : Property) → Implies (plus k (Joined P Q)) (either (Joined (plus k P) Q) (Joined P (plus k Q)))
  joined_out k P Q zs r (joined (left m) p q) = inl (joined m p q)
  joined_out k P Q zs r (joined (right m) p q) = inr (joined m p q)

  -- what `solve` does at the parts with `k` added
  solved_plus : (k : Key) (H F S : Property) → Same (either H (Joined S F)) S →
      Same (either (either (plus k H) (Joined S (plus k F))) (Joined (plus k S) F)) (plus k S)
  solved_plus k H F S e = (
    λ zs r. ⊎_elim
        (⊎_elim (λ h. e.0 (k ∷ zs) r (inl h)) (λ j. e.0 (k ∷ zs) r (inr (joined_in k S F zs r (inr j)))))
        (λ j. e.0 (k ∷ zs) r (inr (joined_in k S F zs r (inl j)))),
    λ zs r s. ⊎_elim (λ h. inl (inl h)) (λ j. ⊎_elim (λ a. inr a) (λ b. inl (inr b)) (joined_out k S F zs r j)) (e.1 (k ∷ zs) r s),
  )

  module _ (two : 2 ≤ K) where
    join_exact : (P Q : Property) (a b : Option Key) → Thick P → Thick Q →
        Exact (P []) a → Exact (Q []) b → Exact (Joined P Q []) (join_of K a b)
    join_exact P Q none b t u h l = λ r j. at_empty j (λ r. ⊥) (λ x y p q. h x p)
    join_exact P Q (some a) none t u h l = λ r j. at_empty j (λ r. ⊥) (λ x y p q. l y q)
    join_exact P Q (some a) (some b) t u h l = (
      joined neither h.0 l.0,
      λ r j. at_empty j (λ r. join K a b ≼ r) (λ x y p q. join_mono K two (h.1 x p) (l.1 y q) (t [] x p) (u [] y q)),
    )

    joins_exact : {ks : List Key} (P Q : Property) (a b : SubsetEntries ks) → Thick P → Thick Q →
        Each a P → Each b Q → Each (joins K a b) (Joined P Q)
    joins_exact P Q (tip a) (tip b) t u h l = join_exact P Q a b t u h l
    joins_exact P Q (fork {k} a b) (fork c d) t u h l = (
      joins_exact P Q a c t u h.0 l.0,
      each_iff (either (Joined (plus k P) Q) (Joined P (plus k Q))) (plus k (Joined P Q)) (betters (joins K b c) (joins K a d))
          (joined_in k P Q, joined_out k P Q)
          (betters_exact (Joined (plus k P) Q) (Joined P (plus k Q)) (joins K b c) (joins K a d)
          (joins_exact (plus k P) Q b c (λ zs. t (k ∷ zs)) u h.1 l.0)
          (joins_exact P (plus k Q) a d t (λ zs. u (k ∷ zs)) h.0 l.1)),
    )

    -- the property `S` is that of what `H` gives, and of joins of `S` with `F`
    solve_exact : {ks : List Key} (H F S : Property) (f h : SubsetEntries ks) → Thick S → Thick F → ((r : Key) → F [] r → ⊥) →
        Same (either H (Joined S F)) S → Each f F → Each h H → Each (solve K f h) S
    solve_exact H F S (tip f) (tip h) t u e i x y =
        exact_iff (H []) (S []) h (λ r p. i.0 [] r (inl p))
        (λ r s. ⊎_elim (λ p. p) (λ j. at_empty j (H []) (λ a b p q. absurd (e b q))) (i.1 [] r s)) y
    solve_exact H F S (fork {k} f g) (fork h l) t u e i x y =
        let s = solve_exact H F S f h t u e i x.0 y.0 in
        let r = joins K (solve K f h) g in
        let q = joins_exact S (plus k F) (solve K f h) g t (λ zs. u (k ∷ zs)) s x.1 in
        let z = betters_exact (plus k H) (Joined S (plus k F)) l r y.1 q in (
          s,
          solve_exact (either (plus k H) (Joined S (plus k F))) F (plus k S) f (betters l r)
              (λ zs. t (k ∷ zs)) u e (solved_plus k H F S i) x.0 z,
        )

module _ (K : ℕ) where
  data Reached (zs : List Key) (r : Key) : Type 0 where
    reached : Wide zs → Reach K zs r → Reached zs r

  reached_empty : (r : Key) → Reached [] r → ⊥
  reached_empty r (reached w p) = no_reach p

  reached_in : (k : Key) → 1 ≤ k.width → Implies (either (Only k) (Joined K (plus k Reached) Reached)) (plus k Reached)
  reached_in k h [] r (inl e) = rw e (reached (every_cons h (every_none _)) one)
  reached_in k h (z ∷ zs) r (inl e) = absurd e
  reached_in k h zs r (inr (joined m (reached w p) (reached v q))) = reached (every_cons (every_head w) (every_mix m (every_tail w) v)) (both (left m) p q)

  reached_out : (k : Key) → Implies (plus k Reached) (either (Only k) (Joined K (plus k Reached) Reached))
  reached_out k zs r (reached w one) = inl refl
  reached_out k zs r (reached w (both (left m) p q)) =
      let v = mix_every (left {x = k} m) w in
      inr (joined m (reached v.0 p) (reached v.1 q))
  reached_out k zs r (reached w (both (right m) p q)) =
      let v = mix_every (right {y = k} m) w in
      inr (rw (join_comm K) (joined (mix_swap m) (reached v.1 q) (reached v.0 p)))

  module _ (two : 2 ≤ K) where
    thick : Thick Reached
    thick zs r (reached w p) = reach_wide two p w

    entries_exact : (ks : List Key) → Wide ks → Each (entries K ks) Reached
    entries_exact [] w = reached_empty
    entries_exact (k ∷ ks) w =
        let h = entries_exact ks (every_tail w) in (
          h,
          solve_exact K two (Only k) Reached (plus k Reached) (entries K ks) (only ks k) (λ zs. thick (k ∷ zs)) thick reached_empty
              (reached_in k (every_head w), reached_out k) h (only_exact ks k),
        )

module _ (K : ℕ) (two : 2 ≤ K) where
  pub least_of_least : {ks : List Key} {s : Key} → Wide ks → Reach K ks s → LeastReach K ks (least_of K ks)
  unfolding least_of
  least_of_least {ks} {s} w p = go (full (entries K ks)) (full_exact (Reached K) (entries K ks) (entries_exact K two ks w))
    where
      reach_of : {r : Key} → Reached K ks r → Reach K ks r
      reach_of (reached v q) = q

      go : (o : Option Key) → Exact (Reached K ks) o → LeastReach K ks (get_or o leaf_key)
      go none h = absurd (h s (reached w p))
      go (some r) h = record { reach = reach_of h.0; least = λ r' q. h.1 r' (reached w q) }

  -- one step of a program that goes by parts: of the joins of two parts' least keys, the first key in the first part, the
  -- least is the least that the whole list reaches
  pub least_step : {k : Key} {zs : List Key} {r : Key} → Wide (k ∷ zs) → 1 ≤ length zs → Reach K (k ∷ zs) r →
      ((xs ys : List Key) (a b : Key) → Mix xs ys zs → LeastReach K (k ∷ xs) a → LeastReach K ys b → r ≼ join K a b) →
      LeastReach K (k ∷ zs) r
  least_step {k} {zs} {r} w n p f = record { reach = p; least = λ s q. go zs n low q }
    where
      low : (xs ys : List Key) (a b : Key) → Mix xs ys zs → Reach K (k ∷ xs) a → Reach K ys b → r ≼ join K a b
      low xs ys a b m p q =
          let v = mix_every m (every_tail w) in
          let u = every_cons (every_head w) v.0 in
          let g = least_of_least u p in
          let h = least_of_least v.1 q in
          ≼_trans (f _ _ _ _ m g h) (join_mono K two (g.least _ p) (h.least _ q) (reach_wide two p u) (reach_wide two q v.1))

      go : (zs : List Key) {s : Key} → 1 ≤ length zs →
          ((xs ys : List Key) (a b : Key) → Mix xs ys zs → Reach K (k ∷ xs) a → Reach K ys b → r ≼ join K a b) →
          Reach K (k ∷ zs) s → r ≼ s
      go zs n g one = absurd (omega arith)
      go zs n g (both (left m) p q) = g _ _ _ _ m p q
      go zs n g (both (right m) p q) = rw (join_comm K) (g _ _ _ _ (mix_swap m) q p)
