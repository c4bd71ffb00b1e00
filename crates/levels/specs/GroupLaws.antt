-- Laws of groups of a gate's fanins: a search that starts at the bound 0, or as many bounds below the one that is asked for as the
-- gate has fanins but one, finds all that the fanins can give.
use Rattle.std.specs.Prelude.{ℕ, zero, suc, ◌+◌, ◌≤◌, min, ◌≡◌, refl, ◌⊎◌, Bool, List, [], ◌∷◌, length}
use Rattle.std.proofs.Common.{arith, ⊎_elim, length-append}
use Rattle.lists.specs.Sequences.{Mix}
use Rattle.lists.specs.Trusted.Lists.{Permuted, empty, more, here, there}
use Rattle.lists.specs.ListLaws.{permuted_length}
use Rattle.lists.specs.MixLaws.{mix_append, mix_permuted}
use Rattle.tree.specs.Trusted.Tree.{Node}
use Rattle.levels.specs.Gives.{Gives, net, drawn, both, placed, AtMost, LeastEntry}
use Rattle.levels.specs.GivesLaws.{gives_higher, gives_narrow, no_gives}
use Rattle.levels.specs.EntryLaws.{entry_none}
use Rattle.levels.specs.Groups.{Groups, alone, joined, chosen, GroupChosen}

mix_length : {xs ys zs : List (Bool × Node)} → Mix xs ys zs → length xs + length ys ≡ length zs
mix_length {xs} {ys} m = omega (arith, simp length-append at (permuted_length (mix_append m)))

module _ {K : ℕ} {lev : ℕ → ℕ} where
  some_length : (zs : List (Bool × Node)) {ℓ w c : ℕ} → Gives K lev zs ℓ w c → 1 ≤ length zs
  some_length [] g = absurd (no_gives g)
  some_length (z ∷ zs) g = omega arith

module _ (K : ℕ) (lev : ℕ → ℕ) where
  -- two parts that give c tables or fewer
  record Parts (zs : List (Bool × Node)) (ℓ c : ℕ) : Type 0 where
    left : List (Bool × Node)
    right : List (Bool × Node)
    mix : Mix left right zs
    numbers : (v : ℕ) × (w : ℕ) × (d : ℕ) × (e : ℕ) × (v + w ≤ K) × (d + e ≤ c) × Gives K lev left ℓ v d × Gives K lev right ℓ w e

  -- groups, from some bound on, that give no more inputs and tables
  abbrev pub Found : ℕ → List (Bool × Node) → ℕ → ℕ → ℕ → Type 0
  Found from zs ℓ w c = (v : ℕ) × (e : ℕ) × (v ≤ w) × (e ≤ c) × Groups K lev from zs ℓ v e

module _ {K : ℕ} {lev : ℕ → ℕ} where
  gives_parts : {zs : List (Bool × Node)} {ℓ w c : ℕ} → 2 ≤ length zs → Gives K lev zs ℓ w c → Parts K lev zs ℓ c
  gives_parts l (net h) = absurd (omega arith)
  gives_parts l (drawn g) = absurd (omega arith)
  gives_parts l (both {v = v} {w = w} {c = c} {d = d} m g h f) =
      record { left = _; right = _; mix = m; numbers = (v, w, c, d, f, omega arith, g, h) }
  gives_parts l (placed {ℓ = ℓ} g) =
      let p = gives_parts l g in
      let (v, w, d, e, f, s, g, h) = p.numbers in
      record {
        left = p.left;
        right = p.right;
        mix = p.mix;
        numbers = (v, w, d, e, f, omega arith, gives_higher (suc ℓ) g (omega arith), gives_higher (suc ℓ) h (omega arith));
      }

  -- ---- groups

  pub groups_gives : {from : ℕ} {zs : List (Bool × Node)} {ℓ w c : ℕ} → Groups K lev from zs ℓ w c → Gives K lev zs ℓ w c
  groups_gives (alone g) = g
  groups_gives (joined m g h f) = both m (groups_gives g) (groups_gives h) f
  groups_gives (chosen l g) = placed (groups_gives g)

  pub groups_permuted : {from : ℕ} {xs ys : List (Bool × Node)} {ℓ w c : ℕ} → Groups K lev from xs ℓ w c → Permuted ys xs →
      Groups K lev from ys ℓ w c
  groups_permuted (alone g) (more here (more k _)) = elim k [ ]
  groups_permuted (alone g) (more (there k) _) = elim k [ ]
  groups_permuted (alone g) (more here empty) = alone g
  groups_permuted (joined m g h f) p = let q = mix_permuted p m in joined q.4 (groups_permuted g q.2) (groups_permuted h q.3) f
  groups_permuted (chosen l g) p = chosen l (groups_permuted g p)

  pub groups_higher : {from : ℕ} {zs : List (Bool × Node)} {ℓ w c : ℕ} (ℓ' : ℕ) → Groups K lev from zs ℓ w c → ℓ ≤ ℓ' →
      Groups K lev from zs ℓ' w c
  groups_higher ℓ' (alone g) l = alone (gives_higher ℓ' g l)
  groups_higher ℓ' (joined m g h f) l = joined m (groups_higher ℓ' g l) (groups_higher ℓ' h l) f
  groups_higher zero (chosen b g) l = absurd (omega arith)
  groups_higher (suc ℓ') (chosen {ℓ = ℓ} b g) l = chosen {ℓ = ℓ'} (omega arith) (groups_higher ℓ' g (omega arith))

  -- from the bound 0 on they give all
  groups_all : {zs : List (Bool × Node)} {ℓ w c : ℕ} → Gives K lev zs ℓ w c → Groups K lev 0 zs ℓ w c
  groups_all (net h) = alone (net h)
  groups_all (drawn g) = alone (drawn g)
  groups_all (both m g h f) = joined m (groups_all g) (groups_all h) f
  groups_all (placed {ℓ = ℓ} g) = chosen {ℓ = ℓ} (omega arith) (groups_all g)

  pub found_joined : {from : ℕ} {xs ys zs : List (Bool × Node)} {ℓ v w c d : ℕ} → Mix xs ys zs → Found K lev from xs ℓ v c → Found K lev from ys ℓ w d →
      v + w ≤ K → Found K lev from zs ℓ (v + w) (c + d)
  found_joined m p q f =
      (p.0 + q.0, p.1 + q.1, omega (arith, p.2, q.2), omega (arith, p.3, q.3), joined m p.4 q.4 (omega (arith, p.2, q.2)))

  pub found_chosen : {from : ℕ} {zs : List (Bool × Node)} {ℓ w c : ℕ} → from ≤ ℓ → Found K lev from zs ℓ w c → Found K lev from zs (suc ℓ) 1 (suc c)
  found_chosen l p = (1, suc p.1, omega arith, omega (arith, p.3), chosen l p.4)

  -- by a search of one bound more for one fanin more
  found_step : {from n : ℕ} →
      ((zs : List (Bool × Node)) (ℓ w c : ℕ) → length zs ≤ n → from + n ≤ suc ℓ → Gives K lev zs ℓ w c → Found K lev from zs ℓ w c) →
      (zs : List (Bool × Node)) {ℓ w c : ℕ} → length zs ≤ suc n → from + suc n ≤ suc ℓ → Gives K lev zs ℓ w c → Found K lev from zs ℓ w c
  found_step f [] l b g = absurd (no_gives g)
  found_step f (z ∷ []) {w = w} {c = c} l b g = (w, c, omega arith, omega arith, alone g)
  found_step f (z ∷ y ∷ zs) l b (both {xs = xs} {ys = ys} m g h k) =
      let e = mix_length m in
      let i = some_length xs g in
      let j = some_length ys h in
      found_joined m (f xs _ _ _ (omega arith) (omega arith) g) (f ys _ _ _ (omega arith) (omega arith) h) k
  found_step f (z ∷ y ∷ zs) l b (placed {ℓ = ℓ} g) =
      let p = gives_parts (omega arith) g in
      let (v, w, d, e, k, s, g, h) = p.numbers in
      let m = mix_length p.mix in
      let i = some_length p.left g in
      let j = some_length p.right h in
      let x = f p.left ℓ v d (omega arith) (omega arith) g in
      let y = f p.right ℓ w e (omega arith) (omega arith) h in
      let (a, b, k, c, q) = found_chosen (omega arith) (found_joined p.mix x y k) in
      (a, b, k, omega arith, q)

  -- as far below the bound as there are fanins but one
  found : (from n : ℕ) (zs : List (Bool × Node)) (ℓ w c : ℕ) → length zs ≤ n → from + n ≤ suc ℓ → Gives K lev zs ℓ w c → Found K lev from zs ℓ w c
  found from zero [] ℓ w c l b g = absurd (no_gives g)
  found from zero (z ∷ zs) ℓ w c l b g = absurd (omega arith)
  found from (suc n) zs ℓ w c l b g = found_step (found from n) zs l b g

  pub gives_groups : {from : ℕ} (zs : List (Bool × Node)) {ℓ w c : ℕ} → (from ≡ 0) ⊎ (from + length zs ≤ suc ℓ) → Gives K lev zs ℓ w c →
      Found K lev from zs ℓ w c
  gives_groups {from} zs {ℓ} {w} {c} b g =
      ⊎_elim (λ z. (w, c, omega arith, omega arith, rw z (groups_all g))) (λ h. found from (length zs) zs ℓ w c (omega arith) h g) b

  -- ---- entries

  module _ {big from : ℕ} where
    pub entry_groups : {zs : List (Bool × Node)} {ℓ w e : ℕ} → (from ≡ 0) ⊎ (from + length zs ≤ suc ℓ) →
        LeastEntry big (AtMost (Groups K lev from zs ℓ) w) e → LeastEntry big (AtMost (Gives K lev zs ℓ) w) e
    entry_groups {zs} {ℓ} b x = record {
      some = λ l. let p = x.some l in (p.0, p.1, groups_gives p.2);
      low = λ c p. let (v, e, i, j, g) = gives_groups zs b p.2 in omega (arith, x.low e (v, omega (arith, p.1), g));
      most = x.most;
    }

    -- tables of their own: none at the first bound, and at each other one more than the entries of the bound before for K inputs
    pub own_first : {zs : List (Bool × Node)} → LeastEntry big (GroupChosen K lev from zs from) big
    own_first = entry_none (λ c p. omega (arith, p.3, p.4))

    pub own_next : {zs : List (Bool × Node)} {ℓ e : ℕ} → 1 ≤ K → from ≤ ℓ → LeastEntry big (AtMost (Groups K lev from zs ℓ) K) e →
        LeastEntry big (GroupChosen K lev from zs (suc ℓ)) (min big (suc e))
    own_next {zs} {ℓ} {e} k b x = record {
      some = λ l. let p = x.some (omega arith) in (ℓ, p.0, e, b, refl, omega arith, p.2);
      low = λ c p.
          let g = rw (same p.4) at p.6 in
          omega (arith, p.5, x.low p.2 (p.1, gives_narrow k (groups_gives g), g));
      most = omega arith;
    }
      where
        same : {m : ℕ} → suc ℓ ≡ suc m → m ≡ ℓ
        same h = omega arith
