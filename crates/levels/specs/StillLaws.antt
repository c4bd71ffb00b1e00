-- Arrays that do not change from one bound to the next, where no fanin's entries change any more, do not change at all.
use Rattle.std.specs.Prelude.{ℕ, suc, ◌+◌, ◌-◌, ◌^◌, ◌≤◌, ◌<◌, ◌≡◌, refl, ◌⊎◌, Bool, List, [], ◌∷◌, length}
use Rattle.std.proofs.Common.{arith, sym, subst, inl, inr, pow_pos, pow_mono}
use Rattle.std.proofs.Math.Decide.{dec_lt}
use Rattle.std.proofs.Math.Logic.{by_cases}
use Rattle.lists.specs.Trusted.Lists.{Every}
use Rattle.lists.specs.ListLaws.{every_head}
use Rattle.tree.specs.Trusted.Tree.{Node}
use Rattle.plan.specs.Masks.{select}
use Rattle.plan.specs.MaskLaws.{within_le, select_parted, select_none, select_every, select_all}
use Rattle.levels.specs.Gives.{Gives}
use Rattle.levels.specs.GivesLaws.{gives_higher, gives_wide, gives_narrow, no_gives}
use Rattle.levels.specs.Groups.{Groups, alone, joined, chosen, LevelRows}
use Rattle.levels.specs.GroupLaws.{Found, found_joined, found_chosen, groups_gives, gives_groups}
use Rattle.levels.specs.Lines.{LevelSettled}

module _ {K : ℕ} {lev : ℕ → ℕ} {from : ℕ} where
  fanin_found : {z : Bool × Node} {ℓ ℓ' w c : ℕ} → LevelSettled K lev (z ∷ []) ℓ → Gives K lev (z ∷ []) ℓ' w c → Found K lev from (z ∷ []) ℓ w c
  fanin_found {ℓ' = ℓ'} {w = w} {c = c} s g = let p = s ℓ' w c g in (p.0, p.1, p.2, p.3, alone p.4)

  fewer : {xs : List (Bool × Node)} {ℓ v w c d : ℕ} → v ≤ w → c ≤ d → Found K lev from xs ℓ v c → Found K lev from xs ℓ w d
  fewer i j p = (p.0, p.1, omega (arith, p.2), omega (arith, p.3), p.4)

module _ (K : ℕ) (lev : ℕ → ℕ) (from big : ℕ) (zs : List (Bool × Node)) (ℓ : ℕ) (some : 1 ≤ K) (begun : from ≤ ℓ)
    (singles : Every (λ z. LevelSettled K lev (z ∷ []) ℓ) zs) (best : ℕ → ℕ → ℕ)
    (now : LevelRows K lev from big zs ℓ best (2 ^ length zs)) (next : LevelRows K lev from big zs (suc ℓ) best (2 ^ length zs)) where
  -- at the next bound
  still : (s : ℕ) {v c : ℕ} → s < 2 ^ length zs → c < big → Groups K lev from (select s zs) (suc ℓ) v c → Found K lev from (select s zs) ℓ v c
  still s {v} {c} l b g =
      by_cases (dec_lt 0 s)
      (λ p.
      let w = gives_narrow some (groups_gives g) in
      let e = (next s p l v w).low c (v, omega arith, g) in
      let x = (now s p l v w).some (omega arith) in
      (x.0, best s v, x.1, e, x.2))
      (λ p. let z : s ≡ 0 = omega arith in absurd (no_gives (groups_gives (rw (z, select_none zs) at g))))

  found_still : {xs : List (Bool × Node)} (s : ℕ) {v c : ℕ} → s < 2 ^ length zs → xs ≡ select s zs → c < big →
      Found K lev from xs (suc ℓ) v c → Found K lev from xs ℓ v c
  found_still s {v} {c} l e b (u, d, i, j, x) =
      fewer i j (subst (λ ys. Found K lev from ys ℓ u d) (sym e) (still s l (omega arith) (rw e at x)))

  -- at any later bound
  stays : {xs : List (Bool × Node)} {ℓ' v c : ℕ} → Groups K lev from xs ℓ' v c → (s : ℕ) → s < 2 ^ length zs → xs ≡ select s zs →
      ℓ ≤ ℓ' → c < big → Found K lev from xs ℓ v c
  stays (alone g) s l e h b = fanin_found (every_head (rw (sym e) at (select_every zs s singles))) g
  stays (joined m g k f) s l e h b =
      let t = select_parted zs s (rw e at m) in
      let o = within_le t.0 s t.1 in
      found_joined m (stays g (s - t.0) (omega arith) t.2 h (omega arith)) (stays k t.0 (omega arith) t.3 h (omega arith)) f
  stays (chosen {ℓ = p} {c = c} a g) s l e h b =
      by_cases (dec_lt p ℓ)
      (λ q. let r : ℓ ≡ suc p = omega arith in (1, suc c, omega arith, omega arith, rw r (chosen a g)))
      (λ q. found_still s l e b (found_chosen begun (stays g s l e (omega arith) (omega arith))))

  -- THE SAME ARRAYS AT TWO BOUNDS, with an entry for one input at all fanins: no higher bound allows more
  pub rows_settled : 1 ≤ length zs → best (2 ^ length zs - 1) 1 < big → (from ≡ 0) ⊎ (from + length zs ≤ suc ℓ) → LevelSettled K lev zs ℓ
  rows_settled many one start ℓ' w c g =
      by_cases (dec_lt c big)
      (λ b.
      by_cases (dec_lt ℓ ℓ')
      (λ l.
      let (u, e, k, n, x) = gives_groups zs (later start l) g in
      let y = stays x (2 ^ length zs - 1) (omega (arith, pow_pos (length zs))) (sym (select_all zs (length zs) refl)) (omega arith) (omega arith) in
      (y.0, y.1, omega (arith, y.2), omega (arith, y.3), groups_gives y.4))
      (λ l. (w, c, omega arith, omega arith, gives_higher ℓ g (omega arith))))
      (λ b.
      let x = (now (2 ^ length zs - 1) (omega (arith, pow_mono many)) (omega (arith, pow_pos (length zs))) 1 (omega arith)).some one in
      let y = groups_gives (rw (select_all zs (length zs) refl) at x.2) in
      (x.0, best (2 ^ length zs - 1) 1, omega (arith, x.1, gives_wide g), omega arith, y))
    where
      later : {ℓ' : ℕ} → (from ≡ 0) ⊎ (from + length zs ≤ suc ℓ) → ℓ < ℓ' → (from ≡ 0) ⊎ (from + length zs ≤ suc ℓ')
      later (inl z) l = inl z
      later (inr h) l = inr (omega arith)
