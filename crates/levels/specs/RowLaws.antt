-- A search that goes by masks: from the entries of all smaller masks, and from the entry of a table of its own, which is of the
-- bound before, those of a mask. So arrays filled in rising order of masks, bound after bound, end with a gate's entries.
use Rattle.std.specs.Prelude.{ℕ, ◌+◌, ◌-◌, ◌^◌, ◌≤◌, ◌<◌, ◌≡◌, refl, Bool, List, [], ◌∷◌, length, get_or}
use Rattle.std.proofs.Common.{add-zero, arith, ⊎_elim, pow_pos}
use Rattle.std.proofs.Math.Decide.{dec_lt}
use Rattle.std.proofs.Math.Logic.{by_cases}
use Rattle.std.proofs.Math.Pow.{pow-lt}
use Rattle.lists.specs.Trusted.Lists.{Permuted, more}
use Rattle.lists.specs.Sequences.{Mix, left, right}
use Rattle.lists.specs.ListLaws.{permuted_refl, permuted_sym}
use Rattle.lists.specs.MixLaws.{mix_swap}
use Rattle.tree.specs.Trusted.Tree.{Node}
use Rattle.plan.specs.Masks.{select, MaskWithin}
use Rattle.plan.specs.MaskLaws.{within_le, within_top, select_mix, select_parted, select_top, select_none, select_some}
use Rattle.levels.specs.Gives.{Gives, AtMost, LeastEntry}
use Rattle.levels.specs.GivesLaws.{gives_wide, no_gives}
use Rattle.levels.specs.EntryLaws.{entry_iff}
use Rattle.levels.specs.Groups.{Groups, alone, joined, chosen, GroupChosen, LevelRows, LevelCell}
use Rattle.levels.specs.GroupLaws.{groups_gives, groups_permuted}

module _ {K : ℕ} {lev : ℕ → ℕ} {from : ℕ} where
  chosen_groups : {zs : List (Bool × Node)} {ℓ c : ℕ} → GroupChosen K lev from zs ℓ c → Groups K lev from zs ℓ 1 c
  chosen_groups p = rw (p.4, p.5) (chosen p.3 p.6)

  at_most_both : {xs ys zs : List (Bool × Node)} {ℓ i j w c d : ℕ} → Mix xs ys zs →
      AtMost (Groups K lev from xs ℓ) i c → AtMost (Groups K lev from ys ℓ) j d → i + j ≤ w → w ≤ K → AtMost (Groups K lev from zs ℓ) w (c + d)
  at_most_both m f g h k = (f.0 + g.0, omega (arith, f.1, g.1), joined m f.2 g.2 (omega (arith, f.1, g.1)))

  -- a group of two or more: two parts, the first fanin in the first of them; or a table of its own
  groups_cases : {z : Bool × Node} {zs : List (Bool × Node)} {ℓ w c : ℕ} (P : Type 0) → 1 ≤ length zs →
      ((xs ys : List (Bool × Node)) (v u d e : ℕ) → Mix xs ys zs → Groups K lev from (z ∷ xs) ℓ v d → Groups K lev from ys ℓ u e →
      v + u ≡ w → d + e ≡ c → P) →
      (GroupChosen K lev from (z ∷ zs) ℓ c → P) → Groups K lev from (z ∷ zs) ℓ w c → P
  groups_cases P l f g (alone h) = absurd (omega arith)
  groups_cases P l f g (joined (left m) a b h) = f _ _ _ _ _ _ m a b refl refl
  groups_cases P l f g (joined (right m) a b h) = f _ _ _ _ _ _ (mix_swap m) b a (omega arith) (omega arith)
  groups_cases P l f g (chosen b h) = g (_, _, _, b, refl, refl, h)

module _ (K : ℕ) (lev : ℕ → ℕ) (from big : ℕ) (zs : List (Bool × Node)) (ℓ : ℕ) (z : Bool × Node) where
  top_permuted : (h r : ℕ) → h < length zs → r < 2 ^ h → Permuted (get_or zs h z ∷ select r zs) (select (2 ^ h + r) zs)
  top_permuted h r l p = more (select_top zs h r z l p) (permuted_refl _)

  -- a mask of one bit
  pub row_one : (h w : ℕ) {e : ℕ} → h < length zs → LeastEntry big (AtMost (Gives K lev (get_or zs h z ∷ []) ℓ) w) e →
      LeastEntry big (AtMost (Groups K lev from (select (2 ^ h) zs) ℓ) w) e
  row_one h w l =
      let p = rw (add-zero, select_none zs) at (top_permuted h 0 l (pow_pos h)) in
      entry_iff (λ c g. (g.0, g.1, groups_permuted (alone g.2) (permuted_sym p)))
      (λ c g. (g.0, g.1, groups_gives (groups_permuted g.2 p)))

  -- a mask of more: its highest bit h, and r below it
  module _ (h r : ℕ) (l : h < length zs) (bits : 0 < r) (below : r < 2 ^ h) (best : ℕ → ℕ → ℕ)
      (before : LevelRows K lev from big zs ℓ best (2 ^ h + r)) where
    pub row_step : {q : ℕ} (w : ℕ) {e : ℕ} → 1 ≤ w → w ≤ K → LeastEntry big (GroupChosen K lev from (select (2 ^ h + r) zs) ℓ) q →
        LevelCell big best (2 ^ h) r w q e → LeastEntry big (AtMost (Groups K lev from (select (2 ^ h + r) zs) ℓ) w) e
    row_step {q} w {e} a b x y = record { some = λ s. ⊎_elim (tabled s) (summed s) (y.some s); low = low; most = y.most }
      where
        whole : Permuted (get_or zs h z ∷ select r zs) (select (2 ^ h + r) zs)
        whole = top_permuted h r l below

        tabled : e < big → e ≡ q → AtMost (Groups K lev from (select (2 ^ h + r) zs) ℓ) w e
        tabled s f = (1, a, rw f (chosen_groups (x.some (omega arith))))

        summed : e < big →
            (u : ℕ) × (i : ℕ) × (0 < u) × MaskWithin u r × (0 < i) × (i < w) × (e ≡ best (2 ^ h + r - u) i + best u (w - i)) →
            AtMost (Groups K lev from (select (2 ^ h + r) zs) ℓ) w e
        summed s (u, i, p, v, j, k, f) =
            let o = within_le u r v in
            rw f
            (at_most_both (select_mix zs u (2 ^ h + r) (within_top h r u below v))
            ((before (2 ^ h + r - u) (omega arith) (omega arith) i (omega arith)).some (omega arith))
            ((before u p (omega (arith, pow_pos h)) (w - i) (omega arith)).some (omega arith)) (omega arith) b)

        parts : {xs ys : List (Bool × Node)} {c d v u : ℕ} → Mix xs ys (select r zs) → Groups K lev from (get_or zs h z ∷ xs) ℓ v c →
            Groups K lev from ys ℓ u d → v + u ≤ w → e ≤ c + d
        parts {c = c} {d = d} {v = v} {u = u} m f g n =
            let t = select_parted zs r m in
            let o = within_le t.0 r t.1 in
            let f' = groups_permuted (rw t.2 at f) (permuted_sym (top_permuted h (r - t.0) l (omega arith))) in
            let g' = rw t.3 at g in
            let s : 2 ^ h + r - t.0 ≡ 2 ^ h + (r - t.0) = omega arith in
            let i = gives_wide (groups_gives f) in
            let j = gives_wide (groups_gives g) in
            by_cases (dec_lt 0 t.0)
            (λ p.
            omega (
              arith,
              y.sums t.0 v p t.1 (omega arith) (omega arith),
              (before (2 ^ h + r - t.0) (omega arith) (omega arith) v (omega arith)).low c (v, omega arith, rw s f'),
              (before t.0 p (omega arith) (w - v) (omega arith)).low d (u, omega arith, g'),
            ))
            (λ p. let k : t.0 ≡ 0 = omega arith in absurd (no_gives (groups_gives (rw (k, select_none zs) at g'))))

        low : (c : ℕ) → AtMost (Groups K lev from (select (2 ^ h + r) zs) ℓ) w c → e ≤ c
        low c g =
            groups_cases (e ≤ c) (select_some zs r z bits (omega (arith, pow-lt l)))
            (λ xs ys v u d f m i j p t. omega (arith, parts m i j (omega (arith, g.1))))
            (λ p. omega (arith, y.own, x.low c (p.0, p.1, p.2, p.3, p.4, p.5, groups_permuted p.6 (permuted_sym whole))))
            (groups_permuted g.2 whole)
