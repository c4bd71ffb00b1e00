-- The least of sums, as the loops find it: over the first part's inputs, over the numbers of inputs of a row, and over the submasks of a mask.
-- Assumes nothing.
use Prim.Native.Nat.{ℕ, zero, suc, ◌+◌, ◌-◌, ◌*◌, ◌≤◌, ◌<◌}
use native.Mathlib.Omega.{arith}
use native.Mathlib.Decide.{dec_lt}
use mathlib.Core.Path.{◌≡◌, ◌∙◌}
use mathlib.Core.Logic.{◌⊎◌, inl, inr, ⊎_elim, by_cases}
use mathlib.Core.List.{List}
use lib.Bits.{bit_and}
use lib.ListN.{length, get_or}
use Rattle.cover.specs.Trusted.Cover.{pick}
use Rattle.plan.specs.Masks.{MaskWithin}
use Rattle.plan.specs.MaskLaws.{within_le, next_greatest}
use Rattle.levels.specs.Groups.{LevelCell}
use Rattle.level_arrays.specs.Arrays.{big, entry_at}
use Rattle.level_rows.specs.Sums.{LeastSum}

-- ---- over the first part's inputs

module _ {a : List ℕ} {x y w : ℕ} where
  -- the least of what there is and of one sum more
  pub least_more : {m q e : ℕ} (d : ℕ) → 1 ≤ m → LeastSum a x y w m q e → d ≤ e → d ≤ get_or a (x + m) big + get_or a (y + (w - m)) big →
      (d ≡ e) ⊎ (d ≡ get_or a (x + m) big + get_or a (y + (w - m)) big) → LeastSum a x y w (m + 1) q d
  least_more {m} {q} {e} d l p less sum from = record {
    most = omega (arith, p.most);
    sums = λ i k h.
        by_cases (dec_lt i m) (λ g. omega (arith, p.sums i k g)) λ g.
        let s : i ≡ m = omega arith in
        rw s sum;
    some =
        ⊎_elim
        (λ s. ⊎_elim (λ t. inl (s ∙ t)) (λ t. inr (t.0, t.1, omega (arith, t.2), s ∙ t.3)) p.some)
        (λ s. inr (m, l, omega arith, s))
        from;
  }

-- ---- over the numbers of inputs: below w they are lowered, and from there on as they were

pub record Lowered (a : List ℕ) (x y : ℕ) (row low : List ℕ) (w : ℕ) : Type 0 where
  pub some : 2 ≤ w
  pub room : length low ≡ 8
  pub done : (v : ℕ) → v < w → LeastSum a x y v v (get_or row v big) (get_or low v big)
  pub left : (v : ℕ) → w ≤ v → get_or low v big ≡ get_or row v big

-- ---- over the submasks of r: those above u are passed

pub own_most : (w own : ℕ) → own ≤ big → pick w big own ≤ big
own_most zero own l = omega arith
own_most (suc w) own l = l

pub record CellTried (a : List ℕ) (at top r w q e u : ℕ) : Type 0 where
  pub own : e ≤ q
  pub sums : (v i : ℕ) → u < v → MaskWithin v r → 0 < i → i < w → e ≤ entry_at a at (top + r - v) i + entry_at a at v (w - i)
  pub some : (e ≡ q) ⊎ ((v : ℕ) × (i : ℕ) × (0 < v) × MaskWithin v r × (0 < i) × (i < w) × (e ≡ entry_at a at (top + r - v) i + entry_at a at v (w - i)))

module _ {a : List ℕ} {at top r w q : ℕ} where
  pub cell_first : {e : ℕ} → e ≡ q → CellTried a at top r w q e r
  cell_first s = record { own = omega arith; sums = λ v i l m. absurd (omega (arith, within_le v r m)); some = inl s }

  -- one submask more
  pub cell_next : {e d u : ℕ} → CellTried a at top r w q e u → 0 < u → MaskWithin u r →
      LeastSum a (at + (top + r - u) * 8) (at + u * 8) w w e d → CellTried a at top r w q d (bit_and (u - 1) r)
  cell_next {e} {d} {u} p l m s = record {
    own = omega (arith, p.own, s.most);
    sums = λ v i k n f g.
        by_cases (dec_lt u v) (λ h. omega (arith, p.sums v i h n f g, s.most)) λ h.
        by_cases (dec_lt v u) (λ j. absurd (omega (arith, next_greatest u r v m n j))) λ j.
        let z : v ≡ u = omega arith in
        rw z (s.sums i f g);
    some =
        ⊎_elim
        (λ z. ⊎_elim (λ t. inl (z ∙ t)) (λ t. inr (t.0, t.1, t.2, t.3, t.4, t.5, z ∙ t.6)) p.some)
        (λ z. inr (u, z.0, l, m, z.1, z.2, z.3))
        s.some;
  }

  -- no submask is left
  pub cell_last : {e u : ℕ} → CellTried a at top r w q e u → u ≡ 0 → q ≤ big → LevelCell big (entry_at a at) top r w q e
  cell_last p z l = record {
    most = omega (arith, p.own);
    own = p.own;
    sums = λ v i k. p.sums v i (omega arith);
    some = λ _. p.some;
  }
