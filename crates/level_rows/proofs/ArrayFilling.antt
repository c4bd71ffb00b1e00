-- The loop that fills an array in rising order of masks: what holds before the mask s. Assumes nothing.
use Prim.Native.Nat.{ℕ, suc, ◌+◌, ◌-◌, ◌*◌, ◌^◌, ◌≤◌, ◌<◌}
use native.Mathlib.Omega.{arith}
use native.Mathlib.Decide.{dec_lt}
use native.Mathlib.Numerals.{add-one}
use mathlib.Core.Logic.{inl, inr, ⊎_elim, by_cases}
use mathlib.Core.Path.{◌≡◌, refl, sym, ap, ◌∙◌, subst}
use mathlib.Core.List.{List}
use lib.ListN.{length, get_or}
use lib.Pow.{pow_pos, pow_mono}
use Rattle.cover.specs.Trusted.Cover.{pick}
use Rattle.plan.specs.Limits.{masks}
use Rattle.plan.specs.MaskLaws.{within_le}
use Rattle.levels.specs.Groups.{LevelCell}
use Rattle.level_arrays.specs.Arrays.{big, Searchable, entry_at, ArrayFilled}
use Rattle.level_arrays.specs.Alike.{MasksAlike, Likened}
use Rattle.level_arrays.specs.AlikeLaws.{row_alike}
use Rattle.level_rows.specs.Rows.{pick_some}
use Rattle.level_rows.specs.Runs.{RunWritten}
use Rattle.level_rows.specs.Sums.{RowOfMask, RowOrLike}

-- a mask has one highest bit
top_same : (h g r s : ℕ) → r < 2 ^ h → s < 2 ^ g → 2 ^ h + r ≡ 2 ^ g + s → h ≡ g
top_same h g r s l m e =
    by_cases (dec_lt h g) (λ k. let p : 2 ^ suc h ≤ 2 ^ g = pow_mono k in absurd (omega arith)) λ k.
    by_cases (dec_lt g h) (λ j. let p : 2 ^ suc g ≤ 2 ^ h = pow_mono j in absurd (omega arith)) λ j.
    omega arith

cell_none : {best : ℕ → ℕ → ℕ} {top r e : ℕ} → LevelCell big best top r 0 big e → e ≡ big
cell_none {e = e} c =
    by_cases (dec_lt e big) (λ l. ⊎_elim (λ z. z) (λ y. absurd (omega (arith, y.5))) (c.some l)) (λ l. omega (arith, c.most))

-- ---- the row of one mask more

module _ {K n : ℕ} {rows : ℕ → ℕ → ℕ} {own : ℕ → ℕ} {a b : List ℕ} {at m : ℕ} {f : ℕ → ℕ} (few : K ≤ 6) (p : ArrayFilled K n rows own a at m)
    (q : RunWritten a b (at + m * 8) 8 f) where
  kept : (s w : ℕ) → s < m → w ≤ K → entry_at b at s w ≡ entry_at a at s w
  kept s w l k = q.before (at + s * 8 + w) (omega arith)

  new : (s w : ℕ) → s ≡ m → w ≤ K → entry_at b at s w ≡ f w
  new s w e k = rw e (q.is w (omega arith))

  cell_kept : (g r w : ℕ) {x e : ℕ} → 2 ^ g + r ≤ m → w ≤ K → LevelCell big (entry_at a at) (2 ^ g) r w x e →
      LevelCell big (entry_at b at) (2 ^ g) r w x e
  cell_kept g r w l k c =
      let t = pow_pos g in record {
        most = c.most;
        own = c.own;
        sums = λ u i o h j v.
            let d = within_le u r h in
            rw (kept (2 ^ g + r - u) i (omega arith) (omega arith), kept u (w - i) (omega arith) (omega arith)) (c.sums u i o h j v);
        some = λ z.
            ⊎_elim inl
            (λ y.
            let d = within_le y.0 r y.3 in
            inr (
              y.0,
              y.1,
              y.2,
              y.3,
              y.4,
              y.5,
              rw (
                kept (2 ^ g + r - y.0) y.1 (omega (arith, y.2)) (omega (arith, y.5)),
                kept y.0 (w - y.1) (omega (arith, y.2)) (omega arith),
              )
                  y.6,
            ))
            (c.some z);
      }

  pub filled_more : (g r : ℕ) → m ≡ 2 ^ g + r → r < 2 ^ g → (r ≡ 0 → (w : ℕ) → w ≤ K → f w ≡ rows g w) →
      (0 < r → (w : ℕ) → w ≤ K → LevelCell big (entry_at a at) (2 ^ g) r w (pick w big (own (2 ^ g + r))) (f w)) → ArrayFilled K n rows own b at (m + 1)
  filled_more g r e l one more = record {
    one = λ h w i j k.
        by_cases (dec_lt (2 ^ h) m) (λ d. kept (2 ^ h) w d k ∙ p.one h w i d k) λ d.
        let t = top_same h g 0 r (pow_pos h) l (omega arith) in
        let o = ap (λ x. 2 ^ x) t in
        new (2 ^ h) w (omega arith) k ∙ (rw t (one (omega arith) w k));
    none = λ h s i o j k.
        by_cases (dec_lt (2 ^ h + s) m) (λ d. kept (2 ^ h + s) 0 d (omega arith) ∙ p.none h s i o j d) λ d.
        let t = top_same h g s r j l (omega arith) in
        let x = ap (λ x. 2 ^ x) t in
        new (2 ^ h + s) 0 (omega arith) (omega arith) ∙ cell_none (more (omega arith) 0 (omega arith));
    more = λ h s w i o j k x y.
        by_cases (dec_lt (2 ^ h + s) m)
        (λ d. rw (kept (2 ^ h + s) w d y) (cell_kept h s w (omega arith) y (p.more h s w i o j d x y)))
        λ d.
        let t = top_same h g s r j l (omega arith) in
        let z = ap (λ x. 2 ^ x) t in
        let v : s ≡ r = omega arith in
        rw (t, v, new (2 ^ g + r) w (sym e) y) (rw (pick_some w big (own (2 ^ g + r)) x) at (cell_kept g r w (omega arith) y (more (omega arith) w y)));
  }

-- ---- the row of the next mask, from an alike one

like_cell : {K n : ℕ} {rows : ℕ → ℕ → ℕ} {own : ℕ → ℕ} {like a : List ℕ} {at s : ℕ} → Likened K n rows own like → ArrayFilled K n rows own a at s → (h r : ℕ) → h < n → 0 < r →
    r < 2 ^ h → s ≡ 2 ^ h + r → s < 2 ^ n → get_or like s 0 < s → (w : ℕ) → w ≤ K →
    LevelCell big (entry_at a at) (2 ^ h) r w (pick w big (own s)) (entry_at a at (get_or like s 0) w)
like_cell {K} {n} {like = like} {s = s} y f h r l p b e m t w k =
    let c = y.count in
    let z = ap (λ x. 2 ^ x) c in
    let d = row_alike K y.labels (omega arith) (rw (sym c) at f) y.rows_alike y.owns_alike h r (get_or like s 0) w (omega arith) p b (sym e) (omega arith) t
    (subst (λ x. MasksAlike y.labels (get_or like s 0) x) e (y.masks.alike s (omega arith) m)) k in
    rw (sym e) at d

-- ---- the loop: `h` fanins have come, `next` is the next one's bit, and `top` the bit of the one before

pub record ArrayFilling (K n : ℕ) (rows : ℕ → ℕ → ℕ) (own : ℕ → ℕ) (a b : List ℕ) (at h top next s : ℕ) : Type 0 where
  pub fanins : h ≤ n
  pub bit : next ≡ 2 ^ h
  pub places : 2 ^ n ≤ masks
  pub most : s ≤ next
  pub some : 1 ≤ s
  pub half : s < next → (g : ℕ) × (h ≡ g + 1) × (top ≡ 2 ^ g) × (top < s)
  pub room : length b ≡ length a
  pub before : (i : ℕ) → i < at → get_or b i big ≡ get_or a i big
  pub filled : ArrayFilled K n rows own b at s

module _ {K n : ℕ} {rows : ℕ → ℕ → ℕ} {own : ℕ → ℕ} {a : List ℕ} {at : ℕ} where
  pub array_first : Searchable K n → ArrayFilling K n rows own a a at 0 0 1 1
  array_first good = record {
    fanins = omega arith;
    bit = refl;
    places = pow_mono good.fanins.1;
    most = omega arith;
    some = omega arith;
    half = λ l. absurd (omega arith);
    room = refl;
    before = λ i l. refl;
    filled = record {
      one = λ h w l m. absurd (omega (arith, pow_pos h));
      none = λ h r l o j m. absurd (omega (arith, pow_pos h));
      more = λ h r w l o j m. absurd (omega (arith, pow_pos h));
    };
  }

  module _ (good : Searchable K n) {b : List ℕ} {h top next s : ℕ} (f : ArrayFilling K n rows own a b at h top next s) where
    -- the bit of a fanin that has not come
    pub array_place_one : s ≡ next → s < 2 ^ n → h < n
    array_place_one e d =
        by_cases (dec_lt h n) (λ l. l) (λ l. let g : n ≤ h = omega arith in absurd (omega (arith, f.bit, pow_mono g)))

    pub array_one : {c : List ℕ} {row : ℕ → ℕ} → s ≡ next → h < n → RunWritten b c (at + s * 8) 8 row → ((w : ℕ) → w ≤ K → row w ≡ rows h w) →
        ArrayFilling K n rows own a c at (h + 1) s (s + s) (s + 1)
    array_one e l q v =
        let t : s ≡ 2 ^ h = omega (arith, f.bit) in record {
          fanins = omega arith;
          bit = rw add-one (omega arith);
          places = f.places;
          most = omega (arith, f.some);
          some = omega arith;
          half = λ _. (h, refl, t, omega arith);
          room = q.room ∙ f.room;
          before = λ i j. q.before i (omega arith) ∙ f.before i j;
          filled = filled_more good.table.1 f.filled q h 0 (omega arith) (pow_pos h) (λ _. v) (λ z. absurd (omega arith));
        }

    -- the other bits of a mask that has more than its highest
    module _ (d : (s ≡ next) → ⊥) where
      within : s < next
      within = by_cases (dec_lt s next) (λ l. l) (λ l. absurd (d (omega (arith, f.most))))

      pub array_place_more : (s < 2 ^ n) × (top < s)
      array_place_more =
          let l = within in
          let m : 2 ^ h ≤ 2 ^ n = pow_mono f.fanins in
          (omega (arith, f.bit), (f.half l).3)

      pub array_more : {c : List ℕ} (row : List ℕ) → RunWritten b c (at + s * 8) 8 (λ w. get_or row w big) → RowOfMask K b at top (s - top) (own s) row →
          ArrayFilling K n rows own a c at h top next (s + 1)
      array_more row q v =
          let l = within in
          let g = f.half l in
          let t = g.3 in
          let k = ap (λ x. 2 ^ x) (g.1 ∙ add-one g.0) in
          let e : s ≡ 2 ^ g.0 + (s - top) = omega (arith, g.2) in record {
            fanins = f.fanins;
            bit = f.bit;
            places = f.places;
            most = omega arith;
            some = omega arith;
            half = λ _. (g.0, g.1, g.2, omega arith);
            room = q.room ∙ f.room;
            before = λ i j. q.before i (omega arith) ∙ f.before i j;
            filled =
                filled_more good.table.1 f.filled q g.0 (s - top) e (omega (arith, f.bit, g.2)) (λ z. absurd (omega arith))
                (λ _ w j. rw (sym e, sym g.2) (v w j));
          }

      -- the row of a smaller mask that is alike
      pub array_like : {like : List ℕ} (row : List ℕ) → Likened K n rows own like → RowOrLike K b at top (s - top) (get_or like s 0) (own s) row →
          RowOfMask K b at top (s - top) (own s) row
      array_like {like = like} row y =
          ⊎_elim
          (λ x w k.
          let g = f.half within in
          let o = g.3 in
          let p = ap (λ x. 2 ^ x) (g.1 ∙ add-one g.0) in
          subst (λ t. LevelCell big (entry_at b at) t (s - top) w (pick w big (own s)) (get_or row w big)) (sym g.2)
          (rw (x.1 w k)
          (like_cell y f.filled g.0 (s - top) (omega (arith, f.fanins, g.1)) (omega arith) (omega (arith, f.bit, within, g.2)) (omega (arith, g.2))
          array_place_more.0 (omega (arith, x.0)) w k)))
          (λ x. x)
