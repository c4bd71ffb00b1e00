-- Masks that are alike have the same entries: `alike_entries` of one array, `searched_owns` of a search over bounds; so a row may be copied from an alike mask
-- (`row_alike`).
use Rattle.std.specs.Prelude.{ℕ, zero, suc, ◌+◌, ◌-◌, ◌^◌, ◌≤◌, ◌<◌, ◌≡◌, refl, ◌⊎◌, List, [], ◌∷◌, length}
use Rattle.std.proofs.Common.{add-zero, arith, ◌∙◌, inl, inr, pow_pos, pow_mono}
use Rattle.std.proofs.Math.Decide.{dec_lt}
use Rattle.std.proofs.Math.Path.{sym, ap}
use Rattle.std.proofs.Math.Logic.{⊎_elim, by_cases}
use Rattle.std.proofs.Math.ListN.{get_or}
use Rattle.std.proofs.lemmas.List.{length-map}
use Rattle.std.proofs.Math.Pow.{pow-lt}
use Rattle.lists.specs.Trusted.Lists.{here, Permuted, more, there}
use Rattle.lists.specs.Sequences.{Mix, left, right, upto}
use Rattle.lists.specs.ListLaws.{permuted_refl, permuted_sym, permuted_trans, permuted_length, map_at}
use Rattle.lists.specs.NumberLaws.{upto_length, upto_at}
use Rattle.lists.specs.MixLaws.{mix_swap, mix_permuted}
use Rattle.cover.specs.Trusted.Cover.{pick}
use Rattle.plan.specs.Masks.{select, MaskWithin}
use Rattle.plan.specs.MaskLaws.{top_bit, within_le, within_top, select_mix, select_parted, select_top, select_none, select_some}
use Rattle.levels.specs.Groups.{LevelCell}
use Rattle.levels.specs.Lines.{look}
use Rattle.level_arrays.specs.Arrays.{big, entry_at, ArrayFilled, own_above, fan_row, Searched}
use Rattle.level_arrays.specs.Alike.{Label, no_label, MasksAlike, RowsAlike, OwnsAlike, LikeMasks, Likened, fan_label, fan_labels}
use Rattle.level_arrays.specs.declared.Fans.{Fans}

permuted_one : {A : Type 0} {x y : A} → Permuted (x ∷ []) (y ∷ []) → x ≡ y
permuted_one (more (there h) p) = elim h [ ]
permuted_one (more here p) = refl

-- a cell has one entry
cell_one : {best : ℕ → ℕ → ℕ} {top r w q d e : ℕ} → LevelCell big best top r w q d → LevelCell big best top r w q e → d ≤ e
cell_one {d = d} {e = e} x y =
    by_cases (dec_lt e big)
    (λ l. ⊎_elim (λ p. omega (arith, x.own)) (λ p. omega (arith, p.6, x.sums p.0 p.1 p.2 p.3 p.4 p.5)) (y.some l))
    (λ l. omega (arith, x.most))

module _ (K : ℕ) (cs : List Label) where
  pub top_labels : (h r : ℕ) → h < length cs → r < 2 ^ h → Permuted (get_or cs h no_label ∷ select r cs) (select (2 ^ h + r) cs)
  top_labels h r l p = more (select_top cs h r no_label l p) (permuted_refl _)

  some_labels : (s t : ℕ) → 0 < s → s < 2 ^ length cs → Permuted (select t cs) (select s cs) → 0 < t
  some_labels s zero p l m =
      let e = ap length (select_none cs) in
      absurd (omega (arith, select_some cs s no_label p l, permuted_length m))
  some_labels s (suc t) p l m = omega arith

  -- where the one has more than one bit, so has the other
  bits_alike : (h r g q : ℕ) → h < length cs → r < 2 ^ h → g < length cs → q < 2 ^ g → MasksAlike cs (2 ^ h + r) (2 ^ g + q) → 0 < r → 0 < q
  bits_alike h r g zero lh lr lg lq alike p =
      let n = permuted_length (permuted_trans (top_labels h r lh lr) (permuted_trans alike (permuted_sym (top_labels g 0 lg lq)))) in
      absurd (omega (arith, n, select_some cs r no_label p (omega (arith, pow-lt lh)), ap length (select_none cs)))
  bits_alike h r g (suc q) lh lr lg lq alike p = omega arith

  -- ---- two alike masks of more than one bit

  module _ (best : ℕ → ℕ → ℕ) (m : ℕ) (few : m ≤ 2 ^ length cs)
      (same : (s t w : ℕ) → 0 < s → s < m → 0 < t → t < m → 1 ≤ w → w ≤ K → MasksAlike cs s t → best s w ≡ best t w) where
    -- a sum of two entries at the one is one at the other
    sum_moved : (h r g q w u i : ℕ) → h < length cs → r < 2 ^ h → 2 ^ h + r ≤ m → g < length cs → q < 2 ^ g → 2 ^ g + q ≤ m → w ≤ K →
        MasksAlike cs (2 ^ h + r) (2 ^ g + q) → 0 < u → MaskWithin u r → 0 < i → i < w →
        (v : ℕ) × (j : ℕ) × (0 < v) × MaskWithin v q × (0 < j) × (j < w) × (best (2 ^ h + r - u) i + best u (w - i) ≡ best (2 ^ g + q - v) j + best v (w - j))
    sum_moved h r g q w u i lh lr ls lg lq lt k alike pu wu pi li =
        let (us, vs, pus, pvs, mix) = mix_permuted (permuted_trans (top_labels g q lg lq) (permuted_sym alike)) (select_mix cs u (2 ^ h + r) (within_top h r u lr wu)) in
        of mix pus pvs
      where
        o : u ≤ r
        o = within_le u r wu

        -- the highest bit of the other stands in the first part or in the second
        of : {us vs : List Label} → Mix us vs (get_or cs g no_label ∷ select q cs) → Permuted us (select (2 ^ h + r - u) cs) → Permuted vs (select u cs) →
            (v : ℕ) × (j : ℕ) × (0 < v) × MaskWithin v q × (0 < j) × (j < w) × (best (2 ^ h + r - u) i + best u (w - i) ≡ best (2 ^ g + q - v) j + best v (w - j))
        of (left n) p p' =
            let (v, wv, e, e') = select_parted cs q n in
            let ov = within_le v q wv in
            let s : 2 ^ g + q - v ≡ 2 ^ g + (q - v) = omega arith in
            let first = permuted_trans (permuted_sym (rw e at p)) (top_labels g (q - v) lg (omega arith)) in
            let second = permuted_sym (rw e' at p') in
            let pv = some_labels u v pu (omega (arith, o, pow_pos h)) (permuted_sym second) in (
              v,
              i,
              pv,
              wv,
              pi,
              li,
              rw s
                  (omega (
                    arith,
                    same (2 ^ h + r - u) (2 ^ g + (q - v)) i (omega (arith, o, pow_pos h)) (omega arith) (omega (arith, ov, pow_pos g)) (omega arith) (omega arith) (omega arith) first,
                    same u v (w - i) pu (omega (arith, o, pow_pos h)) pv (omega (arith, ov, pow_pos g)) (omega arith) (omega arith) second,
                  )),
            )
        of (right n) p p' =
            let (v, wv, e, e') = select_parted cs q (mix_swap n) in
            let ov = within_le v q wv in
            let s : 2 ^ g + q - v ≡ 2 ^ g + (q - v) = omega arith in
            let first = permuted_trans (permuted_sym (rw e at p')) (top_labels g (q - v) lg (omega arith)) in
            let second = permuted_sym (rw e' at p) in
            let pv = some_labels (2 ^ h + r - u) v (omega (arith, o, pow_pos h)) (omega (arith, o)) (permuted_sym second) in
            let j : w - (w - i) ≡ i = omega arith in (
              v,
              w - i,
              pv,
              wv,
              omega arith,
              omega arith,
              rw (s, j)
                  (omega (
                    arith,
                    same u (2 ^ g + (q - v)) (w - i) pu (omega (arith, o, pow_pos h)) (omega (arith, ov, pow_pos g)) (omega arith) (omega arith) (omega arith) first,
                    same (2 ^ h + r - u) v i (omega (arith, o, pow_pos h)) (omega arith) pv (omega (arith, ov, pow_pos g)) (omega arith) (omega arith) second,
                  )),
            )

    -- AN ENTRY OF THE ONE IS THAT OF THE OTHER
    pub cell_moved : (h r g q w : ℕ) {x e : ℕ} → h < length cs → r < 2 ^ h → 2 ^ h + r ≤ m → g < length cs → q < 2 ^ g → 2 ^ g + q ≤ m → w ≤ K →
        MasksAlike cs (2 ^ h + r) (2 ^ g + q) → LevelCell big best (2 ^ g) q w x e → LevelCell big best (2 ^ h) r w x e
    cell_moved h r g q w lh lr ls lg lq lt k alike c = record {
      most = c.most;
      own = c.own;
      sums = λ u i pu wu pi li.
          let y = sum_moved h r g q w u i lh lr ls lg lq lt k alike pu wu pi li in
          omega (arith, y.6, c.sums y.0 y.1 y.2 y.3 y.4 y.5);
      some = λ l.
          ⊎_elim inl
          (λ p.
          let y = sum_moved g q h r w p.0 p.1 lg lq lt lh lr ls k (permuted_sym alike) p.2 p.3 p.4 p.5 in
          inr (y.0, y.1, y.2, y.3, y.4, y.5, p.6 ∙ y.6))
          (c.some l);
    }

  -- ---- one array

  module _ {rows : ℕ → ℕ → ℕ} {own : ℕ → ℕ} {a : List ℕ} {at m : ℕ} (few : m ≤ 2 ^ length cs) (f : ArrayFilled K (length cs) rows own a at m)
      (rows_alike : RowsAlike K cs rows) (owns_alike : OwnsAlike cs own) where
    abbrev SameBelow : ℕ → Type 0
    SameBelow b = (s t w : ℕ) → 0 < s → s < b → 0 < t → t < b → 1 ≤ w → w ≤ K → MasksAlike cs s t → entry_at a at s w ≡ entry_at a at t w

    -- masks of one bit
    one_same : (h g w : ℕ) → h < length cs → g < length cs → 2 ^ h < m → 2 ^ g < m → w ≤ K → MasksAlike cs (2 ^ h) (2 ^ g) → entry_at a at (2 ^ h) w ≡ entry_at a at (2 ^ g) w
    one_same h g w lh lg ls lt k alike =
        let p = rw (add-zero, select_none cs) at (top_labels h 0 lh (pow_pos h)) in
        let q = rw (add-zero, select_none cs) at (top_labels g 0 lg (pow_pos g)) in
        f.one h w lh ls k ∙ rows_alike h g w lh lg k (permuted_one (permuted_trans p (permuted_trans alike (permuted_sym q)))) ∙ sym (f.one g w lg lt k)

    -- masks of more
    more_same : (b : ℕ) → b < m → SameBelow b → (h r g q w : ℕ) → h < length cs → 0 < r → r < 2 ^ h → g < length cs → 0 < q → q < 2 ^ g → 2 ^ h + r ≤ b → 2 ^ g + q ≤ b →
        1 ≤ w → w ≤ K → MasksAlike cs (2 ^ h + r) (2 ^ g + q) → entry_at a at (2 ^ h + r) w ≡ entry_at a at (2 ^ g + q) w
    more_same b l below h r g q w lh pr lr lg pq lq ls lt o k alike =
        let c = f.more h r w lh pr lr (omega arith) o k in
        let d = f.more g q w lg pq lq (omega arith) o k in
        let e = rw (sym (owns_alike h r g q lh pr lr lg pq lq alike)) at (cell_moved (entry_at a at) b (omega arith) below h r g q w lh lr ls lg lq lt k alike d) in
        omega (arith, cell_one c e, cell_one e c)

    both_same : (b : ℕ) → b < m → SameBelow b → (s t h r g q w : ℕ) → s ≡ 2 ^ h + r → t ≡ 2 ^ g + q → h < length cs → r < 2 ^ h → g < length cs → q < 2 ^ g → s ≤ b → t ≤ b →
        1 ≤ w → w ≤ K → MasksAlike cs s t → entry_at a at s w ≡ entry_at a at t w
    both_same b l below s t h r g q w es et lh lr lg lq ls lt o k alike =
        let al = rw (es, et) at alike in
        by_cases (dec_lt 0 r)
        (λ pr. rw (es, et) (more_same b l below h r g q w lh pr lr lg (bits_alike h r g q lh lr lg lq al pr) lq (omega arith) (omega arith) o k al))
        (λ pr.
        by_cases (dec_lt 0 q) (λ pq. absurd (pr (bits_alike g q h r lg lq lh lr (permuted_sym al) pq)))
        (λ pq.
        let y : s ≡ 2 ^ h = omega arith in
        let z : t ≡ 2 ^ g = omega arith in
        rw (y, z) (one_same h g w lh lg (omega arith) (omega arith) k (rw (y, z) at alike))))

    alike_below : (b : ℕ) → b ≤ m → SameBelow b
    alike_below zero l s t w ps ls pt lt o k alike = absurd (omega arith)
    alike_below (suc b) l s t w ps ls pt lt o k alike =
        let (h, r, lh, lr, es) = top_bit (length cs) s ps (omega arith) in
        let (g, q, lg, lq, et) = top_bit (length cs) t pt (omega arith) in
        both_same b (omega arith) (alike_below b (omega arith)) s t h r g q w es et lh lr lg lq (omega arith) (omega arith) o k alike

    -- ALIKE MASKS HAVE THE SAME ENTRIES
    pub alike_entries : SameBelow m
    alike_entries = alike_below m (omega arith)

    -- SO THE ROW OF THE NEXT MASK is that of an alike one
    pub row_alike : (h r t w : ℕ) → h < length cs → 0 < r → r < 2 ^ h → 2 ^ h + r ≡ m → m < 2 ^ length cs → t < m → MasksAlike cs t (2 ^ h + r) → w ≤ K →
        LevelCell big (entry_at a at) (2 ^ h) r w (pick w big (own (2 ^ h + r))) (entry_at a at t w)
    row_alike h r t w lh pr lr e whole lt alike k =
        let (g, q, lg, lq, et) = top_bit (length cs) t (some_labels (2 ^ h + r) t (omega arith) (omega arith) alike) (omega arith) in
        of w k g q et lg lq
      where
        of : (w : ℕ) → w ≤ K → (g q : ℕ) → t ≡ 2 ^ g + q → g < length cs → q < 2 ^ g →
            LevelCell big (entry_at a at) (2 ^ h) r w (pick w big (own (2 ^ h + r))) (entry_at a at t w)
        of w k g q et lg lq = at_inputs w k
          where
            al : MasksAlike cs (2 ^ h + r) (2 ^ g + q)
            al = permuted_sym (rw et at alike)

            bits : 0 < q
            bits = bits_alike h r g q lh lr lg lq al pr

            at_inputs : (w : ℕ) → w ≤ K → LevelCell big (entry_at a at) (2 ^ h) r w (pick w big (own (2 ^ h + r))) (entry_at a at t w)
            at_inputs zero k =
                let z : entry_at a at t 0 ≡ big = rw et (f.none g q lg bits lq (omega arith)) in
                rw z (record { most = omega arith; own = omega arith; sums = λ u i p o j l. absurd (omega arith); some = λ l. absurd (omega arith) })
            at_inputs (suc w) k =
                rw (et, owns_alike h r g q lh pr lr lg bits lq al)
                (cell_moved (entry_at a at) m (omega arith) alike_entries h r g q (suc w) lh lr (omega arith) lg lq (omega arith) k al
                (f.more g q (suc w) lg bits lq (omega arith) (omega arith) k))

  -- ---- a search over bounds

  pub searched_owns : {from top : ℕ} {rows : ℕ → ℕ → ℕ → ℕ} {a : ℕ → List ℕ} {at : ℕ → ℕ} → 1 ≤ K → Searched K (length cs) from top rows a at →
      ((i : ℕ) → i < top → RowsAlike K cs (rows (from + i))) → (i : ℕ) → i ≤ top → OwnsAlike cs (own_above K (a i) (at i))
  searched_owns some x alike zero l h r g q lh pr lr lg pq lq al =
      omega (arith, x.first h r lh pr lr, x.first g q lg pq lq)
  searched_owns {from} {rows = rows} {a = a} {at = at} some x alike (suc i) l h r g q lh pr lr lg pq lq al =
      let e =
      alike_entries {rows = rows (from + i)} {own = own_above K (a i) (at i)} {a = a (suc i)} {at = at (suc i)} (omega arith) (x.next i l) (alike i l)
      (λ h r g q lh pr lr lg pq lq al. searched_owns some x alike i (omega arith) h r g q lh pr lr lg pq lq al)
      (2 ^ h + r) (2 ^ g + q) K (omega arith) (omega (arith, pow_mono lh)) (omega arith) (omega (arith, pow_mono lg)) some (omega arith) al in
      omega (arith, e)

-- ---- the fanins of a gate

label_cases : (a b g h : ℕ) → pick a 0 (suc g) ≡ pick b 0 (suc h) → ((a ≡ 0) × (b ≡ 0)) ⊎ (g ≡ h)
label_cases zero zero g h e = inl (refl, refl)
label_cases zero (suc b) g h e = absurd (omega arith)
label_cases (suc a) zero g h e = absurd (omega arith)
label_cases (suc a) (suc b) g h e = inr (omega arith)

module _ (f : Fans) where
  pub labels_count : length (fan_labels f) ≡ f.count
  labels_count = simp length-map (upto_length f.count)

  pub label_at : (h : ℕ) → h < f.count → get_or (fan_labels f) h no_label ≡ fan_label f h
  label_at h l = map_at (fan_label f) (upto f.count) h 0 no_label (omega (arith, upto_length f.count)) ∙ ap (fan_label f) (upto_at f.count h 0 l)

  -- NETS OF ONE LEVEL HAVE ONE ROW, at each bound
  pub fans_alike : (store : List ℕ) (ℓ K : ℕ) → RowsAlike K (fan_labels f) (fan_row store f ℓ)
  unfolding look
  fans_alike store ℓ K g h w lg lh k e =
      let d : fan_label f g ≡ fan_label f h = sym (label_at g (omega (arith, labels_count))) ∙ e ∙ label_at h (omega (arith, labels_count)) in
      let lev : get_or f.levels g 0 ≡ get_or f.levels h 0 = ap (λ (x : Label). x.1) d in
      ⊎_elim (λ z. rw (lev, z.0, z.1) refl) (λ z. rw z refl) (label_cases (get_or f.lines g 0) (get_or f.lines h 0) g h (ap (λ (x : Label). x.0) d))

  -- WHAT A SEARCH HAS FOUND so far leaves alike masks alike: the rows of the fanins at the next bound, and the entries of tables of their own
  pub searched_likened : (ℓ : ℕ) (store store' : List ℕ) {K from i : ℕ} {like : List ℕ} {rows : ℕ → ℕ → ℕ} {own : ℕ → ℕ} {a : ℕ → List ℕ} {at : ℕ → ℕ} → 1 ≤ K →
      Searched K f.count from i (fan_row store f) a at → ((h w : ℕ) → h < f.count → w ≤ K → rows h w ≡ fan_row store' f ℓ h w) →
      ((s : ℕ) → s < 2 ^ f.count → own s ≡ own_above K (a i) (at i) s) → LikeMasks (fan_labels f) like (2 ^ f.count) → Likened K f.count rows own like
  searched_likened ℓ store store' {K} {from} {i} some x rows own masks =
      let n = labels_count in
      record {
        labels = fan_labels f;
        count = n;
        rows_alike = λ g h w lg lh k e. rows g w (omega arith) k ∙ fans_alike store' ℓ K g h w lg lh k e ∙ sym (rows h w (omega arith) k);
        owns_alike = λ h r g q lh pr lr lg pq lq al.
            let z = ap (λ x. 2 ^ x) n in
            own (2 ^ h + r) (omega (arith, pow_mono lh))
            ∙ searched_owns K (fan_labels f) some (rw (sym n) at x) (λ j l. fans_alike store (from + j) K) i (omega arith) h r g q lh pr lr lg pq lq al
            ∙ sym (own (2 ^ g + q) (omega (arith, pow_mono lg)));
        masks = masks;
      }
