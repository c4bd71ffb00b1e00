-- What is computed is the least: `cell_is`, `fill_rows`, `search_rows` and `line_entry` say so of an entry, of one gate at one
-- bound, of one gate at every bound, and of a tree.
use Prim.Native.Nat.{ℕ, zero, suc, ◌+◌, ◌-◌, ◌^◌, ◌≤◌, ◌<◌}
use Rattle.std.proofs.Common.{add-zero, add-suc, zero-add, ap, ◌∙◌, inl, inr, length-append, pow_pos, pow_mono}
use native.Mathlib.Omega.{arith}
use Rattle.std.proofs.Math.Decide.{dec_lt}
use Rattle.std.specs.Prelude.{◌≡◌, refl, ◌⊎◌, Bool, false, List, [], ◌∷◌, ◌++◌, T, leb, length, get_or}
use Rattle.std.proofs.Math.Logic.{by_cases}
use Rattle.std.proofs.Math.Bool.{cond}
use Rattle.std.specs.Int.Bits.{bit_and}
use Rattle.std.proofs.Math.ListN.{get_or-append}
use Rattle.std.proofs.lemmas.List.{get_or_at}
use Rattle.lists.specs.Cases.{and_split, by_eqb}
use Rattle.lists.specs.Sequences.{upto}
use Rattle.lists.specs.ListLaws.{map_at}
use Rattle.lists.specs.NumberLaws.{upto_length, upto_at}
use Rattle.tree.specs.Trusted.Tree.{Node, leaf, gate, Edges, none, edge}
use Rattle.tree.specs.Measures.{many, proper, propers}
use Rattle.cover.specs.Trusted.Cover.{pick}
use Rattle.plan.specs.Masks.{select, MaskWithin}
use Rattle.plan.specs.MaskLaws.{within_le, select_all}
use Rattle.levels.specs.Gives.{fanins, Gives, AtMost, LeastEntry}
use Rattle.levels.specs.GivesLaws.{fanins_many, gives_wide}
use Rattle.levels.specs.Groups.{Groups, LevelRow, LevelRows, Owns, LevelCell}
use Rattle.levels.specs.GroupLaws.{groups_gives, entry_groups, own_first, own_next}
use Rattle.levels.specs.EntryLaws.{entry_none, entry_net, entry_gate, entry_no_input}
use Rattle.levels.specs.RowLaws.{row_one, row_step}
use Rattle.levels.specs.Fill.{lowest, sum_of, tried, cell, at, row_entry, level_line, grow, fill, above, search, tree_line, tree_lines}

-- ---- the least of a few numbers

module _ (big : ℕ) where
  lowest_low : (f : ℕ → ℕ) (n i : ℕ) → i < n → lowest big f n ≤ f i
  lowest_low f zero i l = absurd (omega arith)
  lowest_low f (suc n) i l =
      by_cases (dec_lt i n) (λ h. omega (arith, lowest_low f n i h)) (λ h. let e : i ≡ n = omega arith in rw e (omega arith))

  lowest_some : (f : ℕ → ℕ) (n : ℕ) → lowest big f n < big → (i : ℕ) × (i < n) × (lowest big f n ≡ f i)
  lowest_some f zero l = absurd (omega arith)
  lowest_some f (suc n) l =
      by_cases (dec_lt (f n) (lowest big f n)) (λ h. (n, omega arith, omega arith))
      (λ h. let q = lowest_some f n (omega arith) in (q.0, omega (arith, q.1), omega (arith, q.2)))

  -- ---- an entry

  sum_of_low : (a b : ℕ → ℕ) (w i : ℕ) → 0 < i → i < w → sum_of big a b w ≤ a i + b (w - i)
  unfolding sum_of
  sum_of_low a b w zero p l = absurd (omega arith)
  sum_of_low a b w (suc i) p l = lowest_low (λ i. a (suc i) + b (w - suc i)) (w - 1) i (omega arith)

  sum_of_some : (a b : ℕ → ℕ) (w : ℕ) → sum_of big a b w < big → (i : ℕ) × (0 < i) × (i < w) × (sum_of big a b w ≡ a i + b (w - i))
  unfolding sum_of
  sum_of_some a b w l =
      let q = lowest_some (λ i. a (suc i) + b (w - suc i)) (w - 1) l in
      (suc q.0, omega arith, omega (arith, q.1), q.2)

  module _ (best : ℕ → ℕ → ℕ) (top r : ℕ) where
    tried_low : (w u : ℕ) → MaskWithin u r → tried big best top r w u ≤ sum_of big (best (top + r - u)) (best u) w
    unfolding tried
    tried_low w u h =
        by_eqb (λ b. cond b (sum_of big (best (top + r - u)) (best u) w) big ≤ sum_of big (best (top + r - u)) (best u) w) (bit_and u r) u
        (λ e. omega arith) (λ n. absurd (n h))

    tried_some : (w u : ℕ) → tried big best top r w u < big →
        MaskWithin u r × (tried big best top r w u ≡ sum_of big (best (top + r - u)) (best u) w)
    unfolding tried
    tried_some w u =
        by_eqb (λ b. cond b (sum_of big (best (top + r - u)) (best u) w) big < big →
        MaskWithin u r × (cond b (sum_of big (best (top + r - u)) (best u) w) big ≡ sum_of big (best (top + r - u)) (best u) w)) (bit_and u r) u
        (λ e l. (e, refl)) (λ n l. absurd (omega arith))

    pub cell_is : (q w : ℕ) → q ≤ big → LevelCell big best top r w q (cell big best top r q w)
    unfolding cell
    cell_is q w b = record { most = omega arith; own = omega arith; sums = sums; some = some }
      where
        sums : (u i : ℕ) → 0 < u → MaskWithin u r → 0 < i → i < w → cell big best top r q w ≤ best (top + r - u) i + best u (w - i)
        sums zero i p h j l = absurd (omega arith)
        sums (suc x) i p h j l =
            omega (
              arith,
              lowest_low (λ x. tried big best top r w (suc x)) r x (omega (arith, within_le (suc x) r h)),
              tried_low w (suc x) h,
              sum_of_low (best (top + r - suc x)) (best (suc x)) w i j l,
            )

        some : cell big best top r q w < big →
            (cell big best top r q w ≡ q) ⊎
            ((u : ℕ) × (i : ℕ) × (0 < u) × MaskWithin u r × (0 < i) × (i < w) × (cell big best top r q w ≡ best (top + r - u) i + best u (w - i)))
        some l =
            by_cases (dec_lt (cell big best top r q w) q)
            (λ h.
            let x = lowest_some (λ x. tried big best top r w (suc x)) r (omega arith) in
            let t = tried_some w (suc x.0) (omega (arith, x.2)) in
            let s = sum_of_some (best (top + r - suc x.0)) (best (suc x.0)) w (omega (arith, x.2, t.1)) in
            inr (suc x.0, s.0, omega arith, t.0, s.1, s.2, omega (arith, x.2, t.1, s.3)))
            (λ h. inl (omega arith))

-- ---- lines and arrays

line_at : (big K : ℕ) (f : ℕ → ℕ) (w : ℕ) → 0 < w → w ≤ K → at big (level_line big K f) w ≡ f w
line_at big K f zero p l = absurd (omega arith)
line_at big K f (suc w) p l =
    map_at (λ w. f (suc w)) (upto K) w 0 big (omega (arith, upto_length K)) ∙ ap (λ w. f (suc w)) (upto_at K w 0 (omega arith))

module _ (K : ℕ) (lev : ℕ → ℕ) (from big : ℕ) (zs : List (Bool × Node)) (ℓ : ℕ) where
  -- a line is right where its entries for an input or more are
  line_row : (s : ℕ) (f : ℕ → ℕ) → ((w : ℕ) → 1 ≤ w → w ≤ K → LeastEntry big (AtMost (Groups K lev from (select s zs) ℓ) w) (f w)) →
      LevelRow K lev from big zs ℓ (at big (level_line big K f)) s
  line_row s f h zero l = entry_none (λ c p. omega (arith, p.1, gives_wide (groups_gives p.2)))
  line_row s f h (suc w) l = rw (line_at big K f (suc w) (omega arith) l) (h (suc w) (omega arith) l)

  rows_more : (a : List (List ℕ)) (x : List ℕ) (n : ℕ) → length a ≡ n → LevelRows K lev from big zs ℓ (row_entry big a) n →
      LevelRow K lev from big zs ℓ (at big x) n → LevelRows K lev from big zs ℓ (row_entry big (a ++ (x ∷ []))) (suc n)
  rows_more a x n e rows row s p l w k =
      by_cases (dec_lt s n)
      (λ h. rw (get_or-append a (x ∷ []) [] s (omega arith)) (rows s p h w k))
      (λ h. let q : s ≡ n = omega arith in rw (q, get_or_at a x [] [] n e) (row w k))

  module _ (z : Bool × Node) (own : ℕ → ℕ) (h : ℕ) (l : h < length zs) (few : (s : ℕ) → own s ≤ big)
      (owns : Owns K lev from big zs ℓ own (2 ^ suc h)) (f : List ℕ)
      (fanin : (w : ℕ) → w ≤ K → LeastEntry big (AtMost (Gives K lev (get_or zs h z ∷ []) ℓ) w) (at big f w)) where
    -- the line of a mask
    mask_row : (b : List (List ℕ)) (r : ℕ) → r < 2 ^ h → LevelRows K lev from big zs ℓ (row_entry big b) (2 ^ h + r) →
        LevelRow K lev from big zs ℓ (at big (pick r f (level_line big K (cell big (row_entry big b) (2 ^ h) r (own (2 ^ h + r)))))) (2 ^ h + r)
    mask_row b zero m rows = λ w k. rw (add-zero (2 ^ h)) (row_one K lev from big zs ℓ z h w l (fanin w k))
    mask_row b (suc r) m rows =
        line_row (2 ^ h + suc r) (cell big (row_entry big b) (2 ^ h) (suc r) (own (2 ^ h + suc r)))
        (λ w i k. row_step K lev from big zs ℓ z h (suc r) l (omega arith) m (row_entry big b) rows w i k
        (owns (2 ^ h + suc r) (omega arith) (omega arith)) (cell_is big (row_entry big b) (2 ^ h) (suc r) (own (2 ^ h + suc r)) w (few (2 ^ h + suc r))))

    grow_rows : (a : List (List ℕ)) → length a ≡ 2 ^ h → LevelRows K lev from big zs ℓ (row_entry big a) (2 ^ h) → (r : ℕ) → r ≤ 2 ^ h →
        (length (grow big K (2 ^ h) f own r a) ≡ 2 ^ h + r) × LevelRows K lev from big zs ℓ (row_entry big (grow big K (2 ^ h) f own r a)) (2 ^ h + r)
    grow_rows a e rows zero m = rw (add-zero (2 ^ h)) (e, rows)
    grow_rows a e rows (suc r) m =
        let b = grow big K (2 ^ h) f own r a in
        let q = grow_rows a e rows r (omega arith) in
        let x = pick r f (level_line big K (cell big (row_entry big b) (2 ^ h) r (own (2 ^ h + r)))) in
        let n : 2 ^ h + suc r ≡ suc (2 ^ h + r) = omega arith in
        rw n (simp length-append (omega (arith, q.0)), rows_more b x (2 ^ h + r) q.0 q.1 (mask_row b r (omega arith) q.1))

  -- ONE GATE AT ONE BOUND: from its fanins' lines, and from the entries of tables of their own
  pub fill_rows : (z : Bool × Node) (fs : List (List ℕ)) (own : ℕ → ℕ) → ((s : ℕ) → own s ≤ big) →
      Owns K lev from big zs ℓ own (2 ^ length zs) →
      ((h w : ℕ) → h < length zs → w ≤ K → LeastEntry big (AtMost (Gives K lev (get_or zs h z ∷ []) ℓ) w) (at big (get_or fs h []) w)) →
      (n : ℕ) → n ≤ length zs →
      (length (fill big K fs own n) ≡ 2 ^ n) × LevelRows K lev from big zs ℓ (row_entry big (fill big K fs own n)) (2 ^ n)
  fill_rows z fs own few owns fanin zero l = (refl, λ s p q. absurd (omega arith))
  fill_rows z fs own few owns fanin (suc h) l =
      let q = fill_rows z fs own few owns fanin h (omega arith) in
      let e : 2 ^ suc h ≡ 2 ^ h + 2 ^ h = omega arith in
      rw e
      (grow_rows z own h l few (λ s p k. owns s p (omega (arith, pow_mono l))) (get_or fs h []) (λ w. fanin h w l)
      (fill big K fs own h) q.0 q.1 (2 ^ h) (omega arith))

-- ---- one gate at every bound, from some on

module _ (K : ℕ) (lev : ℕ → ℕ) (big : ℕ) (some : 1 ≤ K) where
  pub search_rows : (from : ℕ) (zs : List (Bool × Node)) (z : Bool × Node) (fs : ℕ → List (List ℕ)) →
      ((j h w : ℕ) → h < length zs → w ≤ K → LeastEntry big (AtMost (Gives K lev (get_or zs h z ∷ []) (from + j)) w) (at big (get_or (fs j) h []) w)) →
      (j : ℕ) → LevelRows K lev from big zs (from + j) (row_entry big (search big K fs (length zs) j)) (2 ^ length zs)
  search_rows from zs z fs fanin zero =
      (fill_rows K lev from big zs (from + 0) z (fs 0) (λ s. big) (λ s. omega arith) (λ s p l. rw (add-zero from) own_first) (fanin 0)
      (length zs) (omega arith)).1
  search_rows from zs z fs fanin (suc j) =
      let rows = search_rows from zs z fs fanin j in
      (fill_rows K lev from big zs (from + suc j) z (fs (suc j)) (above big K (search big K fs (length zs) j)) (λ s. omega arith)
      (λ s p l. rw (add-suc from j) (own_next some (omega arith) (rows s p l K (omega arith)))) (fanin (suc j)) (length zs) (omega arith)).1

  -- ---- a tree

  mutual
    pub line_entry : (t : Node) → T (proper t) → (i : Bool) (ℓ w : ℕ) → w ≤ K →
        LeastEntry big (AtMost (Gives K lev ((i, t) ∷ []) ℓ) w) (at big (tree_line big K lev t ℓ) w)
    line_entry (leaf n) p i ℓ w l = leaf_entry w l
      where
        leaf_entry : (w : ℕ) → w ≤ K → LeastEntry big (AtMost (Gives K lev ((i, leaf n) ∷ []) ℓ) w) (at big (level_line big K (λ w. cond (leb (lev n) ℓ) 0 big)) w)
        leaf_entry zero l = entry_no_input
        leaf_entry (suc w) l = rw (line_at big K (λ w. cond (leb (lev n) ℓ) 0 big) (suc w) (omega arith) l) (entry_net i n ℓ (suc w) (omega arith))
    line_entry (gate k es) p i ℓ w l =
        let q = and_split (many es) (propers es) p in
        let n = length (fanins es) in
        let rows =
        search_rows 0 (fanins es) (false, leaf 0) (λ m. tree_lines big K lev es m)
        (λ j h w b k. rw (zero-add j) (lines_entry es q.1 h j w b k)) ℓ in
        let two = fanins_many es q.0 in
        let all = rows (2 ^ n - 1) (omega (arith, pow_mono two)) (omega (arith, pow_pos n)) w l in
        entry_gate (entry_groups (inl refl) (rw (select_all (fanins es) n refl, zero-add ℓ) at all))

    lines_entry : (es : Edges) → T (propers es) → (h ℓ w : ℕ) → h < length (fanins es) → w ≤ K →
        LeastEntry big (AtMost (Gives K lev (get_or (fanins es) h (false, leaf 0) ∷ []) ℓ) w) (at big (get_or (tree_lines big K lev es ℓ) h []) w)
    lines_entry none p h ℓ w l k = absurd (omega arith)
    lines_entry (edge i t es) p zero ℓ w l k = line_entry t (and_split (proper t) (propers es) p).0 i ℓ w k
    lines_entry (edge i t es) p (suc h) ℓ w l k = lines_entry es (and_split (proper t) (propers es) p).1 h ℓ w (omega arith) k
