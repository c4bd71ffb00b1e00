-- The search over bounds for the lines of one gate: what holds after some bounds, at the start, after one more, and after one more line. Assumes nothing.
use Prim.Native.Nat.{ℕ, suc, ◌+◌, ◌-◌, ◌*◌, ◌^◌, ◌≤◌, ◌<◌, min}
use native.Mathlib.Omega.{arith}
use native.Mathlib.Decide.{dec_lt}
use mathlib.Core.Path.{◌≡◌, refl, sym, ap, ◌∙◌}
use mathlib.Core.Logic.{◌⊎◌, ◌≢◌, ⊎_elim, inl, inr, by_cases}
use mathlib.Core.Bool.{cond}
use mathlib.Core.List.{List}
use lib.Dec.{eqb}
use lib.ListN.{length, get_or, replicate, length-replicate, get_or-replicate, get_or-eq_default}
use Rattle.lists.specs.Cases.{by_eqb}
use Rattle.cover.specs.Trusted.Cover.{pick}
use Rattle.plan.specs.Limits.{masks}
use Rattle.level_arrays.specs.declared.Fans.{Fans}
use Rattle.level_arrays.specs.Arrays.{big, entry_at, ArrayFilled, own_above, line_at, fan_row, FansGood, Searched, GreatestFan, start_at, SearchStill, LinesKept}
use Rattle.level_arrays.specs.Alike.{fan_labels, LikeMasks, Likened}
use Rattle.level_arrays.specs.AlikeLaws.{searched_likened}
use Rattle.level_rows.specs.Rows.{pick_some}
use Rattle.level_rows.specs.Runs.{RunWritten}
use Rattle.level_lines.specs.Looked.{RowsLooked, SameRows}
use Rattle.level_lines.proofs.Looking.{fan_below, look_net, fan_line_lem}

-- an array that has no entry
pub all_big : (n s : ℕ) → get_or (replicate n big) s big ≡ big
all_big n s =
    by_cases (dec_lt s n) (get_or-replicate n s big big) λ l.
    get_or-eq_default (replicate n big) big (omega (arith, length-replicate n big))

-- ---- a function with another value at one place

extended : (ℕ → List ℕ) → ℕ → List ℕ → ℕ → List ℕ
extended f i x m = cond (eqb m i) x (f m)

extended_same : (f : ℕ → List ℕ) (i : ℕ) (x : List ℕ) → extended f i x i ≡ x
unfolding extended
extended_same f i x = by_eqb (λ b. cond b x (f i) ≡ x) i i (λ e. refl) (λ n. absurd (n refl))

extended_other : (f : ℕ → List ℕ) (i : ℕ) (x : List ℕ) (m : ℕ) → m ≢ i → extended f i x m ≡ f m
unfolding extended
extended_other f i x m n = by_eqb (λ b. cond b x (f m) ≡ f m) m i (λ e. absurd (n e)) (λ _. refl)

-- ---- an array that is filled from equal rows and entries

filled_same : {K n : ℕ} {rows rows' : ℕ → ℕ → ℕ} {own own' : ℕ → ℕ} {a : List ℕ} {at m : ℕ} → ArrayFilled K n rows own a at m →
    ((h w : ℕ) → h < n → w ≤ K → rows h w ≡ rows' h w) → ((s : ℕ) → s < m → own s ≡ own' s) → ArrayFilled K n rows' own' a at m
filled_same p e d = record {
  one = λ h w l k j. p.one h w l k j ∙ e h w l j;
  none = p.none;
  more = λ h r w l o j k x y. rw (d (2 ^ h + r) k) at (p.more h r w l o j k x y);
}

filled_at : {K n : ℕ} {rows : ℕ → ℕ → ℕ} {x x' y y' : List ℕ} {m : ℕ} → x ≡ x' → y ≡ y' → ArrayFilled K n rows (own_above K x 0) y 0 m →
    ArrayFilled K n rows (own_above K x' 0) y' 0 m
filled_at p q f = rw (sym p, sym q) f

-- ---- the fanins' lines are before the gate's

module _ {K g : ℕ} {f : Fans} (good : FansGood K g f) (old store : List ℕ) (same : (i : ℕ) → i < g * 1536 → get_or store i big ≡ get_or old i big) where
  fan_kept : (ℓ h w : ℕ) → h < f.count → w ≤ 6 → fan_row store f ℓ h w ≡ fan_row old f ℓ h w
  fan_kept ℓ h w l k =
      by_cases (dec_lt ℓ (get_or f.levels h 0)) (λ d. fan_below store f ℓ h w d ∙ sym (fan_below old f ℓ h w d)) λ d.
      by_cases (dec_lt 0 (get_or f.lines h 0))
      (λ p.
      let j = min (ℓ - get_or f.levels h 0) (get_or f.lines h 0 - 1) in
      let b = good.before h l p in
      fan_line_lem store f ℓ h w j (omega arith) p refl
      ∙ ap (λ x. pick w big x) (same ((get_or f.gates h 0 * 256 + j) * 6 + (w - 1)) (omega (arith, good.few h l)))
      ∙ sym (fan_line_lem old f ℓ h w j (omega arith) p refl))
      (λ p. look_net store f ℓ h w (omega arith) (omega arith) ∙ sym (look_net old f ℓ h w (omega arith) (omega arith)))

-- ---- the search: i bounds are done, `array` is the last one's, `earlier` that of the one before, and `count` lines are kept

pub record LinesSo (K g : ℕ) (f : Fans) (a : ℕ) (old store own earlier array : List ℕ) (i count : ℕ) : Type 0 where
  pub arrays : ℕ → List ℕ
  pub latest : arrays i ≡ array
  pub prior : (p : ℕ) → suc p ≡ i → arrays p ≡ earlier
  pub searched : Searched K f.count (start_at f.count a) i (fan_row old f) arrays (λ i. 0)
  pub owns : (s : ℕ) → s < 2 ^ f.count → get_or own s big ≡ own_above K array 0 s
  pub kept : (j w : ℕ) → j < count → 1 ≤ w → w ≤ K → line_at store g j w ≡ entry_at (arrays (suc (a - start_at f.count a + j))) 0 (2 ^ f.count - 1) w
  pub within : (j : ℕ) → j < count → a - start_at f.count a + j < i
  pub before : (i : ℕ) → i < g * 1536 → get_or store i big ≡ get_or old i big
  pub room : length store ≡ length old

module _ {K g : ℕ} {f : Fans} {a : ℕ} {old : List ℕ} where
  -- no bound is done
  bounds_start : {own earlier array : List ℕ} → ((s : ℕ) → get_or own s big ≡ big) → ((s : ℕ) → get_or array s big ≡ big) → LinesSo K g f a old old own earlier array 0 0
  bounds_start {array = array} p q = record {
    arrays = λ i. array;
    latest = refl;
    prior = λ p e. absurd (omega arith);
    searched = record { first = λ h r l o j. q (0 + (2 ^ h + r) * 8 + K); next = λ i l. absurd (omega arith) };
    owns = λ s l. p s ∙ ap (λ x. min big (suc x)) (sym (q (0 + s * 8 + K)));
    kept = λ j w l. absurd (omega arith);
    within = λ j l. absurd (omega arith);
    before = λ i l. refl;
    room = refl;
  }

  pub bounds_first : {own earlier array : List ℕ} (bound : ℕ) → bound ≡ start_at f.count a → ((s : ℕ) → get_or own s big ≡ big) → ((s : ℕ) → get_or array s big ≡ big) →
      LinesSo K g f a old old own earlier array (bound - start_at f.count a) (bound - a)
  bounds_first bound e p q =
      let y : bound - start_at f.count a ≡ 0 = omega (arith, e) in
      let z : bound - a ≡ 0 = omega (arith, e) in
      rw (y, z) (bounds_start p q)

  -- what is found at the next bound, alike masks have alike
  pub bounds_likened : FansGood K g f → {store own earlier array rows looked like : List ℕ} {i count : ℕ} (ℓ : ℕ) → LinesSo K g f a old store own earlier array i count →
      RowsLooked store f ℓ rows looked → LikeMasks (fan_labels f) like (2 ^ f.count) →
      Likened K f.count (λ h w. get_or looked (h * 8 + w) big) (λ s. get_or own s big) like
  bounds_likened good {store} ℓ p looked =
      searched_likened f ℓ old store (omega (arith, good.some.table.0)) p.searched (λ h w l k. looked.is h w l (omega (arith, good.some.table.1)))
      (λ s l. p.owns s l ∙ ap (λ x. own_above K x 0 s) (sym p.latest))

  -- one bound more
  pub bounds_turn : FansGood K g f → {store own earlier array rows looked next lift : List ℕ} {i count : ℕ} (ℓ : ℕ) → start_at f.count a + i ≡ ℓ →
      LinesSo K g f a old store own earlier array i count → RowsLooked store f ℓ rows looked →
      ArrayFilled K f.count (λ h w. get_or looked (h * 8 + w) big) (λ s. get_or own s big) next 0 (2 ^ f.count) →
      ((s : ℕ) → s < 2 ^ f.count → get_or lift s big ≡ own_above K next 0 s) → LinesSo K g f a old store lift array next (suc i) count
  bounds_turn good {store} {next = next} {i = i} ℓ e p looked filled lifts =
      let few = good.some.table.1 in
      let other = extended_other p.arrays (suc i) next in record {
        arrays = extended p.arrays (suc i) next;
        latest = extended_same p.arrays (suc i) next;
        prior = λ q z. let y : q ≡ i = omega arith in rw y (other i (λ y. omega arith) ∙ p.latest);
        searched = record {
          first = λ h r l o j. ap (λ x. entry_at x 0 (2 ^ h + r) K) (other 0 (λ z. omega arith)) ∙ p.searched.first h r l o j;
          next = λ j l.
              by_cases (dec_lt j i)
              (λ d. filled_at (sym (other j (λ z. omega arith))) (sym (other (suc j) (λ z. omega arith))) (p.searched.next j d))
              λ d.
              let z : j ≡ i = omega arith in
              rw (z, e)
              (filled_at (sym (other i (λ y. omega arith) ∙ p.latest)) (sym (extended_same p.arrays (suc i) next))
              (filled_same filled (λ h w k m. looked.is h w k (omega arith) ∙ fan_kept good old store p.before ℓ h w k (omega arith)) p.owns));
        };
        owns = lifts;
        kept = λ j w l k m. p.kept j w l k m ∙ ap (λ x. entry_at x 0 (2 ^ f.count - 1) w) (sym (other _ (λ z. omega (arith, p.within j l))));
        within = λ j l. omega (arith, p.within j l);
        before = p.before;
        room = p.room;
      }

  -- one line more
  pub bounds_keep : {store own earlier array next : List ℕ} {i count : ℕ} (end : ℕ) → end ≡ 2 ^ f.count → K ≤ 6 →
      LinesSo K g f a old store own earlier array i count → i ≡ suc (a - start_at f.count a + count) →
      RunWritten store next ((g * 256 + count) * 6) 6 (λ w. get_or array ((end - 1) * 8 + (1 + w)) big) → LinesSo K g f a old next own earlier array i (count + 1)
  bounds_keep {array = array} {count = count} end z few p e q = record {
    arrays = p.arrays;
    latest = p.latest;
    prior = p.prior;
    searched = p.searched;
    owns = p.owns;
    kept = λ j w l k m.
        by_cases (dec_lt j count)
        (λ d. ap (λ x. pick w big x) (q.before ((g * 256 + j) * 6 + (w - 1)) (omega arith)) ∙ p.kept j w d k m)
        (λ d.
        let y : j ≡ count = omega arith in
        let n = 2 ^ f.count - 1 in
        let o : (end - 1) * 8 + (1 + (w - 1)) ≡ 0 + n * 8 + w = omega arith in
        rw y
        (pick_some w big _ k ∙ q.is (w - 1) (omega arith) ∙ ap (λ x. get_or array x big) o
        ∙ ap (λ x. entry_at x 0 n w) (sym p.latest ∙ ap p.arrays e)));
    within = λ j l. omega arith;
    before = λ j l. q.before j (omega arith) ∙ p.before j l;
    room = q.room ∙ p.room;
  }

  -- the lines are all
  pub bounds_done : {store own earlier array : List ℕ} {i count : ℕ} → GreatestFan f a → LinesSo K g f a old store own earlier array i count →
      i ≡ a - start_at f.count a + count → (1 ≤ count) × (count ≤ 256) →
      (line_at store g (count - 1) 1 ≤ count - 1) ⊎ ((count ≡ 256) ⊎ SearchStill K f a count earlier array) → LinesKept K g f old store a count
  bounds_done {earlier = earlier} {array = array} {i = i} {count = count} greatest p e some last = record {
    greatest = greatest;
    arrays = p.arrays;
    searched = rw e at p.searched;
    kept = p.kept;
    some = some;
    last = ⊎_elim inl (λ x. inr (⊎_elim inl (λ y. inr (rw e at (still y))) x)) last;
    before = p.before;
    room = p.room;
  }
    where
      still : SearchStill K f a count earlier array → SearchStill K f a count (p.arrays (i - 1)) (p.arrays i)
      still y = rw (p.latest, p.prior (i - 1) (omega (arith, e, y.two))) y

-- ---- the loop: the bound is the next one's, and `before` has the rows of `array`

pub record Lining (K g : ℕ) (f : Fans) (a : ℕ) (old store rows own array before : List ℕ) (bound : ℕ) : Type 0 where
  pub sizes : (length rows ≡ 80) × (length own ≡ masks) × (length array ≡ 8192) × (length before ≡ 8192)
  pub same : SameRows array before (2 ^ f.count * 8)
  pub lines : (earlier : List ℕ) × LinesSo K g f a old store own earlier array (bound - start_at f.count a) (bound - a)

-- the rows change up to the greatest level at least
pub change_above : {f : Fans} {a r : ℕ} → GreatestFan f a → ((h : ℕ) → h < f.count → get_or f.levels h 0 + (get_or f.lines h 0 - 1) ≤ r) → a ≤ r
change_above greatest p = let m = greatest.met in omega (arith, p m.0 m.1, m.2)
