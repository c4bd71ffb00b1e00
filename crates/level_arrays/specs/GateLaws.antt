-- The lines that are kept of a gate are its own; and those of the root tell the least root level and the fewest tables.
use Rattle.std.specs.Prelude.{ℕ, zero, suc, ◌+◌, ◌-◌, ◌^◌, ◌≤◌, ◌<◌, ◌≡◌, Bool, List, [], ◌∷◌, T, length, get_or}
use Rattle.std.proofs.Common.{arith, sym, ap, ◌∙◌, ⊎_elim, pow_pos, pow_mono}
use Rattle.std.proofs.Math.Decide.{dec_lt}
use Rattle.std.proofs.Math.Logic.{by_cases}
use Rattle.lists.specs.Trusted.Lists.{Every}
use Rattle.lists.specs.Cases.{and_split}
use Rattle.lists.specs.ListLaws.{every_none, every_cons, every_head, every_at}
use Rattle.tree.specs.declared.Kind.{Kind}
use Rattle.tree.specs.Trusted.Tree.{Node, gate, Edges}
use Rattle.tree.specs.Measures.{many, proper, propers, leaves}
use Rattle.levels.specs.Trusted.Levels.{Fastest}
use Rattle.levels.specs.Gives.{fanins, size, Gives, AtMost, LeastEntry}
use Rattle.levels.specs.GivesLaws.{fanins_many, gives_narrow, gives_held}
use Rattle.levels.specs.EntryLaws.{entry_no_input, entry_below}
use Rattle.levels.proofs.Fastest.{entry_fastest}
use Rattle.levels.proofs.Found.{some_gives*}
use Rattle.levels.specs.Groups.{LevelRows}
use Rattle.levels.specs.Lines.{Greatest, LevelSettled, LevelLines}
use Rattle.levels.proofs.LineLaws.{start_enough, look_entry, row_whole, settled_few, settled_later, line_final}
use Rattle.levels.specs.StillLaws.{rows_settled}
use Rattle.level_arrays.specs.Arrays.{big, entry_at, line_at, fan_row, Searched, GreatestFan, start_at, SearchStill, LinesKept}
use Rattle.level_arrays.specs.ArrayLaws.{FanEntries, searched_rows}
use Rattle.level_arrays.specs.Askable.{FanLines}
use Rattle.level_arrays.specs.declared.Fans.{Fans}

less_one : (d m count : ℕ) → m + 2 ≡ count → d + count - 1 ≡ suc (d + m)
less_one d m count e = omega arith

less_none : (d m count : ℕ) → m + 2 ≡ count → d + count ≡ suc (d + suc m)
less_none d m count e = omega arith

start_below : (a m n : ℕ) → start_at n a ≤ a + m
start_below a m n = omega arith

every_index : {A : Type 0} (P : A → Type 0) (xs : List A) (z : A) → ((i : ℕ) → i < length xs → P (get_or xs i z)) → Every P xs
every_index P [] z f = every_none _
every_index P (x ∷ xs) z f = every_cons (f 0 (omega arith)) (every_index P xs z (λ i l. f (suc i) (omega arith)))

module _ (K : ℕ) (lev : ℕ → ℕ) (zs : List (Bool × Node)) (z : Bool × Node) (store : List ℕ) (f : Fans) (fans : FanLines K lev zs z store f) where
  -- so are the rows at each bound
  pub fan_entries : (ℓ : ℕ) → FanEntries K lev zs z ℓ (fan_row store f ℓ)
  fan_entries ℓ h w l k = look_entry (fans h l) ℓ w k

  pub greatest_fan : {a : ℕ} → f.count ≡ length zs → GreatestFan f a → Greatest lev zs a
  greatest_fan {a} n g = record {
    nets = every_index (λ y. Every (λ m. lev m ≤ a) (leaves y.1)) zs z (λ h l m i. omega (arith, g.within h (omega arith), every_head (fans h l).greatest.nets m i));
    least = λ ℓ s.
        let (h, l, e) = g.met in
        omega (arith, e, (fans h (omega arith)).greatest.least ℓ (every_cons (every_at zs h z s (omega arith)) (every_none _)));
  }

module _ (K : ℕ) (lev : ℕ → ℕ) (two : 2 ≤ K) (k : Kind) (es : Edges) (drawn : T (proper (gate k es))) (few : size (fanins es) ≤ suc big) where
  -- THE LINES OF A GATE, from those of its fanins
  module _ (z : Bool × Node) (store : List ℕ) (f : Fans) (fans : FanLines K lev (fanins es) z store f) (n : f.count ≡ length (fanins es))
      {g : ℕ} {store' : List ℕ} {a count : ℕ} (x : LinesKept K g f store store' a count) where
    abbrev start : ℕ
    start = start_at (length (fanins es)) a

    whole : Searched K (length (fanins es)) start (a - start + count) (fan_row store f) x.arrays (λ i. 0)
    whole = rw n at x.searched

    -- the arrays from the greatest level on
    rows_at : (j : ℕ) → j < count → LevelRows K lev start big (fanins es) (a + j) (entry_at (x.arrays (suc (a - start + j))) 0) (2 ^ length (fanins es))
    rows_at j l =
        let rows = searched_rows K lev (fanins es) z (omega arith) whole (λ i m. fan_entries K lev (fanins es) z store f fans (start + i)) (a - start + j) (omega arith) in
        let e : start + (a - start + j) ≡ a + j = omega arith in
        rw e at rows

    line_exact : (j w : ℕ) → j < count → w ≤ K → LeastEntry big (AtMost (Gives K lev (fanins es) (a + j)) w) (line_at store' g j w)
    line_exact j zero l b = entry_no_input
    line_exact j (suc w) l b =
        let q = fanins_many es (and_split (many es) (propers es) drawn).0 in
        rw (x.kept j (suc w) l (omega arith) b, n)
        (row_whole (fanins es) (start_enough a (length (fanins es)) (a + j) (omega arith) (omega arith))
        (rows_at j l (2 ^ length (fanins es) - 1) (omega (arith, pow_mono q)) (omega (arith, pow_pos (length (fanins es))))) b)

    greatest : Greatest lev (fanins es) a
    greatest = greatest_fan K lev (fanins es) z store f fans n x.greatest

    -- where the search stands still
    still_settled : (last : ℕ) → last ≡ a - start + count → SearchStill K f a count (x.arrays (last - 1)) (x.arrays last) → (m : ℕ) → m + 2 ≡ count →
        LevelSettled K lev (fanins es) (a + (count - 1))
    still_settled last d y m e =
        let i = ap (λ p. p - 1) d ∙ less_one (a - start) m count e in
        let j = d ∙ less_none (a - start) m count e in
        let u : a + suc m ≡ suc (a + m) = omega arith in
        let v : count - 2 ≡ m = omega (arith, e) in
        let w : count - 1 ≡ suc m = omega (arith, e) in
        let best = entry_at (x.arrays (suc (a - start + m))) 0 in
        let same : (s t : ℕ) → s < 2 ^ length (fanins es) → t ≤ K → entry_at (x.arrays (suc (a - start + suc m))) 0 s t ≡ best s t =
        λ s t l b. rw (i, j) at (y.same s t (rw n l) b) in
        let next : LevelRows K lev start big (fanins es) (suc (a + m)) best (2 ^ length (fanins es)) =
        λ s o l t b. rw (sym u, sym (same s t l b)) (rows_at (suc m) (omega (arith, e)) s o l t b) in
        let single : (h : ℕ) → h < length (fanins es) → LevelSettled K lev (get_or (fanins es) h z ∷ []) (a + m) =
        λ h l. settled_later (fans h l).final (a + m) (rw v at (y.fans h (rw n l))) in
        let q = fanins_many es (and_split (many es) (propers es) drawn).0 in
        let one : best (2 ^ length (fanins es) - 1) 1 < big =
        rw (sym (same (2 ^ length (fanins es) - 1) 1 (omega (arith, pow_pos (length (fanins es)))) (omega (arith, two)))) (rw (n, j) at y.one) in
        rw w
        (settled_later
        (rows_settled K lev start big (fanins es) (a + m) (omega (arith, two)) (start_below a m (length (fanins es)))
        (every_index (λ p. LevelSettled K lev (p ∷ []) (a + m)) (fanins es) z single)
        best (rows_at m (omega (arith, e))) next (omega (arith, q)) one (start_enough a (length (fanins es)) (a + m) (omega (arith, q)) (omega arith)))
        (a + suc m) (omega (arith, u)))

    last_settled : LevelSettled K lev (fanins es) (a + (count - 1))
    last_settled =
        let y = line_exact (count - 1) 1 (omega (arith, x.some.0)) (omega arith) in
        let below : a + line_at store' g (count - 1) 1 ≤ a + (count - 1) → LevelSettled K lev (fanins es) (a + (count - 1)) = λ l. settled_few a few greatest.nets l y in
        ⊎_elim (λ l. below (omega arith))
        (⊎_elim (λ e. below (omega (arith, line_final k es {j = count - 1} two drawn greatest (omega (arith, few)) y)))
        (λ r. still_settled _ (ap (λ c. a - start_at c a + count) n) r (count - 2) (omega (arith, r.two)))) x.last

    pub kept_lines : LevelLines K lev big (fanins es) a (count - 1) (line_at store' g)
    kept_lines = record { greatest = greatest; exact = λ j w l b. line_exact j w (omega (arith, x.some.0)) b; final = last_settled }

  -- THE ROOT: its first line with an entry for K inputs
  module _ {a top : ℕ} {f : ℕ → ℕ → ℕ} (x : LevelLines K lev big (fanins es) a top f) where
    pub lines_fastest : (j : ℕ) → j ≤ top → f j K < big → ((i : ℕ) → i < j → big ≤ f i K) → Fastest lev K (gate k es) (suc (f j K)) (suc (a + j))
    lines_fastest j l s none = entry_fastest K lev k es (omega arith) drawn few (x.exact j K l (omega arith)) s before
      where
        before : (p : ℕ) → suc p ≡ a + j → LeastEntry big (AtMost (Gives K lev (fanins es) p) K) big
        before p e =
            by_cases (dec_lt p a)
            (λ b. entry_below (λ s. omega (arith, x.greatest.least p s)))
            (λ b.
            let y = x.exact (p - a) K (omega arith) (omega arith) in
            let q : f (p - a) K ≡ big = omega (arith, y.most, none (p - a) (omega arith)) in
            let r : a + (p - a) ≡ p = omega arith in
            rw (q, r) at y)

    -- there is one
    pub last_some : f top K < big
    last_some =
        let q = and_split (many es) (propers es) drawn in
        let m = fanins_many es q.0 in
        let (ℓ, c, g) = some_gives* K lev two es q.1 (omega arith) in
        let (v, e, i, j, r, h) = gives_held m g in
        let (u, d, b, s, y) = x.final ℓ v e h in
        omega (arith, few, (x.exact top K (omega arith) (omega arith)).low d (u, gives_narrow (omega arith) y, y))
