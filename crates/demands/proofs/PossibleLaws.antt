-- Every promise of a call can be kept: for each part and each call there is a result that keeps it.
-- The tables of any cover can be numbered so that each stands after those that it reads: gates below come first, the root's last.
use Rattle.std.specs.Prelude.{ℕ, zero, suc, ◌+◌, ◌≤◌, ◌<◌, max, ◌≡◌, refl, Bool, true, false, List, [], ◌∷◌, ◌++◌, length}
use Rattle.std.proofs.Common.{arith, sym, ap, ap₂, ◌∙◌, subst, append-nil, length-append}
use Rattle.lists.specs.Trusted.Lists.{Every, Permuted, Inserted, here, there}
use Rattle.lists.specs.Sequences.{Paired, no_pair, pair}
use Rattle.lists.specs.ListLaws.{every_none, every_cons, every_append, every_left, every_right, permuted_from, permuted_to, permuted_refl}
use Rattle.lists.specs.NumberLaws.{sorted_permuted}
use Rattle.lists.specs.Trusted.Tests.{either}
use Rattle.lists.specs.TestLaws.{reflects_le, by_reflects}
use Rattle.tree.specs.Trusted.Limits.{code_base}
use Rattle.lists.specs.Trusted.Checked.{Checked, passed, refused as unread}
use Rattle.tree.specs.declared.Kind.{Kind}
use Rattle.tree.specs.Trusted.Tree.{Node, Edges}
use Rattle.cover.specs.Trusted.Cover.{Cover, net, top, Fanins, end, old, new, pick, arity, frontier, tables, tables*, width, widths, Fits, Fits*, SplitOf, split, Matched, done, match, Rooted, rooted, CoverOf, Least}
use Rattle.cover.specs.Nets.{nets, nets*, split_nets}
use Rattle.cover.specs.Trusted.Tables.{LookupTable, Placed, numbered, code_levels}
use Rattle.cover.specs.Eval.{numbered_append}
use Rattle.cover.specs.Trusted.Placed.{root_number, placed, code, codes, codes*, gate_table, records, records*}
use Rattle.cover.specs.Trusted.CoverTables.{Circuit, CoverTables}
use Rattle.cover.specs.Legal.{Legal}
use Rattle.levels.specs.Trusted.Levels.{level, levels, Fastest}
use Rattle.set_lengths.specs.Trusted.Lengths.{is_whole, cut}
use Rattle.set_lengths.specs.LengthLaws.{whole_reflects}
use Rattle.part.specs.Trusted.Parts.{tables_of, available, with_reservation, released}
use Rattle.part.specs.Trusted.Sound.{Sound}
use Rattle.part.specs.SoundLaws.{sound_reflects}
use Rattle.part.specs.Readable.{Readable}
use Rattle.part.specs.Trusted.Ways.{Way, least, fastest, reading, NumberBy, Chosen}
use Rattle.part.proofs.WayLaws.{reading_right}
use Rattle.part.specs.Trusted.Answers.{Answer, accepted, refused}
use Rattle.part.specs.Trusted.Add.{extended, net_read, Refused, Accepted, Fill, Offer, Take, Add}
use Rattle.part.specs.Trusted.Tries.{CallResult}
use Rattle.part.specs.Trusted.Sets.{InTurn, all, next, stop, turned_away, AddSet}
use Rattle.part.specs.Trusted.Reservations.{reservation_open, Reserves, reserving_sheet, Reserve, is_other, Committed, Commit, withdrawn}
use Rattle.part.proofs.AddLaws.{driven_reflects, read_reflects}
use Rattle.part.proofs.ReserveLaws.{open_reflects}
use Rattle.demands.specs.Trusted.Calls.{Call, add, add_set, reserve, commit, withdraw, one_sheet, Promise, Chain, call}
use Rattle.demands.specs.Determined.{number_in}
use Rattle.demands.proofs.DeterminedLaws.{number_is}
use Rattle.demands.proofs.ConditionLaws.{add_told}
use Rattle.part.specs.declared.Part.{Part}
use Rattle.demands.specs.Trusted.Calls as calls

-- ---- the cover with its tables numbered after m others

-- the mark of a gate that has so many tables up to and below it
abbrev marked : ℕ → ℕ → ℕ
marked j n = pick j 0 (suc n)

abbrev mutual
  mark : Cover → ℕ → Cover
  mark (net n) m = net n
  mark (top j k fs) m = top (marked j (m + tables* fs)) k (mark* fs m)

  mark* : Fanins → ℕ → Fanins
  mark* end m = end
  mark* (old i c fs) m = old i (mark c m) (mark* fs (m + tables c))
  mark* (new j s fs) m = new (marked j (m + tables* s)) (mark* s m) (mark* fs (m + (pick j 0 1 + tables* s)))

repick : (j n : ℕ) {A : Type 0} (a b : A) → pick (marked j n) a b ≡ pick j a b
repick zero n a b = refl
repick (suc j) n a b = refl

-- ---- it is a cover still

-- in each place the same edge, and a cover of each tree that the first one is a split of
abbrev Redrawn : Bool × Cover → Bool × Cover → Type 0
Redrawn x y = (x.0 ≡ y.0) × ((t : Node) → SplitOf t x.1 → SplitOf t y.1)

paired_append : {xs ys us vs : List (Bool × Cover)} → Paired Redrawn xs ys → Paired Redrawn us vs → Paired Redrawn (xs ++ us) (ys ++ vs)
paired_append no_pair q = q
paired_append (pair r p) q = pair r (paired_append p q)

paired_draw : {x : Bool × Cover} {xs us ys : List (Bool × Cover)} → Inserted x xs us → Paired Redrawn xs ys →
    (y : Bool × Cover) × (vs : List (Bool × Cover)) × Inserted y ys vs × Redrawn x y × Paired Redrawn us vs
paired_draw here (pair r p) = (_, _, here, r, p)
paired_draw (there i) (pair r p) = let d = paired_draw i p in (d.0, _, there d.2, d.3, pair r d.4)

matched_paired : {es : Edges} {xs ys : List (Bool × Cover)} → Matched es xs → Paired Redrawn xs ys → Matched es ys
matched_paired done no_pair = done
matched_paired {ys = ys} (match {i = i} {t = t} h s d) p =
    let r = paired_draw h p in
    match (subst (λ b. Inserted (b, r.0.1) ys r.1) (sym r.3.0) r.2) (r.3.1 t s) (matched_paired d r.4)

split_marked : {t : Node} {j : ℕ} {k : Kind} {fs gs : Fanins} (l : ℕ) → Paired Redrawn (frontier fs) (frontier gs) → SplitOf t (top j k fs) → SplitOf t (top l k gs)
split_marked l p (split d) = split (matched_paired d p)

mutual
  mark_split : (c : Cover) (m : ℕ) (t : Node) → SplitOf t c → SplitOf t (mark c m)
  mark_split (net n) m = λ t s. s
  mark_split (top j k fs) m = λ t s. split_marked (marked j (m + tables* fs)) (mark_frontier fs m) s

  mark_frontier : (fs : Fanins) (m : ℕ) → Paired Redrawn (frontier fs) (frontier (mark* fs m))
  mark_frontier end m = no_pair
  mark_frontier (old i c fs) m = pair (refl, λ t s. mark_split c m t s) (mark_frontier fs (m + tables c))
  mark_frontier (new j s fs) m = paired_append (mark_frontier s m) (mark_frontier fs (m + (pick j 0 1 + tables* s)))

mark_arity : (fs : Fanins) (m : ℕ) → arity (mark* fs m) ≡ arity fs
mark_arity end m = refl
mark_arity (old i c fs) m = ap (λ n. 1 + n) (mark_arity fs (m + tables c))
mark_arity (new j s fs) m = ap (λ n. 1 + n) (mark_arity fs (m + (pick j 0 1 + tables* s)))

mutual
  mark_width : (c : Cover) (m : ℕ) → width (mark c m) ≡ width c
  mark_width (net n) m = refl
  mark_width (top j k fs) m = repick j (m + tables* fs) (widths (mark* fs m)) 1 ∙ ap (λ w. pick j w 1) (mark_widths fs m)

  mark_widths : (fs : Fanins) (m : ℕ) → widths (mark* fs m) ≡ widths fs
  mark_widths end m = refl
  mark_widths (old i c fs) m = ap₂ ◌+◌ (mark_width c m) (mark_widths fs (m + tables c))
  mark_widths (new j s fs) m =
      ap₂ ◌+◌ (repick j (m + tables* s) (widths (mark* s m)) 1 ∙ ap (λ w. pick j w 1) (mark_widths s m)) (mark_widths fs (m + (pick j 0 1 + tables* s)))

mutual
  mark_tables : (c : Cover) (m : ℕ) → tables (mark c m) ≡ tables c
  mark_tables (net n) m = refl
  mark_tables (top j k fs) m = ap₂ ◌+◌ (repick j (m + tables* fs) 0 1) (mark_tables* fs m)

  mark_tables* : (fs : Fanins) (m : ℕ) → tables* (mark* fs m) ≡ tables* fs
  mark_tables* end m = refl
  mark_tables* (old i c fs) m = ap₂ ◌+◌ (mark_tables c m) (mark_tables* fs (m + tables c))
  mark_tables* (new j s fs) m = ap₂ ◌+◌ (ap₂ ◌+◌ (repick j (m + tables* s) 0 1) (mark_tables* s m)) (mark_tables* fs (m + (pick j 0 1 + tables* s)))

marked_level : (j n : ℕ) {a b : ℕ} → a ≡ b → pick (marked j n) a (1 + a) ≡ pick j b (1 + b)
marked_level j n {a} {b} e = repick j n a (1 + a) ∙ ap (λ l. pick j l (1 + l)) e

module _ (lev : ℕ → ℕ) where
  mutual
    mark_level : (c : Cover) (m : ℕ) → level lev (mark c m) ≡ level lev c
    mark_level (net n) m = refl
    mark_level (top j k fs) m = marked_level j (m + tables* fs) (mark_levels fs m)

    mark_levels : (fs : Fanins) (m : ℕ) → levels lev (mark* fs m) ≡ levels lev fs
    mark_levels end m = refl
    mark_levels (old i c fs) m = ap₂ max (mark_level c m) (mark_levels fs (m + tables c))
    mark_levels (new j s fs) m = ap₂ max (marked_level j (m + tables* s) (mark_levels s m)) (mark_levels fs (m + (pick j 0 1 + tables* s)))

module _ (K : ℕ) where
  narrow : (j n w v : ℕ) → w ≡ v → pick j (Unit {0}) (v ≤ K) → pick (marked j n) (Unit {0}) (w ≤ K)
  narrow zero n w v e h = tt
  narrow (suc j) n w v e h = omega arith

  mutual
    mark_fits : (c : Cover) (m : ℕ) → Fits c K → Fits (mark c m) K
    mark_fits (net n) m h = tt
    mark_fits (top j k fs) m h = (omega (arith, h.0, mark_arity fs m), narrow j (m + tables* fs) (widths (mark* fs m)) (widths fs) (mark_widths fs m) h.1, mark_fits* fs m h.2)

    mark_fits* : (fs : Fanins) (m : ℕ) → Fits* fs K → Fits* (mark* fs m) K
    mark_fits* end m h = tt
    mark_fits* (old i c fs) m h = (mark_fits c m h.0, mark_fits* fs (m + tables c) h.1)
    mark_fits* (new j s fs) m h = (
      (omega (arith, h.0.0, mark_arity s m), narrow j (m + tables* s) (widths (mark* s m)) (widths s) (mark_widths s m) h.0.1, mark_fits* s m h.0.2),
      mark_fits* fs (m + (pick j 0 1 + tables* s)) h.1,
    )

mark_rooted : (m : ℕ) {c : Cover} → Rooted c → Rooted (mark c m) × (root_number (mark c m) ≡ m + tables c)
mark_rooted m (rooted {fs = fs}) = (rooted, omega arith)

module _ (base : ℕ) where
  -- ---- its tables stand in the order of their numbers

  -- the tables are these, numbered after m others, and so many
  abbrev Lined : ℕ → List Placed → ℕ → Type 0
  Lined m ps n = (ts : List LookupTable) × (ps ≡ numbered m ts) × (length ts ≡ n)

  lined_append : (m n k : ℕ) (ps qs : List Placed) → Lined m ps n → Lined (m + n) qs k → Lined m (ps ++ qs) (n + k)
  lined_append m n k ps qs a b = (
    a.0 ++ b.0,
    ap₂ ◌++◌ a.1 b.1 ∙ sym (numbered_append m (m + n) a.0 b.0 (omega (arith, a.2))),
    length-append a.0 b.0 ∙ ap₂ ◌+◌ a.2 b.2,
  )

  lined_gate : (j m n : ℕ) (ps : List Placed) (r : LookupTable) → Lined m ps n → Lined m (ps ++ placed (marked j (m + n)) r) (pick j 0 1 + n)
  lined_gate zero m n ps r a = (a.0, append-nil ps ∙ a.1, omega (arith, a.2))
  lined_gate (suc j) m n ps r a =
      let b = lined_append m n 1 ps ((suc (m + n), r) ∷ []) a (r ∷ [], refl, refl) in
      (b.0, b.1, omega (arith, b.2))

  mutual
    mark_lined : (c : Cover) (m n : ℕ) (v : Bool) → Lined m (records base (mark c m) n v) (tables c)
    mark_lined (net x) m n v = ([], refl, refl)
    mark_lined (top j k fs) m n v = lined_gate j m (tables* fs) (records* base (mark* fs m) k) (gate_table base n v k (mark* fs m)) (mark_lined* fs m k)

    mark_lined* : (fs : Fanins) (m : ℕ) (k : Kind) → Lined m (records* base (mark* fs m) k) (tables* fs)
    mark_lined* end m k = ([], refl, refl)
    mark_lined* (old i c fs) m k =
        lined_append m (tables c) (tables* fs) (records base (mark c m) 0 false) (records* base (mark* fs (m + tables c)) k) (mark_lined c m 0 false)
        (mark_lined* fs (m + tables c) k)
    mark_lined* (new j s fs) m k =
        lined_append m (pick j 0 1 + tables* s) (tables* fs)
        (records* base (mark* s m) k ++ placed (marked j (m + tables* s)) (gate_table base 0 false k (mark* s m)))
        (records* base (mark* fs (m + (pick j 0 1 + tables* s))) k)
        (lined_gate j m (tables* s) (records* base (mark* s m) k) (gate_table base 0 false k (mark* s m)) (mark_lined* s m k))
        (mark_lined* fs (m + (pick j 0 1 + tables* s)) k)

  -- ---- and each reads only nets and earlier ones

  abbrev Early : Placed → Type 0
  Early p = Every (λ x. x < base + p.0) p.1.inputs

  -- the codes are not above that of the last of the first n tables, and the tables are early
  abbrev Low : List ℕ → List Placed → ℕ → Type 0
  Low xs ps n = Every (λ x. x ≤ base + n) xs × Every Early ps

  low_append : (n k : ℕ) (xs ys : List ℕ) (ps qs : List Placed) → n ≤ k → Low xs ps n → Low ys qs k → Low (xs ++ ys) (ps ++ qs) k
  low_append n k xs ys ps qs l a b = (every_append xs ys (λ x m. omega (arith, a.0 x m)) b.0, every_append ps qs a.1 b.1)

  low_gate : (j n d : ℕ) (v : Bool) (k : Kind) (fs : Fanins) → Low (codes* base fs) (records* base fs k) n →
      Low (code base (marked j n) (codes* base fs)) (records* base fs k ++ placed (marked j n) (gate_table base d v k fs)) (pick j 0 1 + n)
  low_gate zero n d v k fs a = (λ x m. omega (arith, a.0 x m), every_append (records* base fs k) [] a.1 (every_none _))
  low_gate (suc j) n d v k fs a = (
    every_cons (omega arith) (every_none _),
    every_append (records* base fs k) _ a.1 (every_cons (permuted_to (sorted_permuted (codes* base fs)) (λ x m. omega (arith, a.0 x m))) (every_none _)),
  )

  mutual
    mark_low : (c : Cover) (m d : ℕ) (v : Bool) → Every (λ x. x < base) (nets c) → Low (codes base (mark c m)) (records base (mark c m) d v) (m + tables c)
    mark_low (net n) m d v h = (λ x i. omega (arith, h x i), every_none _)
    mark_low (top j k fs) m d v h =
        let e : pick j 0 1 + (m + tables* fs) ≡ m + (pick j 0 1 + tables* fs) = omega arith in
        subst (Low (codes base (mark (top j k fs) m)) (records base (mark (top j k fs) m) d v)) e
        (low_gate j (m + tables* fs) d v k (mark* fs m) (mark_low* fs m k h))

    mark_low* : (fs : Fanins) (m : ℕ) (k : Kind) → Every (λ x. x < base) (nets* fs) →
        Low (codes* base (mark* fs m)) (records* base (mark* fs m) k) (m + tables* fs)
    mark_low* end m k h = (every_none _, every_none _)
    mark_low* (old i c fs) m k h =
        let e : m + tables c + tables* fs ≡ m + (tables c + tables* fs) = omega arith in
        subst (Low (codes* base (mark* (old i c fs) m)) (records* base (mark* (old i c fs) m) k)) e
        (low_append (m + tables c) (m + tables c + tables* fs) (codes base (mark c m)) (codes* base (mark* fs (m + tables c)))
        (records base (mark c m) 0 false) (records* base (mark* fs (m + tables c)) k) (omega arith)
        (mark_low c m 0 false (every_left (nets c) (nets* fs) h)) (mark_low* fs (m + tables c) k (every_right (nets c) (nets* fs) h)))
    mark_low* (new j s fs) m k h =
        let n = m + (pick j 0 1 + tables* s) in
        let e : n + tables* fs ≡ m + (pick j 0 1 + tables* s + tables* fs) = omega arith in
        subst (Low (codes* base (mark* (new j s fs) m)) (records* base (mark* (new j s fs) m) k)) e
        (low_append (pick j 0 1 + (m + tables* s)) (n + tables* fs) (code base (marked j (m + tables* s)) (codes* base (mark* s m))) (codes* base (mark* fs n))
        (records* base (mark* s m) k ++ placed (marked j (m + tables* s)) (gate_table base 0 false k (mark* s m))) (records* base (mark* fs n) k) (omega arith)
        (low_gate j (m + tables* s) 0 false k (mark* s m) (mark_low* s m k (every_left (nets* s) (nets* fs) h)))
        (mark_low* fs n k (every_right (nets* s) (nets* fs) h)))

  -- the tables of any cover of the sheet can be added, and have its levels
  pub cover_added : (K : ℕ) (olds : List LookupTable) (s : Circuit) → Legal base s → (c : Cover) → CoverOf K s.tree c →
      (news : List LookupTable) × (a : CoverTables base K olds news s) × (length news ≡ tables c) × ((lev : ℕ → ℕ) → level lev a.cover ≡ level lev c)
  cover_added K olds s legal c h =
      let m = length olds in
      let l = mark_lined c m s.out s.inverted in
      let r = mark_rooted m h.root in
      let low = mark_low c m s.out s.inverted (permuted_from (split_nets h.split) (λ x i. (legal.leaf_nets_lem x i).1)) in (
        l.0,
        record {
          cover = mark c m;
          covers = record { split = mark_split c m s.tree h.split; root = r.0; fits = mark_fits K c m h.fits };
          taken = subst (λ ps. Permuted (numbered m l.0) ps) (sym l.1) (permuted_refl _);
          earlier = subst (Every Early) l.1 low.1;
          last = r.1 ∙ ap (λ n. m + n) (sym l.2);
        },
        l.2,
        λ lev. mark_level lev c m,
      )

-- ---- the promises can be kept

chosen_possible : (w : Way) (p : Part) (s : Circuit) (n : ℕ) → Readable s → NumberBy w p s n → (new : List LookupTable) × Chosen w p s new
chosen_possible least p s n r l =
    let c = l.some in
    let a = cover_added code_base p.k (tables_of p) s r.legal c.0 c.1 in
    (a.0, record { added = a.1; fewest = subst (λ m. Least p.k s.tree m) (sym (a.2 ∙ c.2)) l })
chosen_possible fastest p s n r (d, f) =
    let c = f.some in
    let a = cover_added code_base p.k (tables_of p) s r.legal c.0 c.1 in
    let lev = code_levels code_base (tables_of p) in (
      a.0,
      record {
        added = a.1;
        fastest = subst (λ e. Fastest lev p.k s.tree (length a.0) e) (sym (a.3 lev ∙ c.2)) (subst (λ m. Fastest lev p.k s.tree m d) (sym (a.2 ∙ c.3)) f);
      },
    )

module _ (w : Way) (p : Part) (text : List ℕ) where
  offer_possible : Sound p → (s : Circuit) → Readable s → (q : Part) × (a : Answer) × Offer w p s q a
  offer_possible h s r =
      by_reflects (λ b. (q : Part) × (a : Answer) × either b (Refused p 21 0 q a) (either (net_read s.out (tables_of p)) (Refused p 22 0 q a) (Last q a)))
      (driven_reflects s.out (tables_of p)) (λ d. (p, refused 21 0, (refl, refl)))
      (λ d. by_reflects (λ b. (q : Part) × (a : Answer) × either b (Refused p 22 0 q a) (Last q a))
      (read_reflects s.out (tables_of p)) (λ i. (p, refused 22 0, (refl, refl))) (λ i. last))
    where
      Last : Part → Answer → Type 0
      Last q a = (n : ℕ) × NumberBy w p s n × Fill w p s n q a

      n : ℕ
      n = number_in w p s

      number : NumberBy w p s n
      number = number_is w p h.k_range.0 s r

      takes : (q : Part) × (a : Answer) × Accepted w p s q a
      takes = let c = chosen_possible w p s n r number in (extended p c.0, accepted, record { new = c.0; chosen = c.1; part = refl; answer = refl })

      filled : (q : Part) × (a : Answer) × Fill w p s n q a
      filled =
          by_reflects (λ b. (q : Part) × (a : Answer) × either b (Accepted w p s q a) (Refused p 23 0 q a))
          (reflects_le n (available p)) (λ l. takes) (λ l. (p, refused 23 0, (refl, refl)))

      last : (q : Part) × (a : Answer) × Last q a
      last = (filled.0, filled.1, (n, number, filled.2))

  take_possible : Sound p → (v : Checked Circuit) → reading w text ≡ v → (q : Part) × (a : Answer) × Take w p v q a
  take_possible h (passed s) e = offer_possible h s (reading_right w text s e)
  take_possible h (unread number place) e = (p, refused number place, (refl, refl))

  -- EVERY PROMISE OF AN ADD can be kept
  add_possible : (q : Part) × (a : Answer) × Add w p text q a
  unfolding Add
  add_possible =
      by_reflects (λ b. (q : Part) × (a : Answer) × either b (Take w p (reading w text) q a) (Refused p 20 0 q a))
      (sound_reflects p) (λ h. take_possible h (reading w text) refl) (λ n. (p, refused 20 0, (refl, refl)))

turn_possible : (o : Part) (i : ℕ) (sheets : List (List ℕ)) (p : Part) → (r : CallResult) × InTurn o i sheets p r
turn_possible o i [] p = (_, all)
turn_possible o i (text ∷ sheets) p = let (q, a, x) = add_possible least p text in of (turn_possible o (suc i) sheets) q a x
  where
    of : ((p : Part) → (r : CallResult) × InTurn o (suc i) sheets p r) → (q : Part) (a : Answer) → Add least p text q a →
        (r : CallResult) × InTurn o i (text ∷ sheets) p r
    of f q accepted x = (_, next x (f q).1)
    of f q (refused number place) x = (_, stop x)

-- EVERY PROMISE OF ADDING A SET can be kept
set_possible : (p : Part) (lengths text : List ℕ) → (r : CallResult) × AddSet p lengths text r
unfolding AddSet
set_possible p lengths text =
    by_reflects (λ b. (r : CallResult) × either b (either (is_whole lengths (length text)) (InTurn p 1 (cut lengths text) p r) (r ≡ turned_away p 33)) (r ≡ turned_away p 20))
    (sound_reflects p)
    (λ s. by_reflects (λ b. (r : CallResult) × either b (InTurn p 1 (cut lengths text) p r) (r ≡ turned_away p 33)) (whole_reflects lengths (length text))
    (λ w. turn_possible p 1 (cut lengths text) p) (λ n. (turned_away p 33, refl)))
    (λ n. (turned_away p 20, refl))

-- EVERY PROMISE OF A RESERVATION can be kept
reserves_possible : (p : Part) (text : List ℕ) → (q : Part) × (a : Answer) × Reserves least p text q a
reserves_possible p text = let (o, a, x) = add_possible least p text in of o a x
  where
    of : (o : Part) (a : Answer) → Add least p text o a → (q : Part) × (b : Answer) × Reserves least p text q b
    of o accepted x =
        let (s, n, g, l, m) = (add_told least p text o accepted x).accepts.0 refl in
        (with_reservation p (record { count = n; net = s.out }), accepted, ((o, x), record { sheet = s; read = g.read; count = n; number = l; part = refl }))
    of o (refused number place) x = (p, refused number place, ((o, x), refl))

reserve_possible : (p : Part) (text : List ℕ) → (r : CallResult) × Reserve p text r
unfolding Reserve
reserve_possible p text =
    by_reflects (λ b. (r : CallResult) × either b (either (reservation_open p) (r ≡ turned_away p 35) (Tried r)) (r ≡ turned_away p 20)) (sound_reflects p)
    (λ s. by_reflects (λ b. (r : CallResult) × either b (r ≡ turned_away p 35) (Tried r)) (open_reflects p) (λ o. (turned_away p 35, refl))
    (λ o. let (q, a, x) = reserves_possible p text in (reserving_sheet least text p q a, (x, refl))))
    (λ n. (turned_away p 20, refl))
  where
    Tried : CallResult → Type 0
    Tried r = Reserves least p text r.part r.answer × (r ≡ reserving_sheet least text p r.part r.answer)

-- and of a commit
commit_possible : (p : Part) (text : List ℕ) → (r : CallResult) × Commit p text r
unfolding Commit
commit_possible p text =
    by_reflects (λ b. (r : CallResult) × either b (either (reservation_open p) (Committed p text r) (r ≡ turned_away p 36)) (r ≡ turned_away p 20)) (sound_reflects p)
    (λ s. by_reflects (λ b. (r : CallResult) × either b (Committed p text r) (r ≡ turned_away p 36)) (open_reflects p) (λ o. committed (is_other p (reading least text)))
    (λ o. (turned_away p 36, refl)))
    (λ n. (turned_away p 20, refl))
  where
    committed : (b : Bool) → (r : CallResult) × either b (r ≡ turned_away p 36) (InTurn p 0 (text ∷ []) (released p) r)
    committed true = (turned_away p 36, refl)
    committed false = turn_possible p 0 (text ∷ []) (released p)

call_possible : (p : Part) (c : Call) → (r : CallResult) × Promise p c r
call_possible p (add w text) = let (q, a, x) = add_possible w p text in (one_sheet w text p q a, (x, refl))
call_possible p (add_set lengths text) = set_possible p lengths text
call_possible p (reserve text) = reserve_possible p text
call_possible p (commit text) = commit_possible p text
call_possible p withdraw = (withdrawn p, refl)

-- and so those of every list of calls
pub chain_possible : (p : Part) (cs : List Call) → (rs : List CallResult) × Chain p cs rs
chain_possible p [] = ([], calls.done)
chain_possible p (c ∷ cs) =
    let x = call_possible p c in
    let y = chain_possible x.0.part cs in
    (x.0 ∷ y.0, call x.1 y.1)
