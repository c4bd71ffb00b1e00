-- The lines of a sheet's gates: those of one gate more, from its fanins'.
use Rattle.std.specs.Prelude.{ℕ, zero, suc, ◌+◌, ◌-◌, ◌*◌, ◌≤◌, ◌<◌, ◌≡◌, refl, ◌≢◌, Bool, false, List, [], ◌∷◌, T, length, get_or, set}
use Rattle.std.proofs.Common.{arith, sym, ap, subst, ◌∙◌, length-append, get_or-set_same, get_or-set_other}
use Rattle.std.proofs.Math.Decide.{dec_lt}
use Rattle.std.proofs.Math.Logic.{by_cases}
use Rattle.lists.specs.Trusted.Lists.{◌∈◌, first}
use Rattle.lists.specs.ListLaws.{every_at}
use Rattle.tree.specs.Trusted.Tree.{Node, leaf, gate, Edges}
use Rattle.tree.specs.Measures.{leaves, leaves*, proper}
use Rattle.cover.specs.Trusted.Cover.{pick}
use Rattle.sheet.specs.declared.Source.{Source}
use Rattle.sheet.specs.declared.Source.TheVariants.{Net, Gate}
use Rattle.sheet.specs.Trusted.Sheet.{DrawnGate, DrawnSheet, net_of, gate_of, fanin_nets, fanin_gates, leaf_nets}
use Rattle.sheet.specs.Trusted.Trees.{edges_of, trees_of}
use Rattle.sheet.specs.Trusted.Formed.{WellFormed}
use Rattle.sheet.specs.PlaceLaws.{no_gate, no_edge, earlier_at}
use Rattle.levels.specs.Gives.{fanins, size, LeastEntry}
use Rattle.levels.specs.Lines.{LevelLines}
use Rattle.levels.proofs.LineLaws.{lines_net, lines_gate}
use Rattle.level_arrays.specs.Arrays.{big, line_at, fan_line, FansGood, LinesKept}
use Rattle.level_arrays.specs.Askable.{FanLines}
use Rattle.level_arrays.specs.GateLaws.{kept_lines}
use Rattle.level_arrays.specs.declared.Fans.{Fans}
use Rattle.level_sheets.specs.SheetTrees.{fanins_length, fanins_at_lem, fanins_at, reads_before, gate_tree, gate_proper, gate_leaves, gather_out}
use Rattle.level_sheets.specs.Lined.{FanOf, FansOf, LowNets, Lined}

-- the leaves of a gate's tree, counted
size_leaves : (es : Edges) → size (fanins es) ≡ length (leaves* es)
size_leaves Edges.none = refl
size_leaves (Edges.edge i t es) = omega (arith, size_leaves es, length-append (leaves t) (leaves* es))

-- the tree of gate j
module _ (s : DrawnSheet) (w : WellFormed s) (j : ℕ) (l : j < length s.gates) where
  abbrev below : Edges
  below = edges_of (trees_of [] s.gates) (fanins_at s.gates j)

  pub proper_gate : T (proper (gate (get_or s.gates j no_gate).kind below))
  proper_gate = subst (λ t. T (proper t)) (gate_tree s w j l) (gate_proper s w j l)

  pub few_under : size (fanins below) ≤ 256
  few_under = omega (arith, size_leaves below, ap (λ t. length (leaves t)) (gate_tree s w j l), gate_leaves s w j l)

-- the lines of a fanin that reads a net, and of one that reads a gate
module _ (K : ℕ) (lev : ℕ → ℕ) (store : List ℕ) (f : Fans) (h : ℕ) where
  net_line : (i : Bool) (n : ℕ) → get_or f.levels h 0 ≡ lev n → get_or f.lines h 0 ≡ 0 →
      LevelLines K lev big ((i, leaf n) ∷ []) (get_or f.levels h 0) (get_or f.lines h 0 - 1) (fan_line store f h)
  net_line i n a c =
      subst (λ l. LevelLines K lev big ((i, leaf n) ∷ []) l (get_or f.lines h 0 - 1) (fan_line store f h)) (sym a)
      (subst (λ m. LevelLines K lev big ((i, leaf n) ∷ []) (lev n) (m - 1) (λ j w. pick m (pick w big 0) (line_at store (get_or f.gates h 0) j w))) (sym c) (lines_net i n))

  gate_line_lem : (z : Bool × Node) (a c g : ℕ) → get_or f.levels h 0 ≡ a → get_or f.lines h 0 ≡ suc c → get_or f.gates h 0 ≡ g →
      LevelLines K lev big (z ∷ []) a (suc c - 1) (line_at store g) → LevelLines K lev big (z ∷ []) (get_or f.levels h 0) (get_or f.lines h 0 - 1) (fan_line store f h)
  gate_line_lem z a c g p q r x =
      subst (λ l. LevelLines K lev big (z ∷ []) l (get_or f.lines h 0 - 1) (fan_line store f h)) (sym p)
      (subst (λ m. LevelLines K lev big (z ∷ []) a (m - 1) (λ j w. pick m (pick w big 0) (line_at store (get_or f.gates h 0) j w))) (sym q)
      (subst (λ n. LevelLines K lev big (z ∷ []) a (suc c - 1) (λ j w. line_at store n j w)) (sym r) x))

module _ (K : ℕ) (lev : ℕ → ℕ) (table : (2 ≤ K) × (K ≤ 6)) (s : DrawnSheet) (w : WellFormed s) (low : LowNets lev s.gates) {g : ℕ} {starts counts store : List ℕ}
    (x : Lined K lev s.gates g starts counts store) where
  module _ (j : ℕ) (l : j < length s.gates) (b : j ≤ g) (f : Fans) (q : FansOf lev starts counts (fanins_at s.gates j) f) where
    abbrev edges : Edges
    edges = edges_of (trees_of [] s.gates) (fanins_at s.gates j)

    abbrev source_at : ℕ → Source
    source_at h = (get_or (fanins_at s.gates j) h no_edge).source

    reads : (h i : ℕ) → h < length (fanins_at s.gates j) → source_at h ≡ Gate (suc i) → i < j
    reads h i m e = reads_before s w (record { gate = l; fanin = m; source = e })

    -- by what fanin h reads
    pub by_fanin : (P : Type 0) (h : ℕ) → h < length (fanins_at s.gates j) →
        ((n : ℕ) → source_at h ≡ Net n → get_or f.levels h 0 ≡ lev n → get_or f.lines h 0 ≡ 0 → P) →
        ((i : ℕ) → source_at h ≡ Gate (suc i) → get_or f.levels h 0 ≡ get_or starts i 0 → get_or f.lines h 0 ≡ get_or counts i 0 → get_or f.gates h 0 ≡ i → i < j → P) → P
    by_fanin P h m n y = of (source_at h) refl (q.each h m)
      where
        of : (r : Source) → source_at h ≡ r → FanOf lev starts counts r (get_or f.levels h 0) (get_or f.lines h 0) (get_or f.gates h 0) → P
        of (Net k) e p = n k e p.0 p.1
        of (Gate zero) e p = absurd (omega (arith, earlier_at 1 s.gates j no_gate w.earlier l 0 (fanin_in h m e)))
          where
            fanin_in : (h : ℕ) → h < length (fanins_at s.gates j) → source_at h ≡ Gate 0 → 0 ∈ fanin_gates (fanins_at s.gates j)
            fanin_in h m e = gather_out (λ f. gate_of f.source) no_edge (fanins_at s.gates j) h m (rw e (first refl))
        of (Gate (suc i)) e p =
            let d : suc i - 1 ≡ i = omega arith in
            y i e (p.0 ∙ ap (λ n. get_or starts n 0) d) (p.1 ∙ ap (λ n. get_or counts n 0) d) (p.2 ∙ d) (reads h i m e)

    net_in : (h n : ℕ) → h < length (fanins_at s.gates j) → source_at h ≡ Net n → n ∈ leaf_nets s.gates
    net_in h n m e =
        gather_out (λ g. fanin_nets g.fanins) no_gate s.gates j l
        (gather_out (λ f. net_of f.source) no_edge (fanins_at s.gates j) h m (rw e (first refl)))

    pub lined_fans : (z : Bool × Node) → FanLines K lev (fanins edges) z store f
    lined_fans z h m =
        let m' : h < length (fanins_at s.gates j) = omega (arith, fanins_length (trees_of [] s.gates) (fanins_at s.gates j)) in
        rw (fanins_at_lem (trees_of [] s.gates) (fanins_at s.gates j) h z m')
        (by_fanin _ h m'
        (λ n e a c. rw e (net_line K lev store f h (get_or (fanins_at s.gates j) h no_edge).inverted n a c))
        (λ i e a c r b'.
        let o = x.some i (omega arith) in
        let k : get_or counts i 0 ≡ suc (get_or counts i 0 - 1) = omega arith in
        let d : suc i - 1 ≡ i = omega arith in
        let k' : suc (get_or counts i 0 - 1) - 1 ≡ get_or counts i 0 - 1 = omega arith in
        rw (e, d)
        (gate_line_lem K lev store f h ((get_or (fanins_at s.gates j) h no_edge).inverted, get_or (trees_of [] s.gates) i (leaf 0)) (get_or starts i 0) (get_or counts i 0 - 1) i a (c ∙ k) r
        (rw k' (x.lines i (omega arith) (get_or (fanins_at s.gates j) h no_edge).inverted)))))

    pub lined_good : FansGood K j f
    lined_good = record {
      some = record { table = table; fanins = let c = every_at s.gates j no_gate w.fanin_counts l in (omega (arith, q.count), omega (arith, q.count)) };
      rooms = q.rooms;
      before = λ h m o. by_fanin _ h (omega (arith, q.count)) (λ n e a c. absurd (omega arith)) (λ i e a c r b'. omega arith);
      few = λ h m. by_fanin _ h (omega (arith, q.count)) (λ n e a c. omega arith) (λ i e a c r b'. omega (arith, x.some i (omega arith)));
      low = λ h m. by_fanin _ h (omega (arith, q.count)) (λ n e a c. omega (arith, low n (net_in h n (omega (arith, q.count)) e))) (λ i e a c r b'. omega (arith, x.low i (omega arith)));
    }

    fan_low : (h : ℕ) → h < f.count → get_or f.levels h 0 ≤ 1000
    fan_low h m =
        by_fanin _ h (omega (arith, q.count)) (λ n e a c. omega (arith, low n (net_in h n (omega (arith, q.count)) e))) (λ i e a c r b'. omega (arith, x.low i (omega arith)))

    fans_count : f.count ≡ length (fanins edges)
    fans_count = q.count ∙ sym (fanins_length (trees_of [] s.gates) (fanins_at s.gates j))

    pub lined_gate : {store' : List ℕ} {a count : ℕ} → LinesKept K j f store store' a count → (i : Bool) →
        LevelLines K lev big ((i, get_or (trees_of [] s.gates) j (leaf 0)) ∷ []) a (count - 1) (line_at store' j)
    lined_gate y i =
        rw (gate_tree s w j l)
        (lines_gate {i = i} {k = (get_or s.gates j no_gate).kind} edges
        (kept_lines K lev table.0 (get_or s.gates j no_gate).kind edges (proper_gate s w j l) (few_under s w j l) (false, leaf 0) store f (lined_fans (false, leaf 0)) fans_count y))

lines_same : {K : ℕ} {lev : ℕ → ℕ} {zs : List (Bool × Node)} {a top : ℕ} {f g : ℕ → ℕ → ℕ} → ((i w : ℕ) → i ≤ top → w ≤ K → f i w ≡ g i w) →
    LevelLines K lev big zs a top f → LevelLines K lev big zs a top g
lines_same {f = f} e x = record { greatest = x.greatest; exact = λ j w l k. subst (LeastEntry big _) (e j w l k) (x.exact j w l k); final = x.final }

line_kept : (store store' : List ℕ) (g j i w : ℕ) → ((n : ℕ) → n < g * 1536 → get_or store' n big ≡ get_or store n big) → j < g → i ≤ 255 → w ≤ 6 →
    line_at store j i w ≡ line_at store' j i w
line_kept store store' g j i zero e l m k = refl
line_kept store store' g j i (suc w) e l m k = sym (e ((j * 256 + i) * 6 + (suc w - 1)) (omega arith))

-- THE LINES OF ONE GATE MORE
module _ (K : ℕ) (lev : ℕ → ℕ) (table : (2 ≤ K) × (K ≤ 6)) (s : DrawnSheet) (w : WellFormed s) (low : LowNets lev s.gates) {g : ℕ} {starts counts store : List ℕ}
    (x : Lined K lev s.gates g starts counts store) (l : g < length s.gates) (f : Fans) (q : FansOf lev starts counts (fanins_at s.gates g) f) where
  pub lined_next : {store' : List ℕ} {a count : ℕ} → g < length starts → g < length counts → LinesKept K g f store store' a count →
      Lined K lev s.gates (suc g) (set starts g a) (set counts g count) store'
  lined_next {store'} {a} {count} p r y = record {
    at = l;
    lines = λ j m i.
        by_cases (dec_lt j g)
        (λ n.
        let o = x.some j n in
        let d : j ≢ g = λ e. omega arith in
        rw (get_or-set_other starts g j a 0 d, get_or-set_other counts g j count 0 d)
        (lines_same (λ h u b k. line_kept store store' g j h u y.before n (omega arith) (omega arith)) (x.lines j n i)))
        (λ n.
        let e : j ≡ g = omega arith in
        rw (e, get_or-set_same starts g a 0 p, get_or-set_same counts g count 0 r) (lined_gate K lev table s w low x g l (omega arith) f q y i));
    some = λ j m.
        by_cases (dec_lt j g) (λ n. let d : j ≢ g = λ e. omega arith in rw (get_or-set_other counts g j count 0 d) (x.some j n))
        (λ n. let e : j ≡ g = omega arith in rw (e, get_or-set_same counts g count 0 r) y.some);
    low = λ j m.
        by_cases (dec_lt j g) (λ n. let d : j ≢ g = λ e. omega arith in rw (get_or-set_other starts g j a 0 d) (x.low j n))
        (λ n.
        let e : j ≡ g = omega arith in
        let (h, b, c) = y.greatest.met in
        rw (e, get_or-set_same starts g a 0 p) (omega (arith, fan_low K lev table s w low x g l (omega arith) f q h b)));
  }

pub lined_start : {K : ℕ} {lev : ℕ → ℕ} {gs : List DrawnGate} {starts counts store : List ℕ} → Lined K lev gs 0 starts counts store
lined_start = record { at = omega arith; lines = λ j m. absurd (omega arith); some = λ j m. absurd (omega arith); low = λ j m. absurd (omega arith) }
