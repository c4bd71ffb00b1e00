-- The joined gates, under their drawn numbers, draw the joined trees of the gates.
use Rattle.std.specs.Prelude.{ℕ, suc, ◌+◌, ◌-◌, ◌≤◌, ◌≡◌, refl, Bool, cond, ◌&&◌, List, [], ◌∷◌, ◌++◌, map, leb, length}
use Rattle.std.proofs.Common.{arith, sym, ap, ap₂, ◌∙◌, subst, append_assoc, append-nil, length-append}
use Rattle.std.proofs.lemmas.List.{map-append, length-map, get_or_at}
use Rattle.std.proofs.Math.ListN.{get_or-append, get_or-map}
use Rattle.lists.specs.Trusted.Lists.{Every, gather}
use Rattle.lists.specs.ListLaws.{every_none, every_head, every_tail, every_append, every_left, every_right, permuted_from}
use Rattle.lists.specs.Cases.{by_test, by_leb}
use Rattle.tree.specs.declared.Kind.{Kind}
use Rattle.tree.specs.Trusted.Tree.{Node, leaf, none, edge, turned, edge_count}
use Rattle.sheet.specs.declared.Source.{Source}
use Rattle.sheet.specs.declared.Source.TheVariants.{Net as net, Gate as gate}
use Rattle.sheet.specs.declared.Edge.{Edge as Fanin}
use Rattle.tree.specs.Trusted.Limits.{most_fanins}
use Rattle.sheet.specs.Trusted.Sheet.{DrawnGate, gate_of, fanin_gates}
use Rattle.sheet.specs.Trusted.Trees.{tree_at, node_of, edges_of, trees_of}
use Rattle.sheet.specs.Trusted.Formed.{FaninCount, Before, Earlier}
use Rattle.sheet.specs.TreeLaws.{tree_for}
use Rattle.joined.specs.Trusted.Joined.{chained, turned_over, in_place, ◌then◌, joined_from, joined_tree, joined_below}
use Rattle.joined.specs.JoinedSheet.{gate_at, joins_source, turn_fanin, fanins_in_place, joined_fanins, gone_into, joined_gate, joined_gates}
use Rattle.joined.proofs.JoinedLaws.{from_room}
use Rattle.joined.specs.CountLaws.{gone_every, of_gate, fanins_bring}

-- ---- fanins as edges

edges_append : (ts : List Node) (fs gs : List Fanin) → edges_of ts (fs ++ gs) ≡ edges_of ts fs then edges_of ts gs
edges_append ts [] gs = refl
edges_append ts (f ∷ fs) gs = ap (edge f.inverted (node_of ts f.source)) (edges_append ts fs gs)

pub edges_count : (ts : List Node) (fs : List Fanin) → edge_count (edges_of ts fs) ≡ length fs
edges_count ts [] = refl
edges_count ts (f ∷ fs) = ap suc (edges_count ts fs)

edges_turned : (ts : List Node) (i : Bool) (fs : List Fanin) → edges_of ts (map (turn_fanin i) fs) ≡ turned_over i (edges_of ts fs)
edges_turned ts i [] = refl
edges_turned ts i (f ∷ fs) = ap (edge (turned i f.inverted) (node_of ts f.source)) (edges_turned ts i fs)

-- the fanins read trees that are the same in two lists of trees
pub edges_same : (ts us : List Node) (fs : List Fanin) → Every (λ g. tree_at ts g ≡ tree_at us g) (fanin_gates fs) → edges_of ts fs ≡ edges_of us fs
edges_same ts us [] h = refl
edges_same ts us (f ∷ fs) h =
    ap₂ (edge f.inverted) (node f.source (every_left (gate_of f.source) (fanin_gates fs) h)) (edges_same ts us fs (every_right (gate_of f.source) (fanin_gates fs) h))
  where
    node : (s : Source) → Every (λ g. tree_at ts g ≡ tree_at us g) (gate_of s) → node_of ts s ≡ node_of us s
    node (net n) e = refl
    node (gate g) e = every_head e

edges_below : (ts : List Node) (fs : List Fanin) → joined_below (edges_of ts fs) ≡ edges_of (map joined_tree ts) fs
edges_below ts [] = refl
edges_below ts (f ∷ fs) = ap₂ (edge f.inverted) (node f.source) (edges_below ts fs)
  where
    node : (s : Source) → joined_tree (node_of ts s) ≡ node_of (map joined_tree ts) s
    node (net n) = refl
    node (gate g) = sym (get_or-map joined_tree ts (g - 1) (leaf 0))

-- ---- a gate's fanins, joined, are the tree's

-- gate g stands among the gates `ds`, whose trees are `us`
pub record GateDraws (ds : List DrawnGate) (us : List Node) (g : ℕ) : Type 0 where
  pub tree : tree_at us g ≡ tree_for us (gate_at ds g)
  pub reads : Every (Before g) (fanin_gates (gate_at ds g).fanins)
  pub counted : FaninCount (gate_at ds g)

place_edges : (ds : List DrawnGate) (us : List Node) (k : Kind) (n : ℕ) (i : Bool) (s : Source) → Every (GateDraws ds us) (gate_of s) →
    edges_of us (fanins_in_place ds k n (record { inverted = i; source = s })) ≡ in_place k n i (node_of us s)
place_edges ds us k n i (net x) h = refl
place_edges ds us k n i (gate g) h =
    let lower = gate_at ds g in
    let es = edges_of us lower.fanins in
    let e = (every_head h).tree in
    let fits : ℕ → Bool = λ m. chained i k lower.kind && leb (n + m) most_fanins in
    by_test (λ b. edges_of us (cond b (map (turn_fanin i) lower.fanins) (record { inverted = i; source = gate g } ∷ [])) ≡ cond b (turned_over i es) (edge i (tree_at us g) none))
    (fits (length lower.fanins)) (λ t. edges_turned us i lower.fanins) (λ t. refl)
    ∙ (ap₂ (λ m t. cond (fits m) (turned_over i es) (edge i t none)) (sym (edges_count us lower.fanins)) e ∙ sym (ap (in_place k n i) e))

fanins_edges : (ds : List DrawnGate) (us : List Node) (k : Kind) (n : ℕ) (fs : List Fanin) → Every (GateDraws ds us) (fanin_gates fs) →
    edges_of us (joined_fanins ds k n fs) ≡ joined_from k n (edges_of us fs)
fanins_edges ds us k n [] h = refl
fanins_edges ds us k n (f ∷ fs) h =
    let own = every_left (gate_of f.source) (fanin_gates fs) h in
    let xs = fanins_in_place ds k (n + length fs) f in
    let es = edges_of us fs in
    let t = node_of us f.source in
    edges_append us xs (joined_fanins ds k (n + length xs) fs)
    ∙ (ap (◌then◌ (edges_of us xs)) (fanins_edges ds us k (n + length xs) fs (every_right (gate_of f.source) (fanin_gates fs) h))
    ∙ (ap (λ m. edges_of us xs then joined_from k (n + m) es) (sym (edges_count us xs))
    ∙ (ap (λ ys. ys then joined_from k (n + edge_count ys) es) (place_edges ds us k (n + length fs) f.inverted f.source own)
    ∙ ap (λ m. let ys = in_place k (n + m) f.inverted t in ys then joined_from k (n + edge_count ys) es) (sym (edges_count us fs)))))

-- ---- what a joined gate reads, and how many

fanins_every : (P : ℕ → Type 0) (ds : List DrawnGate) (k : Kind) (n : ℕ) (fs : List Fanin) →
    Every P (fanin_gates fs) → Every (λ g. Every P (fanin_gates (gate_at ds g).fanins)) (fanin_gates fs) → Every P (fanin_gates (joined_fanins ds k n fs))
fanins_every P ds k n fs h lower =
    every_left (fanin_gates (joined_fanins ds k n fs)) _
    (permuted_from (fanins_bring gate_of ds k n fs)
    (every_append (fanin_gates fs) _ h (every_gather (of_gate gate_of ds) (gone_into ds k n fs) (gone_every ds k n fs lower))))
  where
    every_gather : (f : ℕ → List ℕ) (xs : List ℕ) → Every (λ x. Every P (f x)) xs → Every P (gather f xs)
    every_gather f [] g = every_none _
    every_gather f (x ∷ xs) g = every_append (f x) (gather f xs) (every_head g) (every_gather f xs (every_tail g))

place_length : (ds : List DrawnGate) (k : Kind) (n : ℕ) (i : Bool) (s : Source) → Every (λ g. FaninCount (gate_at ds g)) (gate_of s) →
    1 ≤ length (fanins_in_place ds k n (record { inverted = i; source = s }))
place_length ds k n i (net x) h = omega arith
place_length ds k n i (gate g) h =
    let c = every_head h in
    by_test (λ b. 1 ≤ length (cond b (map (turn_fanin i) (gate_at ds g).fanins) (record { inverted = i; source = gate g } ∷ []))) (joins_source ds k n i (gate g))
    (λ t. omega (arith, length-map (gate_at ds g).fanins (turn_fanin i))) (λ t. omega arith)

fanins_length : (ds : List DrawnGate) (k : Kind) (n : ℕ) (fs : List Fanin) → Every (λ g. FaninCount (gate_at ds g)) (fanin_gates fs) →
    length fs ≤ length (joined_fanins ds k n fs)
fanins_length ds k n [] h = omega arith
fanins_length ds k n (f ∷ fs) h =
    let xs = fanins_in_place ds k (n + length fs) f in
    let rest = joined_fanins ds k (n + length xs) fs in
    omega (
      arith,
      length-append xs rest,
      place_length ds k (n + length fs) f.inverted f.source (every_left (gate_of f.source) (fanin_gates fs) h),
      fanins_length ds k (n + length xs) fs (every_right (gate_of f.source) (fanin_gates fs) h),
    )

-- ---- one gate more

abbrev pub GatesDraw : List DrawnGate → List Node → Type 0
GatesDraw ds us = (g : ℕ) → 1 ≤ g → g ≤ length ds → GateDraws ds us g

-- the gates stand also among more gates, whose trees are more
stands_more : (ds : List DrawnGate) (us : List Node) (x : DrawnGate) (t : Node) (g : ℕ) → length us ≡ length ds → 1 ≤ g → g ≤ length ds →
    GateDraws ds us g → GateDraws (ds ++ (x ∷ [])) (us ++ (t ∷ [])) g
stands_more ds us x t g e p l h =
    let same : gate_at (ds ++ (x ∷ [])) g ≡ gate_at ds g = get_or-append ds (x ∷ []) _ (g - 1) (omega arith) in
    let trees : (j : ℕ) → 1 ≤ j → j ≤ length ds → tree_at (us ++ (t ∷ [])) j ≡ tree_at us j = λ j q m. get_or-append us (t ∷ []) (leaf 0) (j - 1) (omega arith) in
    record {
      tree =
          trees g p l ∙ (h.tree ∙ (ap (Node.gate (gate_at ds g).kind) (edges_same us _ (gate_at ds g).fanins (λ j m. let b = h.reads j m in sym (trees j b.0 (omega arith))))
          ∙ ap (tree_for (us ++ (t ∷ []))) (sym same)));
      reads = subst (λ d. Every (Before g) (fanin_gates d.fanins)) (sym same) h.reads;
      counted = subst FaninCount (sym same) h.counted;
    }

-- and one more stands last, if it reads those before it
stands_last : (ds : List DrawnGate) (us : List Node) (x : DrawnGate) (g : ℕ) → length us ≡ length ds → g ≡ suc (length ds) →
    Every (Before g) (fanin_gates x.fanins) → FaninCount x → GateDraws (ds ++ (x ∷ [])) (us ++ (tree_for us x ∷ [])) g
stands_last ds us x g e l reads count =
    let same : gate_at (ds ++ (x ∷ [])) g ≡ x = get_or_at ds x [] _ (g - 1) (omega arith) in
    let us' = us ++ (tree_for us x ∷ []) in
    record {
      tree =
          get_or_at us (tree_for us x) [] (leaf 0) (g - 1) (omega arith)
          ∙ (ap (Node.gate x.kind) (edges_same us us' x.fanins (λ j m. let b = reads j m in sym (get_or-append us _ (leaf 0) (j - 1) (omega arith))))
          ∙ ap (tree_for us') (sym same));
      reads = subst (λ d. Every (Before g) (fanin_gates d.fanins)) (sym same) reads;
      counted = subst FaninCount (sym same) count;
    }

joined_count : (ds : List DrawnGate) (us : List Node) (g : DrawnGate) → Every (GateDraws ds us) (fanin_gates g.fanins) → FaninCount g → FaninCount (joined_gate ds g)
joined_count ds us g h c =
    let k = g.kind in
    let fs = g.fanins in
    let room = from_room k 0 (edges_of us fs) (omega (arith, edges_count us fs)) in (
      omega (arith, fanins_length ds k 0 fs (λ j m. (h j m).counted)),
      omega (arith, edges_count us (joined_fanins ds k 0 fs), ap edge_count (fanins_edges ds us k 0 fs h)),
    )

-- THE JOINED GATES DRAW THE JOINED TREES
pub joined_trees : (ds : List DrawnGate) (us ts : List Node) (gs : List DrawnGate) → us ≡ map joined_tree ts → length us ≡ length ds → GatesDraw ds us →
    Earlier (suc (length ds)) gs → Every FaninCount gs →
    (trees_of us (joined_gates ds gs) ≡ map joined_tree (trees_of ts gs)) × GatesDraw (ds ++ joined_gates ds gs) (trees_of us (joined_gates ds gs))
joined_trees ds us ts [] e l st h c = (e, subst (λ d. GatesDraw d us) (sym (append-nil ds)) st)
joined_trees ds us ts (g ∷ gs) e l st h c =
    let k = g.kind in
    let fs = g.fanins in
    let x = joined_gate ds g in
    let t : Node = tree_for us x in
    let now = ds ++ (x ∷ []) in
    let read : Every (GateDraws ds us) (fanin_gates fs) = λ j m. let b = h.0 j m in st j b.0 (omega arith) in
    let tree : t ≡ joined_tree (tree_for ts g) =
    ap (Node.gate k) (fanins_edges ds us k 0 fs read ∙ ap (joined_from k 0) (ap (λ l. edges_of l fs) e ∙ sym (edges_below ts fs))) in
    let reads : Every (Before (suc (length ds))) (fanin_gates x.fanins) =
    fanins_every (Before (suc (length ds))) ds k 0 fs h.0 (λ j m i n. let b = h.0 j m in let r = (read j m).reads i n in (r.0, omega arith)) in
    let count = joined_count ds us g read (every_head c) in
    let sizes : (length now ≡ suc (length ds)) × (length (us ++ (t ∷ [])) ≡ suc (length us)) =
    (omega (arith, length-append ds (x ∷ [])), omega (arith, length-append us (t ∷ []))) in
    let standing : GatesDraw now (us ++ (t ∷ [])) =
    λ j p m. by_leb (λ b. GateDraws now (us ++ (t ∷ [])) j) j (length ds)
    (λ q. stands_more ds us x t j l p q (st j p q))
    (λ q. let last : j ≡ suc (length ds) = omega arith in stands_last ds us x j l last (subst (λ n. Every (Before n) (fanin_gates x.fanins)) (sym last) reads) count) in
    let rest =
    joined_trees now (us ++ (t ∷ [])) (ts ++ (tree_for ts g ∷ [])) gs
    (ap₂ (λ l v. l ++ (v ∷ [])) e tree ∙ sym (map-append joined_tree ts (tree_for ts g ∷ []))) (omega arith) standing
    (subst (λ n. Earlier (suc n) gs) (sym sizes.0) h.1) (every_tail c) in
    (rest.0, subst (λ d. GatesDraw d (trees_of us (joined_gates ds (g ∷ gs)))) (append_assoc ds (x ∷ []) (joined_gates now gs)) rest.1)
