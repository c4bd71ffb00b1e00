-- The tree of a sheet with one leaf more is the sheet's tree with one leaf more (`tree_more`).
-- By going through the gates in rising number: each gate but the root is read once, by a later one, so among the gates that are still to be read
-- there is at every moment one whose tree has the leaf more, and all others have the trees that they had.
use Rattle.std.specs.Prelude.{ℕ, suc, ◌+◌, ◌-◌, ◌<◌, ◌≡◌, refl, ◌≢◌, Bool, List, [], ◌∷◌, ◌++◌, length}
use Rattle.std.proofs.Common.{arith, sym, ap, ◌∙◌, subst, subst₂, length-append}
use mathlib.Core.List.Memᴰ
use Rattle.std.proofs.Math.ListN.{get_or-append}
use Rattle.std.proofs.lemmas.List.{get_or_at}
use Rattle.lists.specs.Trusted.Lists.{◌∈◌, Every, Distinct, Inserted, here, there}
use Rattle.lists.specs.ListLaws.{not_first, every_head, every_tail, every_left, every_right, inserted_from, permuted_to}
use Rattle.lists.specs.Cases.{by_eqb, by_leb}
use Rattle.lists.specs.TestLaws.{by_reflects, reflects_elem}
use Rattle.tree.specs.Trusted.Tree.{Node, leaf, edge}
use Rattle.sheet.specs.declared.Source.{Source}
use Rattle.sheet.specs.declared.Source.TheVariants.{Net as net, Gate as gate}
use Rattle.sheet.specs.declared.Edge.{Edge as Fanin}
use Rattle.sheet.specs.Trusted.Sheet.{DrawnGate, DrawnSheet, gate_of, fanin_gates, gates_read}
use Rattle.sheet.specs.Trusted.Trees.{tree_at, node_of, edges_of, trees_of, tree_of}
use Rattle.sheet.specs.Trusted.Formed.{Before, Earlier, WellFormed}
use Rattle.sheet.specs.NumberLaws.{drawn_out, distinct_left, distinct_right, distinct_apart, distinct_inserted, in_from}
use Rattle.sheet.specs.ReadLaws.{gates_distinct}
use Rattle.sheet.specs.TreeLaws.{tree_for}
use Rattle.joined.proofs.GateLaws.{edges_same}
use Rattle.one_more.specs.Trusted.OneMoreLeaf.{leaf_fanin, OneMoreFanin, at_gate, after, OneMoreLeaf}
use Rattle.one_more.specs.OneMore.{OneMore, grow, OneMore*, here as in_front, below, later as further}

-- ---- fanins

-- a leaf more among the fanins is a leaf more among the edges
leaf_edges : {i : Bool} {n : ℕ} {fs gs : List Fanin} (ts : List Node) → Inserted (leaf_fanin i n) gs fs →
    OneMore* (edges_of ts fs) (edges_of ts gs)
leaf_edges ts here = in_front
leaf_edges ts (there i) = further (leaf_edges ts i)

-- the trees that the gates named here have in two lists are the same
abbrev Same : List Node → List Node → List ℕ → Type 0
Same ts us = Every (λ j. tree_at ts j ≡ tree_at us j)

module _ (ts us : List Node) {c : ℕ} (more : OneMore (tree_at ts c) (tree_at us c)) where
  -- one of the fanins reads gate c, and the others read gates whose trees are the same
  fanin_edges : (b : Bool) (s : Source) (fs : List Fanin) {js : List ℕ} → Inserted c (gate_of s ++ fanin_gates fs) js → Same ts us js →
      ((ks : List ℕ) → Inserted c (fanin_gates fs) ks → Same ts us ks → OneMore* (edges_of ts fs) (edges_of us fs)) →
      OneMore* (edge b (node_of ts s) (edges_of ts fs)) (edge b (node_of us s) (edges_of us fs))
  fanin_edges b (net n) fs i e rest = further (rest _ i e)
  fanin_edges b (gate g) fs here e rest = subst (λ es. OneMore* (edge b (tree_at ts c) (edges_of ts fs)) (edge b (tree_at us c) es)) (edges_same ts us fs e) (below more)
  fanin_edges b (gate g) fs (there i) e rest =
      subst (λ t. OneMore* (edge b (tree_at ts g) (edges_of ts fs)) (edge b t (edges_of us fs))) (every_head e) (further (rest _ i (every_tail e)))

  reader_edges : (fs : List Fanin) {js : List ℕ} → Inserted c (fanin_gates fs) js → Same ts us js → OneMore* (edges_of ts fs) (edges_of us fs)
  reader_edges [] {js = js} i e = elim i [ ]
  reader_edges (f ∷ fs) i e = fanin_edges f.inverted f.source fs i e (λ js j h. reader_edges fs j h)

-- ---- one tree more

kept_at : (ts : List Node) (t : Node) {m j : ℕ} → length ts ≡ m → Before (suc m) j → tree_at (ts ++ (t ∷ [])) j ≡ tree_at ts j
kept_at ts t {j = j} e b = get_or-append ts (t ∷ []) (leaf 0) (j - 1) (omega arith)

new_tree : (ts : List Node) (t : Node) {m : ℕ} → length ts ≡ m → tree_at (ts ++ (t ∷ [])) (suc m) ≡ t
new_tree ts t {m} e = get_or_at ts t [] (leaf 0) (suc m - 1) (omega arith)

one_longer : (ts : List Node) (t : Node) {m : ℕ} → length ts ≡ m → length (ts ++ (t ∷ [])) ≡ suc m
one_longer ts t e = omega (arith, length-append ts (t ∷ []))

-- ---- the gates that are left

-- n gates in all, of which `gs` are those after the first m: each of them but the last is read by one of them, and they read no gate twice
record Left (m n : ℕ) (gs : List DrawnGate) : Type 0 where
  size : m + length gs ≡ n
  earlier : Earlier (suc m) gs
  once : Distinct (gates_read gs)
  all : (j : ℕ) → m < j → j < n → j ∈ gates_read gs

not_left : {a : ℕ} (xs : List ℕ) {ys : List ℕ} → Every (λ x. a ≢ x) xs → a ∈ xs ++ ys → a ∈ ys
not_left [] h m = m
not_left (x ∷ xs) h m = not_left xs (every_tail h) (not_first (every_head h) m)

-- the next gate and those after it are read by the gates after it
read_later : {m n : ℕ} {x : DrawnGate} {gs : List DrawnGate} → Left m n (x ∷ gs) → (j : ℕ) → m < j → j < n → j ∈ gates_read gs
read_later {x = x} h j l u = not_left (fanin_gates x.fanins) (λ i k. let b = h.earlier.0 i k in omega arith) (h.all j l u)

left_next : {m n : ℕ} {x : DrawnGate} {gs : List DrawnGate} → Left m n (x ∷ gs) → Left (suc m) n gs
left_next {x = x} h = record {
  size = omega (arith, h.size);
  earlier = h.earlier.1;
  once = distinct_right (fanin_gates x.fanins) _ h.once;
  all = λ j l u. read_later h j (omega arith) u;
}

next_read_lem : {m n : ℕ} {x : DrawnGate} {gs : List DrawnGate} → Left m n (x ∷ gs) → suc m ≢ n → suc m ∈ gates_read gs
next_read_lem {m} h d = read_later h (suc m) (omega arith) (omega (arith, h.size, d))

-- ---- the trees

-- two lists of the trees of the first m gates: gate c is to be read, if it is not the last, and its tree has one leaf more in the second list;
-- the other gates to be read have the same in both
record Grew (ts us : List Node) (m n c : ℕ) (reads : List ℕ) : Type 0 where
  sizes : (length ts ≡ m) × (length us ≡ m)
  place : Before (suc m) c
  more : OneMore (tree_at ts c) (tree_at us c)
  read : c ≢ n → c ∈ reads
  same : Every (λ j. j ≢ c → Before (suc m) j → tree_at ts j ≡ tree_at us j) reads

module _ {n : ℕ} where
  module _ {ts us : List Node} {m c : ℕ} {x : DrawnGate} {gs : List DrawnGate} (l : Left m n (x ∷ gs)) (g : Grew ts us m n c (gates_read (x ∷ gs))) where
    abbrev reads : List ℕ
    reads = fanin_gates x.fanins

    -- a gate that is to be read, and is not gate c, has the same tree in both lists with the next gate's trees too: that gate itself, if they are the same
    next_same : (t u : Node) (j : ℕ) → j ∈ gates_read gs → j ≢ c → Before (suc (suc m)) j → (j ≡ suc m → t ≡ u) → tree_at (ts ++ (t ∷ [])) j ≡ tree_at (us ++ (u ∷ [])) j
    next_same t u j k d b e =
        by_leb (λ h. tree_at (ts ++ (t ∷ [])) j ≡ tree_at (us ++ (u ∷ [])) j) j m
        (λ h. kept_at ts t g.sizes.0 (omega arith) ∙ (every_right reads (gates_read gs) g.same j k d (omega arith) ∙ sym (kept_at us u g.sizes.1 (omega arith))))
        (λ h. let p : j ≡ suc m = omega arith in
        ap (tree_at (ts ++ (t ∷ []))) p ∙ (new_tree ts t g.sizes.0 ∙ (e p ∙ (sym (new_tree us u g.sizes.1) ∙ ap (tree_at (us ++ (u ∷ []))) (sym p)))))

    -- the next gate reads gate c: then its tree has the leaf more
    by_reader : c ∈ reads → Grew (ts ++ (tree_for ts x ∷ [])) (us ++ (tree_for us x ∷ [])) (suc m) n (suc m) (gates_read gs)
    by_reader r =
        let q = drawn_out r in
        let once = distinct_left reads (gates_read gs) l.once in
        let others : Same ts us q.0 =
        λ j k. every_tail (inserted_from q.1 (every_left reads (gates_read gs) g.same)) j k
        (λ e. (distinct_inserted q.1 once).0 j k (sym e)) (every_tail (inserted_from q.1 l.earlier.0) j k) in
        let now : OneMore (tree_for ts x) (tree_for us x) = grow (reader_edges ts us g.more x.fanins q.1 others) in
        record {
          sizes = (one_longer ts _ g.sizes.0, one_longer us _ g.sizes.1);
          place = omega arith;
          more = subst₂ OneMore (sym (new_tree ts _ g.sizes.0)) (sym (new_tree us _ g.sizes.1)) now;
          read = next_read_lem l;
          same = λ j k d b. next_same _ _ j k (λ e. distinct_apart reads (gates_read gs) l.once j k c r e) b (λ e. absurd (d e));
        }

    -- it does not: then its tree is the same
    by_other : Every (λ j. c ≢ j) reads → Grew (ts ++ (tree_for ts x ∷ [])) (us ++ (tree_for us x ∷ [])) (suc m) n c (gates_read gs)
    by_other r =
        let own : Same ts us reads = λ j k. every_left reads (gates_read gs) g.same j k (λ e. r j k (sym e)) (l.earlier.0 j k) in
        let equal : tree_for ts x ≡ tree_for us x = ap (Node.gate x.kind) (edges_same ts us x.fanins own) in
        record {
          sizes = (one_longer ts _ g.sizes.0, one_longer us _ g.sizes.1);
          place = omega (arith, g.place);
          more = subst₂ OneMore (sym (kept_at ts _ g.sizes.0 g.place)) (sym (kept_at us _ g.sizes.1 g.place)) g.more;
          read = λ d. not_left reads r (g.read d);
          same = λ j k d b. next_same _ _ j k d b (λ e. equal);
        }

  grown_root : (ts us : List Node) (m c : ℕ) (gs : List DrawnGate) → Left m n gs → Grew ts us m n c (gates_read gs) →
      OneMore (tree_at (trees_of ts gs) n) (tree_at (trees_of us gs) n)
  grown_root ts us m c [] l g =
      by_eqb (λ b. OneMore (tree_at ts n) (tree_at us n)) c n (λ e. subst (λ j. OneMore (tree_at ts j) (tree_at us j)) e g.more) (λ d. absurd (Memᴰ.not-nil (g.read d)))
  grown_root ts us m c (x ∷ gs) l g =
      by_reflects (λ b. OneMore (tree_at (trees_of ts (x ∷ gs)) n) (tree_at (trees_of us (x ∷ gs)) n)) (reflects_elem c (fanin_gates x.fanins))
      (λ r. grown_root (ts ++ tree_for ts x ∷ []) _ (suc m) (suc m) gs (left_next l) (by_reader l g r))
      (λ r. grown_root _ _ (suc m) c gs (left_next l) (by_other l g (λ j k e. r (subst (λ i. i ∈ fanin_gates x.fanins) (sym e) k))))

  module _ {i : Bool} {a : ℕ} where
    grown_trees : (ts : List Node) (m : ℕ) {gs hs : List DrawnGate} → length ts ≡ m → Left m n gs → OneMoreFanin (leaf_fanin i a) gs hs →
        OneMore (tree_at (trees_of ts gs) n) (tree_at (trees_of ts hs) n)
    grown_trees ts m e l (after {x = x} o) = grown_trees (ts ++ (tree_for ts x ∷ [])) (suc m) (one_longer ts _ e) (left_next l) o
    grown_trees ts m e l (at_gate {k = k} {fs = fs} {gs = gs} {xs = xs} few f) =
        grown_root _ _ (suc m) (suc m) xs (left_next l) (record {
          sizes = (one_longer ts _ e, one_longer ts _ e);
          place = omega arith;
          more = subst₂ OneMore (sym (new_tree ts _ e)) (sym (new_tree ts _ e)) (grow (leaf_edges ts f));
          read = next_read_lem l;
          same = λ j k d b. kept_at ts _ e (omega arith) ∙ sym (kept_at ts _ e (omega arith));
        })

all_left : (s : DrawnSheet) → WellFormed s → Left 0 (length s.gates) s.gates
all_left s w = record {
  size = omega arith;
  earlier = w.earlier;
  once = gates_distinct s w;
  all = λ j a b. permuted_to {P = λ i. i ∈ gates_read s.gates} w.read_once (λ i k. k) j (in_from 1 (length s.gates - 1) j (omega arith) (omega arith));
}

-- as many gates
pub more_gates : {f : Fanin} {gs hs : List DrawnGate} → OneMoreFanin f gs hs → length hs ≡ length gs
more_gates (at_gate l i) = refl
more_gates (after o) = ap suc (more_gates o)

-- THE SHEET'S TREE HAS ONE LEAF MORE
pub tree_more : (s s' : DrawnSheet) → WellFormed s → OneMoreLeaf s s' → OneMore (tree_of s) (tree_of s')
tree_more s s' w o =
    subst (λ n. OneMore (tree_of s) (tree_at (trees_of [] s'.gates) n)) (sym (more_gates o.gates)) (grown_trees [] 0 refl (all_left s w) o.gates)
