-- The tree of a well formed sheet: each gate has two fanins or more, and it holds the nets and the gates of the sheet, each once.
use Rattle.std.specs.Prelude.{ℕ, zero, suc, ◌+◌, ◌-◌, ◌≤◌, ◌<◌, ◌≡◌, refl, List, [], ◌∷◌, ◌++◌, length, get_or, T}
use Rattle.std.proofs.Common.{arith, sym, ap, ap₂, ◌∙◌, subst, append_assoc, append-nil, length-append, get_or-append-add}
use Rattle.std.proofs.Math.ListN.{get_or-append}
use Rattle.lists.specs.Trusted.Lists.{Every, Inserted, here, there, Permuted, empty, more, gather, from}
use Rattle.lists.specs.Cases.{and_both}
use Rattle.lists.specs.ListLaws.{every_none, every_cons, every_head, every_tail, every_append, gather_append, permuted_refl, permuted_insert, permuted_sym, permuted_trans, permuted_append, permuted_swap, permuted_to, permuted_length, gather_permuted, gather_same, interchange}
use Rattle.tree.specs.Trusted.Limits.{code_base}
use Rattle.lists.specs.Trusted.Checked.{passed}
use Rattle.tree.specs.declared.Kind.{Kind}
use Rattle.tree.specs.Trusted.Tree.{Node, leaf, Edges}
use Rattle.tree.specs.Measures.{many, proper, propers}
use Rattle.tree.specs.Measures.{leaves, leaves*}
use Rattle.sheet.specs.Trusted.Limits.{most_leaves}
use Rattle.sheet.specs.declared.Source.{Source}
use Rattle.sheet.specs.declared.Source.TheVariants.{Net as net, Gate as gate}
use Rattle.sheet.specs.declared.Edge.{Edge as Fanin}
use Rattle.sheet.specs.Trusted.Sheet.{DrawnGate, DrawnSheet, net_of, gate_of, fanin_nets, fanin_gates, leaf_nets, gates_read}
use Rattle.sheet.specs.Trusted.Read.{read_sheet}
use Rattle.sheet.specs.ReadLaws.{read_formed}
use Rattle.sheet.specs.NumberLaws.{distinct_permuted}
use Rattle.sheet.specs.Trusted.Trees.{tree_at, node_of, edges_of, trees_of, tree_of}
use Rattle.sheet.specs.Drawn.{drawn}
use Rattle.sheet.specs.GateTrees.{gate_trees, gate_trees*}
use Rattle.sheet.specs.Trusted.Formed.{FaninCount, Earlier, WellFormed}
use Rattle.cover.specs.Legal.{Legal}

-- ---- another order, without what the two have in common

module _ {A : Type 0} where
  drawn_first : {x y : A} {zs ws : List A} → x ≡ y → Inserted x (y ∷ zs) ws → Permuted zs ws
  drawn_first e here = permuted_refl _
  drawn_first {zs = zs} e (there {ys = ys} i) = subst (λ y. Permuted zs (y ∷ ys)) e (permuted_insert i (permuted_refl _))

  without_first : {x y : A} {xs ys : List A} → x ≡ y → Permuted (x ∷ xs) (y ∷ ys) → Permuted xs ys
  without_first e (more i p) = permuted_trans p (permuted_sym (drawn_first e i))

  pub without : (xs : List A) {ys zs : List A} → Permuted (xs ++ ys) (xs ++ zs) → Permuted ys zs
  without [] p = p
  without (x ∷ xs) p = without xs (without_first refl p)

-- ---- each gate has two fanins or more

at_proper : (ts : List Node) (i : ℕ) → Every (λ t. T (proper t)) ts → T (proper (get_or ts i (leaf 0)))
at_proper [] i h = tt
at_proper (t ∷ ts) zero h = every_head h
at_proper (t ∷ ts) (suc i) h = at_proper ts i (every_tail h)

node_proper : (ts : List Node) (s : Source) → Every (λ t. T (proper t)) ts → T (proper (node_of ts s))
node_proper ts (net n) h = tt
node_proper ts (gate g) h = at_proper ts (g - 1) h

edges_proper : (ts : List Node) (fs : List Fanin) → Every (λ t. T (proper t)) ts → T (propers (edges_of ts fs))
edges_proper ts [] h = tt
edges_proper ts (f ∷ fs) h = and_both (proper (node_of ts f.source)) _ (node_proper ts f.source h) (edges_proper ts fs h)

edges_many : (ts : List Node) (fs : List Fanin) → 2 ≤ length fs → T (many (edges_of ts fs))
edges_many ts [] l = absurd (omega arith)
edges_many ts (f ∷ []) l = absurd (omega arith)
edges_many ts (f ∷ g ∷ fs) l = tt

trees_proper : (ts : List Node) (gs : List DrawnGate) → Every FaninCount gs → Every (λ t. T (proper t)) ts → Every (λ t. T (proper t)) (trees_of ts gs)
trees_proper ts [] c h = h
trees_proper ts (g ∷ gs) c h =
    trees_proper (ts ++ (Node.gate g.kind (edges_of ts g.fanins) ∷ [])) gs (every_tail c)
    (every_append ts _ h (every_cons (and_both (many (edges_of ts g.fanins)) _ (edges_many ts g.fanins (every_head c).0) (edges_proper ts g.fanins h)) (every_none _)))

pub tree_proper : (s : DrawnSheet) → WellFormed s → T (proper (tree_of s))
tree_proper s w = at_proper (trees_of [] s.gates) (length s.gates - 1) (trees_proper [] s.gates w.fanin_counts (every_none _))

-- ---- the trees by their places

-- the trees of the gates alone, where `ts` are those of the gates before them
abbrev new_trees : List Node → List DrawnGate → List Node
new_trees ts [] = []
new_trees ts (g ∷ gs) = let t = Node.gate g.kind (edges_of ts g.fanins) in t ∷ new_trees (ts ++ (t ∷ [])) gs

trees_split : (ts : List Node) (gs : List DrawnGate) → trees_of ts gs ≡ ts ++ new_trees ts gs
trees_split ts [] = sym (append-nil ts)
trees_split ts (g ∷ gs) = trees_split (ts ++ _) gs ∙ append_assoc ts _ _

new_length : (ts : List Node) (gs : List DrawnGate) → length (new_trees ts gs) ≡ length gs
new_length ts [] = refl
new_length ts (g ∷ gs) = ap suc (new_length (ts ++ (Node.gate g.kind (edges_of ts g.fanins) ∷ [])) gs)

-- one more at the end
end_length : (ts : List Node) (t : Node) → length (ts ++ (t ∷ [])) ≡ suc (length ts)
end_length ts t = omega (arith, length-append ts (t ∷ []))

at_end : (us : List Node) (t : Node) (ts : List Node) → tree_at (us ++ (t ∷ ts)) (suc (length us)) ≡ t
at_end us t ts =
    ap (λ i. get_or (us ++ (t ∷ ts)) i (leaf 0)) (let h : suc (length us) - 1 ≡ length us + 0 = omega arith in h) ∙ get_or-append-add us (t ∷ ts) 0 (leaf 0)

pub from_end : (g n : ℕ) → from g (suc n) ≡ from g n ++ ((g + n) ∷ [])
from_end g zero = ap (λ m. m ∷ []) (omega arith)
from_end g (suc n) = ap (λ l. g ∷ l) (from_end (suc g) n ∙ ap (λ m. from (suc g) n ++ (m ∷ [])) (omega arith))

-- ---- what a tree holds: what the gates in it bring, each once

abbrev pub tree_for : List Node → DrawnGate → Node
tree_for ts g = Node.gate g.kind (edges_of ts g.fanins)

-- a gate's tree holds what the gate brings, and what the trees of the gates that it reads hold
module _ {A : Type 0} (held : Node → List A) (brings : List Node → DrawnGate → List A)
    (law : (ts : List Node) (g : DrawnGate) → Permuted (held (tree_for ts g)) (brings ts g ++ gather (λ j. held (tree_at ts j)) (fanin_gates g.fanins))) where
  abbrev held_at : List Node → ℕ → List A
  held_at ts j = held (tree_at ts j)

  abbrev brought : List Node → List DrawnGate → List A
  brought ts [] = []
  brought ts (g ∷ gs) = brings ts g ++ brought (ts ++ (tree_for ts g ∷ [])) gs

  in_order : (us ts all : List Node) → us ++ ts ≡ all → gather held ts ≡ gather (held_at all) (from (suc (length us)) (length ts))
  in_order us [] all e = refl
  in_order us (t ∷ ts) all e =
      ap₂ ◌++◌ (ap held (sym (at_end us t ts) ∙ ap (λ l. tree_at l (suc (length us))) e))
      (in_order (us ++ (t ∷ [])) ts all (append_assoc us (t ∷ []) ts ∙ e) ∙ ap (λ n. gather (held_at all) (from (suc n) (length ts))) (end_length us t))

  -- all trees together hold what the gates bring, and once more what those of each gate that is read hold
  new_held : (ts : List Node) (gs : List DrawnGate) (all : List Node) → ts ++ new_trees ts gs ≡ all → Earlier (suc (length ts)) gs →
      Permuted (gather held (new_trees ts gs)) (brought ts gs ++ gather (held_at all) (gates_read gs))
  new_held ts [] all e h = empty
  new_held ts (g ∷ gs) all e h =
      let t : Node = tree_for ts g in
      let reads : List ℕ = fanin_gates g.fanins in
      let kept : gather (held_at ts) reads ≡ gather (held_at all) reads =
      gather_same (held_at ts) (held_at all) reads
      (λ j m. let b = h.0 j m in ap held (sym (get_or-append ts (new_trees ts (g ∷ gs)) (leaf 0) (j - 1) (omega arith)) ∙ ap (λ l. tree_at l j) e)) in
      let here = subst (λ l. Permuted (held t) (brings ts g ++ l)) kept (law ts g) in
      let rest = new_held (ts ++ (t ∷ [])) gs all (append_assoc ts (t ∷ []) _ ∙ e) (subst (λ n. Earlier (suc n) gs) (sym (end_length ts t)) h.1) in
      rw (gather_append (held_at all) reads (gates_read gs))
      (permuted_trans (permuted_append here rest)
      (interchange (brings ts g) (gather (held_at all) reads) (brought (ts ++ (t ∷ [])) gs) (gather (held_at all) (gates_read gs))))

  -- the root's stands last
  root_last : (gs : List DrawnGate) (all : List Node) → trees_of [] gs ≡ all → 1 ≤ length gs →
      gather held (new_trees [] gs) ≡ gather (held_at all) (from 1 (length gs - 1)) ++ (held_at all (length gs) ++ [])
  root_last gs all e l =
      let m = length gs - 1 in
      let f = held_at all in
      in_order [] (new_trees [] gs) all (sym (trees_split [] gs) ∙ e)
      ∙ (ap (λ n. gather f (from 1 n)) (let h : length (new_trees [] gs) ≡ suc m = omega (arith, new_length [] gs) in h)
      ∙ (ap (gather f) (from_end 1 m)
      ∙ (gather_append f (from 1 m) ((1 + m) ∷ [])
      ∙ ap (λ k. gather f (from 1 m) ++ (f k ++ [])) (let h : 1 + m ≡ length gs = omega arith in h))))

  -- what each gate but the root holds is above on and_both sides
  root_held_lem : (gs : List DrawnGate) (all : List Node) → trees_of [] gs ≡ all → 1 ≤ length gs → Earlier 1 gs → Permuted (gates_read gs) (from 1 (length gs - 1)) →
      Permuted (brought [] gs) (held_at all (length gs))
  root_held_lem gs all e l h r =
      let f = held_at all in
      let own = brought [] gs in
      let below = gather f (from 1 (length gs - 1)) in
      let root = f (length gs) in
      let p : Permuted (below ++ (root ++ [])) (own ++ gather f (gates_read gs)) =
      subst (λ l. Permuted l (own ++ gather f (gates_read gs))) (root_last gs all e l) (new_held [] gs all (sym (trees_split [] gs) ∙ e) h) in
      let q : Permuted (own ++ below) (below ++ (root ++ [])) =
      permuted_trans (permuted_append (permuted_refl own) (permuted_sym (gather_permuted f r))) (permuted_sym p) in
      let s : Permuted (below ++ (own ++ [])) (below ++ (root ++ [])) =
      permuted_trans (permuted_swap below own []) (subst (λ l. Permuted (own ++ l) (below ++ (root ++ []))) (sym (append-nil below)) q) in
      simp append-nil at (without below {ys = own ++ []} {zs = root ++ []} s)

  pub sheet_held : (s : DrawnSheet) → WellFormed s → Permuted (brought [] s.gates) (held (tree_of s))
  sheet_held s w = root_held_lem s.gates (trees_of [] s.gates) refl w.gate_count.0 w.earlier w.read_once

-- ---- leaves

abbrev leaves_at : List Node → ℕ → List ℕ
leaves_at ts j = leaves (tree_at ts j)

node_leaves : (ts : List Node) (s : Source) → leaves (node_of ts s) ≡ net_of s ++ gather (leaves_at ts) (gate_of s)
node_leaves ts (net n) = refl
node_leaves ts (gate g) = sym (append-nil _)

edges_leaves : (ts : List Node) (fs : List Fanin) → Permuted (leaves* (edges_of ts fs)) (fanin_nets fs ++ gather (leaves_at ts) (fanin_gates fs))
edges_leaves ts [] = empty
edges_leaves ts (f ∷ fs) =
    rw (node_leaves ts f.source, gather_append (leaves_at ts) (gate_of f.source) (fanin_gates fs))
    (permuted_trans (permuted_append (permuted_refl (net_of f.source ++ gather (leaves_at ts) (gate_of f.source))) (edges_leaves ts fs)) (interchange (net_of f.source) (gather (leaves_at ts) (gate_of f.source)) (fanin_nets fs) (gather (leaves_at ts) (fanin_gates fs))))

abbrev gate_nets : List Node → DrawnGate → List ℕ
gate_nets ts g = fanin_nets g.fanins

nets_brought : (ts : List Node) (gs : List DrawnGate) → brought leaves gate_nets (λ us g. edges_leaves us g.fanins) ts gs ≡ leaf_nets gs
nets_brought ts [] = refl
nets_brought ts (g ∷ gs) = ap (λ l. fanin_nets g.fanins ++ l) (nets_brought (ts ++ (tree_for ts g ∷ [])) gs)

-- THE TREE'S LEAVES ARE THE NETS OF THE SHEET, EACH ONCE
pub leaves_are : (s : DrawnSheet) → WellFormed s → Permuted (leaf_nets s.gates) (leaves (tree_of s))
leaves_are s w =
    subst (λ l. Permuted l (leaves (tree_of s))) (nets_brought [] s.gates) (sheet_held leaves gate_nets (λ us g. edges_leaves us g.fanins) s w)

-- ---- gates

node_gates : (ts : List Node) (s : Source) → gate_trees (node_of ts s) ≡ gather (λ j. gate_trees (tree_at ts j)) (gate_of s)
node_gates ts (net n) = refl
node_gates ts (gate g) = sym (append-nil _)

edges_gates : (ts : List Node) (fs : List Fanin) → gate_trees* (edges_of ts fs) ≡ gather (λ j. gate_trees (tree_at ts j)) (fanin_gates fs)
edges_gates ts [] = refl
edges_gates ts (f ∷ fs) =
    ap₂ ◌++◌ (node_gates ts f.source) (edges_gates ts fs) ∙ sym (gather_append (λ j. gate_trees (tree_at ts j)) (gate_of f.source) (fanin_gates fs))

abbrev gate_itself : List Node → DrawnGate → List Node
gate_itself ts g = tree_for ts g ∷ []

gate_law : (ts : List Node) (g : DrawnGate) →
    Permuted (gate_trees (tree_for ts g)) (gate_itself ts g ++ gather (λ j. gate_trees (tree_at ts j)) (fanin_gates g.fanins))
gate_law ts g = subst (λ l. Permuted (gate_trees (tree_for ts g)) (tree_for ts g ∷ l)) (edges_gates ts g.fanins) (permuted_refl _)

gates_brought : (ts : List Node) (gs : List DrawnGate) → brought gate_trees gate_itself gate_law ts gs ≡ new_trees ts gs
gates_brought ts [] = refl
gates_brought ts (g ∷ gs) = ap (λ l. tree_for ts g ∷ l) (gates_brought (ts ++ (tree_for ts g ∷ [])) gs)

-- THE GATES IN THE TREE ARE THOSE OF THE SHEET, EACH ONCE
pub gates_are : (s : DrawnSheet) → WellFormed s → Permuted (trees_of [] s.gates) (gate_trees (tree_of s))
gates_are s w =
    subst (λ l. Permuted l (gate_trees (tree_of s))) (gates_brought [] s.gates ∙ sym (trees_split [] s.gates)) (sheet_held gate_trees gate_itself gate_law s w)

-- ---- the root

every_at : {P : Node → Type 0} (ts : List Node) (i : ℕ) (t : Node) → Every P ts → i < length ts → P (get_or ts i t)
every_at [] i t h l = absurd (omega arith)
every_at (u ∷ ts) zero t h l = every_head h
every_at (u ∷ ts) (suc i) t h l = every_at ts i t (every_tail h) (omega arith)

abbrev IsGate : Node → Type 0
IsGate t = (k : Kind) × (es : Edges) × (t ≡ Node.gate k es)

new_gates_lem : (ts : List Node) (gs : List DrawnGate) → Every IsGate (new_trees ts gs)
new_gates_lem ts [] = every_none _
new_gates_lem ts (g ∷ gs) = every_cons (g.kind, edges_of ts g.fanins, refl) (new_gates_lem (ts ++ (tree_for ts g ∷ [])) gs)

pub root_gate : (s : DrawnSheet) → WellFormed s → (k : Kind) × (es : Edges) × (tree_of s ≡ Node.gate k es)
root_gate s w =
    let c = w.gate_count.0 in
    subst (λ ts. IsGate (tree_at ts (length s.gates))) (sym (trees_split [] s.gates))
    (every_at {P = IsGate} (new_trees [] s.gates) (length s.gates - 1) (leaf 0) (new_gates_lem [] s.gates) (omega (arith, new_length [] s.gates)))

-- ---- the sheet as the theory has it

pub leaves_count : (s : DrawnSheet) → WellFormed s → length (leaves (tree_of s)) ≤ most_leaves
leaves_count s w = omega (arith, permuted_length (leaves_are s w), w.leaf_count_lem)

-- A WELL FORMED SHEET IS LEGAL
drawn_legal : (s : DrawnSheet) → WellFormed s → Legal code_base (drawn s)
drawn_legal s w = record {
  out_net = omega (arith, w.out_net);
  leaf_nets_lem = permuted_to (leaves_are s w) (λ x m. let n = w.leaf_nets_lem x m in (omega arith, omega arith, n.2));
  leaf_once = distinct_permuted (leaves_are s w) w.leaf_once;
}

-- ---- and from the text on

pub record Drawn (s : DrawnSheet) : Type 0 where
  pub formed : WellFormed s
  pub is_proper : T (proper (tree_of s))
  pub root : (k : Kind) × (es : Edges) × (tree_of s ≡ Node.gate k es)
  pub legal : Legal code_base (drawn s)
  pub few : length (leaves (tree_of s)) ≤ most_leaves
  pub leaves_once : Permuted (leaf_nets s.gates) (leaves (tree_of s))
  pub gates_once : Permuted (trees_of [] s.gates) (gate_trees (tree_of s))

pub read_drawn : (text : List ℕ) (s : DrawnSheet) → read_sheet text ≡ passed s → Drawn s
read_drawn text s e =
    let w = read_formed text s e in
    record { formed = w; is_proper = tree_proper s w; root = root_gate s w; legal = drawn_legal s w; few = leaves_count s w; leaves_once = leaves_are s w; gates_once = gates_are s w }
