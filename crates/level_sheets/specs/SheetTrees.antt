-- The gates of a well-formed sheet, counted from 0: the tree of each, and which gate reads it.
use Rattle.std.specs.Prelude.{ℕ, zero, suc, ◌+◌, ◌-◌, ◌≤◌, ◌<◌, ◌≡◌, refl, Bool, List, [], ◌∷◌, ◌++◌, T, length, get_or, take, drop}
use Rattle.std.proofs.Common.{zero-add, arith, sym, ap, ◌∙◌, inl, inr, length-append, take-append-drop, get_or-append-add, length-take-le}
use Rattle.std.proofs.Math.Decide.{dec_lt}
use Rattle.std.proofs.Math.Logic.{by_cases}
use mathlib.Core.List.Memᴰ
use Rattle.std.proofs.Math.ListN.{get_or-append}
use Rattle.lists.specs.Trusted.Lists.{◌∈◌, first, later, Every, Distinct, gather, from}
use Rattle.lists.specs.Cases.{and_split}
use Rattle.lists.specs.ListLaws.{every_none, every_cons, every_at, every_append, permuted_to, permuted_from}
use Rattle.tree.specs.Trusted.Tree.{Node, leaf, gate, Edges, none, edge}
use Rattle.tree.specs.Measures.{leaves, leaves*, many, proper, propers}
use Rattle.sheet.specs.declared.Source.{Source}
use Rattle.sheet.specs.declared.Source.TheVariants.{Net, Gate}
use Rattle.sheet.specs.declared.Edge.{Edge}
use Rattle.sheet.specs.Trusted.Limits.{most_leaves}
use Rattle.sheet.specs.Trusted.Sheet.{DrawnGate, DrawnSheet, gate_of, fanin_gates, gates_read}
use Rattle.sheet.specs.Trusted.Trees.{tree_at, node_of, edges_of, trees_of, tree_of}
use Rattle.sheet.specs.Trusted.Formed.{WellFormed}
use Rattle.sheet.specs.NumberLaws.{distinct_left, distinct_right, distinct_apart}
use Rattle.sheet.specs.ReadLaws.{gates_distinct}
use Rattle.sheet.specs.PlaceLaws.{no_gate, no_edge, earlier_at}
use Rattle.sheet.specs.TreeLaws.{tree_proper, tree_for, gates_are, leaves_count}
use Rattle.sheet.specs.GateTrees.{gate_trees, gate_trees*}
use Rattle.joined.proofs.GateLaws.{edges_same}
use Rattle.levels.specs.Gives.{fanins}

-- ---- the fanins of a gate's tree

pub fanins_length : (ts : List Node) (fs : List Edge) → length (fanins (edges_of ts fs)) ≡ length fs
fanins_length ts [] = refl
fanins_length ts (f ∷ fs) = ap suc (fanins_length ts fs)

pub fanins_at_lem : (ts : List Node) (fs : List Edge) (h : ℕ) (z : Bool × Node) → h < length fs →
    get_or (fanins (edges_of ts fs)) h z ≡ ((get_or fs h no_edge).inverted, node_of ts (get_or fs h no_edge).source)
fanins_at_lem ts [] h z l = absurd (omega arith)
fanins_at_lem ts (f ∷ fs) zero z l = refl
fanins_at_lem ts (f ∷ fs) (suc h) z l = fanins_at_lem ts fs h z (omega arith)

-- ---- the tree of a gate

trees_before : (ts : List Node) (gs : List DrawnGate) (i : ℕ) → i < length ts → get_or (trees_of ts gs) i (leaf 0) ≡ get_or ts i (leaf 0)
trees_before ts [] i l = refl
trees_before ts (g ∷ gs) i l =
    trees_before (ts ++ (tree_for ts g ∷ [])) gs i (omega (arith, length-append ts (tree_for ts g ∷ []))) ∙ get_or-append ts (tree_for ts g ∷ []) (leaf 0) i l

trees_append : (ts : List Node) (gs hs : List DrawnGate) → trees_of ts (gs ++ hs) ≡ trees_of (trees_of ts gs) hs
trees_append ts [] hs = refl
trees_append ts (g ∷ gs) hs = trees_append (ts ++ (tree_for ts g ∷ [])) gs hs

trees_count : (ts : List Node) (gs : List DrawnGate) → length (trees_of ts gs) ≡ length ts + length gs
trees_count ts [] = omega arith
trees_count ts (g ∷ gs) = omega (arith, trees_count (ts ++ (tree_for ts g ∷ [])) gs, length-append ts (tree_for ts g ∷ []))

trees_at : (ts : List Node) (gs : List DrawnGate) (j : ℕ) → j < length gs →
    get_or (trees_of ts gs) (length ts + j) (leaf 0) ≡ tree_for (trees_of ts (take j gs)) (get_or gs j no_gate)
trees_at ts [] j l = absurd (omega arith)
trees_at ts (g ∷ gs) zero l =
    trees_before (ts ++ (tree_for ts g ∷ [])) gs (length ts + 0) (omega (arith, length-append ts (tree_for ts g ∷ []))) ∙ get_or-append-add ts (tree_for ts g ∷ []) 0 (leaf 0)
trees_at ts (g ∷ gs) (suc j) l =
    ap (λ i. get_or (trees_of (ts ++ (tree_for ts g ∷ [])) gs) i (leaf 0)) (let e : length ts + suc j ≡ length (ts ++ (tree_for ts g ∷ [])) + j = omega (arith, length-append ts (tree_for ts g ∷ [])) in e)
    ∙ trees_at (ts ++ (tree_for ts g ∷ [])) gs j (omega arith)

-- a gate in a tree is proper where the tree is, and has no more leaves
record Inside (t u : Node) : Type 0 where
  is_proper : T (proper u)
  few : length (leaves u) ≤ length (leaves t)

mutual
  gates_inside : (t : Node) → T (proper t) → Every (Inside t) (gate_trees t)
  gates_inside (leaf n) p = every_none _
  gates_inside (gate k es) p =
      every_cons (record { is_proper = p; few = omega arith })
      (λ u m. let i = edges_inside es (and_split (many es) (propers es) p).1 u m in record { is_proper = i.0; few = i.1 })

  edges_inside : (es : Edges) → T (propers es) → Every (λ u. T (proper u) × (length (leaves u) ≤ length (leaves* es))) (gate_trees* es)
  edges_inside none p = every_none _
  edges_inside (edge i t es) p =
      let q = and_split (proper t) (propers es) p in
      every_append (gate_trees t) (gate_trees* es)
      (λ u m. let i = gates_inside t q.0 u m in (i.is_proper, omega (arith, i.few, length-append (leaves t) (leaves* es))))
      (λ u m. let i = edges_inside es q.1 u m in (i.0, omega (arith, i.1, length-append (leaves t) (leaves* es))))

-- ---- what some gates read, and some fanins

module _ {A : Type 0} (f : A → List ℕ) (z : A) where
  gather_in : (xs : List A) {n : ℕ} → n ∈ gather f xs → (i : ℕ) × (i < length xs) × (n ∈ f (get_or xs i z))
  gather_in [] m = absurd (Memᴰ.not-nil m)
  gather_in (x ∷ xs) m =
      elim (Memᴰ.append_cases (f x) m) [
        | inl h ↦ (0, omega arith, h)
        | inr h ↦ let r = gather_in xs h in (suc r.0, omega (arith, r.1), r.2)
      ]

  pub gather_out : (xs : List A) (i : ℕ) {n : ℕ} → i < length xs → n ∈ f (get_or xs i z) → n ∈ gather f xs
  gather_out [] i l m = absurd (omega arith)
  gather_out (x ∷ xs) zero l m = Memᴰ.append_left (gather f xs) m
  gather_out (x ∷ xs) (suc i) l m = Memᴰ.append_right (f x) (gather_out xs i (omega arith) m)

  gather_each : (xs : List A) (i : ℕ) → Distinct (gather f xs) → i < length xs → Distinct (f (get_or xs i z))
  gather_each [] i d l = absurd (omega arith)
  gather_each (x ∷ xs) zero d l = distinct_left (f x) (gather f xs) d
  gather_each (x ∷ xs) (suc i) d l = gather_each xs i (distinct_right (f x) (gather f xs) d) (omega arith)

  -- one number is brought at one place
  gather_once : (xs : List A) (i j n : ℕ) → Distinct (gather f xs) → i < length xs → j < length xs → n ∈ f (get_or xs i z) → n ∈ f (get_or xs j z) → i ≡ j
  gather_once [] i j n d l m p q = absurd (omega arith)
  gather_once (x ∷ xs) zero zero n d l m p q = refl
  gather_once (x ∷ xs) zero (suc j) n d l m p q = absurd (distinct_apart (f x) (gather f xs) d n (gather_out xs j (omega arith) q) n p refl)
  gather_once (x ∷ xs) (suc i) zero n d l m p q = absurd (distinct_apart (f x) (gather f xs) d n (gather_out xs i (omega arith) p) n q refl)
  gather_once (x ∷ xs) (suc i) (suc j) n d l m p q = ap suc (gather_once xs i j n (distinct_right (f x) (gather f xs) d) (omega arith) (omega arith) p q)

source_in : (s : Source) (i : ℕ) → s ≡ Gate i → i ∈ gate_of s
source_in s i e = rw e (first refl)

in_source : (s : Source) (i : ℕ) → i ∈ gate_of s → s ≡ Gate i
in_source (Net n) i m = absurd (Memᴰ.not-nil m)
in_source (Gate g) i m = ap Gate (sym (Memᴰ.eq_of_singleton m))

-- ---- a well-formed sheet

-- the fanins of gate j, and its fanin h reads gate i, which like it is counted from 0
abbrev pub fanins_at : List DrawnGate → ℕ → List Edge
fanins_at gs j = (get_or gs j no_gate).fanins

pub record ReadsAt (gs : List DrawnGate) (j h i : ℕ) : Type 0 where
  pub gate : j < length gs
  pub fanin : h < length (fanins_at gs j)
  pub source : (get_or (fanins_at gs j) h no_edge).source ≡ Gate (suc i)

module _ (s : DrawnSheet) (w : WellFormed s) where
  abbrev trees : List Node
  trees = trees_of [] s.gates

  reads_in : {j h i : ℕ} → ReadsAt s.gates j h i → suc i ∈ fanin_gates (fanins_at s.gates j)
  reads_in {j} {h} {i} r = gather_out (λ f. gate_of f.source) no_edge (fanins_at s.gates j) h r.fanin (source_in _ (suc i) r.source)

  pub reads_before : {j h i : ℕ} → ReadsAt s.gates j h i → i < j
  reads_before {j} {h} {i} r = let b = earlier_at 1 s.gates j no_gate w.earlier r.gate (suc i) (reads_in r) in omega arith

  -- each gate is read at one place
  pub reads_once : {j h j' h' i : ℕ} → ReadsAt s.gates j h i → ReadsAt s.gates j' h' i → (j ≡ j') × (h ≡ h')
  reads_once {j} {h} {j'} {h'} {i} r q =
      let d = gates_distinct s w in
      let e : j ≡ j' = gather_once (λ g. fanin_gates g.fanins) no_gate s.gates j j' (suc i) d r.gate q.gate (reads_in r) (reads_in q) in
      let q' : ReadsAt s.gates j h' i = rw e q in (
        e,
        gather_once (λ f. gate_of f.source) no_edge (fanins_at s.gates j) h h' (suc i) (gather_each (λ g. fanin_gates g.fanins) no_gate s.gates j d r.gate) r.fanin
            q'.fanin (source_in _ (suc i) r.source) (source_in _ (suc i) q'.source),
      )

  -- and each but the last is read
  pub read_somewhere : (i : ℕ) → suc i < length s.gates → (j : ℕ) × (h : ℕ) × ReadsAt s.gates j h i
  read_somewhere i l =
      let (j, b, n) = gather_in (λ g. fanin_gates g.fanins) no_gate s.gates (is_read i l) in
      let (h, c, o) = gather_in (λ f. gate_of f.source) no_edge (fanins_at s.gates j) n in
      (j, h, record { gate = b; fanin = c; source = in_source _ (suc i) o })
    where
      in_from : (g n i : ℕ) → g ≤ i → i < g + n → i ∈ from g n
      in_from g zero i a b = absurd (omega arith)
      in_from g (suc n) i a b =
          by_cases (dec_lt g i) (λ q. later (in_from (suc g) n i (omega arith) (omega arith))) (λ q. first (omega arith))

      is_read : (i : ℕ) → suc i < length s.gates → suc i ∈ gates_read s.gates
      is_read i l = permuted_to {P = λ n. n ∈ gates_read s.gates} w.read_once (λ n q. q) (suc i) (in_from 1 (length s.gates - 1) (suc i) (omega arith) (omega arith))

  -- the tree of gate j
  pub gate_tree : (j : ℕ) → j < length s.gates → get_or trees j (leaf 0) ≡ gate (get_or s.gates j no_gate).kind (edges_of trees (fanins_at s.gates j))
  gate_tree j l =
      ap (λ i. get_or trees i (leaf 0)) (sym (zero-add j)) ∙ trees_at [] s.gates j l
      ∙ ap (gate (get_or s.gates j no_gate).kind) (edges_same (trees_of [] (take j s.gates)) trees (fanins_at s.gates j) same)
    where
      whole : trees ≡ trees_of (trees_of [] (take j s.gates)) (drop j s.gates)
      whole = ap (trees_of []) (sym (take-append-drop j s.gates)) ∙ trees_append [] (take j s.gates) (drop j s.gates)

      same : Every (λ g. tree_at (trees_of [] (take j s.gates)) g ≡ tree_at trees g) (fanin_gates (fanins_at s.gates j))
      same g m =
          let b = earlier_at 1 s.gates j no_gate w.earlier l g m in
          sym (ap (λ ts. tree_at ts g) whole
          ∙ trees_before (trees_of [] (take j s.gates)) (drop j s.gates) (g - 1)
          (omega (arith, trees_count [] (take j s.gates), length-take-le j s.gates (omega arith))))

  gate_inside : (j : ℕ) → j < length s.gates → Inside (tree_of s) (get_or trees j (leaf 0))
  gate_inside j l =
      every_at trees j (leaf 0) (permuted_from (gates_are s w) (gates_inside (tree_of s) (tree_proper s w))) (omega (arith, trees_count [] s.gates))

  pub gate_proper : (j : ℕ) → j < length s.gates → T (proper (get_or trees j (leaf 0)))
  gate_proper j l = (gate_inside j l).is_proper

  pub gate_leaves : (j : ℕ) → j < length s.gates → length (leaves (get_or trees j (leaf 0))) ≤ most_leaves
  gate_leaves j l = omega (arith, (gate_inside j l).few, leaves_count s w)
