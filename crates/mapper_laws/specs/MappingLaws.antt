-- A sheet mapped gate by gate, each by some plan, has the tables of a cover.
use Rattle.std.specs.Prelude.{ℕ, zero, suc, ◌+◌, ◌-◌, ◌≤◌, ◌<◌, ◌≡◌, refl, Bool, false, List, [], ◌∷◌, ◌++◌, length, get_or}
use Rattle.std.proofs.Common.{arith, sym, ap, ap₂, ◌∙◌, subst, append_assoc, append-nil, length-append, get_or-append-add}
use Rattle.std.proofs.lemmas.List.{length-map}
use Rattle.std.proofs.Math.ListN.{get_or-append}
use Rattle.lists.specs.Trusted.Lists.{Every, Distinct, Permuted, gather, from, sum}
use Rattle.lists.specs.Sequences.{Paired, no_pair, pair, upto}
use Rattle.lists.specs.ListLaws.{every_none, every_cons, every_head, every_at, every_append, every_left, every_right, permuted_refl, permuted_sym, permuted_trans, permuted_append, permuted_swap, permuted_length, gather_append, gather_permuted, gather_same, interchange}
use Rattle.lists.specs.MixLaws.{paired_append}
use Rattle.lists.specs.NumberLaws.{sum_append, sum_same, sum_none}
use Rattle.tree.specs.declared.Kind.{Kind}
use Rattle.tree.specs.Trusted.Tree.{Node, leaf, gate}
use Rattle.tree.specs.Measures.{leaves, leaves*}
use Rattle.plan.specs.declared.Key.{Key}
use Rattle.plan.specs.declared.Token.{Token}
use Rattle.plan.specs.Key.{leaf_key}
use Rattle.cover.specs.Trusted.Cover.{net, top, split}
use Rattle.cover.specs.Nets.{split_nets}
use Rattle.cover.specs.Trusted.Tables.{LookupTable, Placed, numbered}
use Rattle.cover.specs.Eval.{numbered_append, numbered_length}
use Rattle.cover.proofs.Size.{records_length*}
use Rattle.plan.specs.Volume.{fewest_leaves}
use Rattle.cover.specs.Trusted.Placed.{gate_table}
use Rattle.plan.specs.Plans.{Planned, drawn, Standing, Ready, ready_none, ready_edge}
use Rattle.plan.specs.PlanLaws.{net_standing, body_standing, body_cover}
use Rattle.plan.specs.Placings.{inner}
use Rattle.sheet.specs.declared.Source.{Source}
use Rattle.sheet.specs.declared.Source.TheVariants.{Net, Gate}
use Rattle.sheet.specs.declared.Edge.{Edge}
use Rattle.sheet.specs.Trusted.Sheet.{DrawnGate, DrawnSheet, net_of, gate_of, fanin_nets, fanin_gates, leaf_nets, gates_read}
use Rattle.sheet.specs.Trusted.Trees.{node_of, edges_of, trees_of, tree_of}
use Rattle.sheet.specs.Drawn.{drawn as drawn_sheet}
use Rattle.sheet.specs.Trusted.Formed.{WellFormed}
use Rattle.sheet.specs.TreeLaws.{without, from_end}
use Rattle.pending.specs.Operands.{single}
use Rattle.mapper_laws.specs.Mapping.{GatesMapped, unmapped, mapped_at, leaf_count, Stood, key_of, source_cover, keys_of, covers_of, Low, held_table, inner_of, source_table, operands_of, Progress, NextGate, CoveredBy}
use Rattle.mapper_laws.specs.CountLaws.{mapped_sums, stood_leaves, held_width, inner_count, stood_count, stood_counts, staged_count}
use Rattle.mapper_laws.specs.RunLaws.{single_is, Shows, Gated, gated}

pub paired_at : {A B : Type 0} {R : A → B → Type 0} {xs : List A} {ys : List B} (a : A) (b : B) → Paired R xs ys → (i : ℕ) → i < length ys → R (get_or xs i a) (get_or ys i b)
paired_at a b no_pair i l = absurd (omega arith)
paired_at a b (pair r p) zero l = r
paired_at a b (pair r p) (suc i) l = paired_at a b p i (omega arith)

pub paired_length : {A B : Type 0} {R : A → B → Type 0} {xs : List A} {ys : List B} → Paired R xs ys → length xs ≡ length ys
paired_length no_pair = refl
paired_length (pair r p) = ap suc (paired_length p)

pub trees_end : (ts : List Node) (gs : List DrawnGate) (g : DrawnGate) → trees_of ts (gs ++ (g ∷ [])) ≡ trees_of ts gs ++ (gate g.kind (edges_of (trees_of ts gs) g.fanins) ∷ [])
trees_end ts [] g = refl
trees_end ts (x ∷ gs) g = trees_end (ts ++ gate x.kind (edges_of ts x.fanins) ∷ []) gs g

-- the gates that some fanins read were mapped
abbrev AreMapped : List GatesMapped → List ℕ → Type 0
AreMapped done = Every (λ j. (1 ≤ j) × (j ≤ length done))

-- ---- the fanins of a gate

module _ (K : ℕ) (two : 2 ≤ K) {ts : List Node} {done : List GatesMapped} (stood : Paired (Stood K) ts done) where
  stood_at : (g : ℕ) → 1 ≤ g → g ≤ length done → Stood K (get_or ts (g - 1) (leaf 0)) (mapped_at done g)
  stood_at g l m = paired_at (leaf 0) unmapped stood (g - 1) (omega arith)

  pub source_standing : (s : Source) → AreMapped done (gate_of s) → Standing K (node_of ts s) (key_of done s) (source_cover done s)
  source_standing (Net n) h = net_standing K n (omega arith)
  source_standing (Gate g) h =
      let s = stood_at g (every_head h).0 (every_head h).1 in
      rw s.tree (body_standing K s.is (mapped_at done g).kind)

  fanins_ready : (fs : List Edge) → AreMapped done (fanin_gates fs) → Ready K (edges_of ts fs) (covers_of done fs) (keys_of done fs)
  fanins_ready [] h = ready_none
  fanins_ready (f ∷ fs) h =
      ready_edge (source_standing f.source (every_left (gate_of f.source) (fanin_gates fs) h)) (fanins_ready fs (every_right (gate_of f.source) (fanin_gates fs) h))

  -- the leaves that some fanins bring
  source_leaves : (s : Source) → AreMapped done (gate_of s) → length (leaves (node_of ts s)) ≡ length (net_of s) + sum (λ j. leaf_count (mapped_at done j)) (gate_of s)
  source_leaves (Net n) h = refl
  source_leaves (Gate g) h =
      let s = stood_at g (every_head h).0 (every_head h).1 in
      ap (λ t. length (leaves t)) s.tree
      ∙ sym (permuted_length (split_nets (split {k = (mapped_at done g).kind} {m = 0} {fs = (mapped_at done g).body} s.is.matched))) ∙ (let e : leaf_count (mapped_at done g) ≡ 0 + (leaf_count (mapped_at done g) + 0) = omega arith in e)

  fanin_leaves : (fs : List Edge) → AreMapped done (fanin_gates fs) →
      length (leaves* (edges_of ts fs)) ≡ length (fanin_nets fs) + sum (λ j. leaf_count (mapped_at done j)) (fanin_gates fs)
  fanin_leaves [] h = refl
  fanin_leaves (f ∷ fs) h =
      let a = source_leaves f.source (every_left (gate_of f.source) (fanin_gates fs) h) in
      let b = fanin_leaves fs (every_right (gate_of f.source) (fanin_gates fs) h) in
      omega (
        arith,
        length-append (leaves (node_of ts f.source)) (leaves* (edges_of ts fs)),
        length-append (net_of f.source) (fanin_nets fs),
        sum_append (λ j. leaf_count (mapped_at done j)) (gate_of f.source) (fanin_gates fs),
      )

  -- and at least those that the fanins' keys ask for
  source_few : (s : Source) → AreMapped done (gate_of s) → fewest_leaves (key_of done s) ≤ length (net_of s) + sum (λ j. leaf_count (mapped_at done j)) (gate_of s)
  source_few (Net n) h = omega arith
  source_few (Gate g) h = omega (arith, stood_leaves (stood_at g (every_head h).0 (every_head h).1))

  fanins_few : (fs : List Edge) → AreMapped done (fanin_gates fs) →
      sum fewest_leaves (keys_of done fs) ≤ length (fanin_nets fs) + sum (λ j. leaf_count (mapped_at done j)) (fanin_gates fs)
  fanins_few [] h = omega arith
  fanins_few (f ∷ fs) h =
      let a = source_few f.source (every_left (gate_of f.source) (fanin_gates fs) h) in
      let b = fanins_few fs (every_right (gate_of f.source) (fanin_gates fs) h) in
      omega (
        arith,
        length-append (net_of f.source) (fanin_nets fs),
        sum_append (λ j. leaf_count (mapped_at done j)) (gate_of f.source) (fanin_gates fs),
      )

module _ (base : ℕ) where
  inner_fanins : (done : List GatesMapped) (fs : List Edge) → gather (λ q. inner base q.1) (covers_of done fs) ≡ gather (λ j. inner_of base (mapped_at done j)) (fanin_gates fs)
  inner_fanins done [] = refl
  inner_fanins done (f ∷ fs) = ap₂ ◌++◌ (one f.source) (inner_fanins done fs) ∙ sym (gather_append (λ j. inner_of base (mapped_at done j)) (gate_of f.source) (fanin_gates fs))
    where
      one : (s : Source) → inner base (source_cover done s) ≡ gather (λ j. inner_of base (mapped_at done j)) (gate_of s)
      one (Net n) = refl
      one (Gate g) = sym (append-nil _)

  module _ (k : Kind) (done : List GatesMapped) where
    source_shown : (i : Bool) (s : Source) → Shows base k 0 (record { inverted = i; table = source_table base done s }) (drawn (i, source_cover done s))
    source_shown i (Net n) = record { inverted = refl; table = single_is n }
    source_shown i (Gate g) = record { inverted = refl; table = refl }

    fanins_shown : (fs : List Edge) (i : ℕ) → i < length (keys_of done fs) →
        Shows base k 0 (get_or (operands_of base done fs) i (record { inverted = false; table = single 0 })) (drawn (get_or (covers_of done fs) i (false, net 0)))
    fanins_shown [] i l = absurd (omega arith)
    fanins_shown (f ∷ fs) zero l = source_shown f.inverted f.source
    fanins_shown (f ∷ fs) (suc i) l = fanins_shown fs i (omega arith)

    module _ (b : ℕ) (low : Every (λ d. Low base b (held_table base d)) done) where
      source_low : (s : Source) → Every (λ x. x ≤ base) (net_of s) → AreMapped done (gate_of s) → Low base b (source_table base done s)
      source_low (Net n) h m = every_cons (let i = every_head h in omega arith) (every_none _)
      source_low (Gate g) h m = every_at {P = λ d. Low base b (held_table base d)} done (g - 1) unmapped low (let i = every_head m in omega arith)

      fanins_low : (fs : List Edge) → Every (λ x. x ≤ base) (fanin_nets fs) → AreMapped done (fanin_gates fs) → (i : ℕ) → i < length (keys_of done fs) →
          Low base b (get_or (operands_of base done fs) i (record { inverted = false; table = single 0 })).table
      fanins_low [] h m i l = absurd (omega arith)
      fanins_low (f ∷ fs) h m zero l = source_low f.source (every_left (net_of f.source) (fanin_nets fs) h) (every_left (gate_of f.source) (fanin_gates fs) m)
      fanins_low (f ∷ fs) h m (suc i) l =
          fanins_low fs (every_right (net_of f.source) (fanin_nets fs) h) (every_right (gate_of f.source) (fanin_gates fs) m) i (omega arith)

  module _ (K : ℕ) (two : 2 ≤ K) {ts : List Node} {done : List GatesMapped} (stood : Paired (Stood K) ts done) where
    source_width : (s : Source) → AreMapped done (gate_of s) → length (source_table base done s).inputs ≡ (key_of done s).width
    source_width (Net n) h = refl
    source_width (Gate g) h = held_width base (mapped_at done g) (stood_at K two stood g (every_head h).0 (every_head h).1).is

    pub fanins_width : (fs : List Edge) → AreMapped done (fanin_gates fs) → (i : ℕ) → i < length (keys_of done fs) →
        length (get_or (operands_of base done fs) i (record { inverted = false; table = single 0 })).table.inputs ≡ (get_or (keys_of done fs) i leaf_key).width
    fanins_width [] h i l = absurd (omega arith)
    fanins_width (f ∷ fs) h zero l = source_width f.source (every_left (gate_of f.source) (fanin_gates fs) h)
    fanins_width (f ∷ fs) h (suc i) l = fanins_width fs (every_right (gate_of f.source) (fanin_gates fs) h) i (omega arith)

  mapped_end : (done : List GatesMapped) (d : GatesMapped) (js : List ℕ) → AreMapped done js →
      gather (λ j. inner_of base (mapped_at (done ++ (d ∷ [])) j)) js ≡ gather (λ j. inner_of base (mapped_at done j)) js
  mapped_end done d js h =
      gather_same (λ j. inner_of base (mapped_at (done ++ (d ∷ [])) j)) (λ j. inner_of base (mapped_at done j)) js
      (λ j m. let b = h j m in ap (inner_of base) (get_or-append done (d ∷ []) unmapped (j - 1) (omega arith)))

  blocks : (a n r f d b : List Placed) → Permuted (a ++ r) d → Permuted (f ++ n) b → Permuted ((a ++ n) ++ (r ++ (f ++ []))) (d ++ (b ++ []))
  blocks a n r f d b p q =
      simp append-nil
      (permuted_trans (interchange a n r f)
      (permuted_append p (permuted_trans (simp append-nil at (permuted_swap n f [])) q)))

  -- ---- one gate more

  pub mapping_start : (n K : ℕ) → Progress base n K [] [] []
  mapping_start n K = record { stood = no_pair; read = every_none _; low = every_none _; taken = permuted_refl _; earlier = every_none _; leaves = refl }

  module _ (n K : ℕ) (two : 2 ≤ K) {gs : List DrawnGate} {done : List GatesMapped} {staged : List LookupTable} (p : Progress base n K gs done staged)
      (g : DrawnGate) (gates : AreMapped done (fanin_gates g.fanins)) where
    reads_end : gates_read (gs ++ (g ∷ [])) ≡ gates_read gs ++ (fanin_gates g.fanins ++ [])
    reads_end = gather_append (λ x. fanin_gates x.fanins) gs (g ∷ [])

    all_mapped : AreMapped done (gates_read gs ++ (fanin_gates g.fanins ++ []))
    all_mapped = every_append (gates_read gs) _ p.read (every_append (fanin_gates g.fanins) [] gates (every_none _))

    reads_mapped : AreMapped done (gates_read (gs ++ (g ∷ [])))
    reads_mapped = rw (← reads_end) at all_mapped

    -- the leaves, with those under the gates that are read: those under all gates, and under this one
    all_leaves : length (leaf_nets (gs ++ (g ∷ []))) + sum (λ j. leaf_count (mapped_at done j)) (gates_read (gs ++ (g ∷ [])))
        ≡ sum leaf_count done + (length (fanin_nets g.fanins) + sum (λ j. leaf_count (mapped_at done j)) (fanin_gates g.fanins))
    all_leaves =
        let l = ap length (gather_append (λ x. fanin_nets x.fanins) gs (g ∷ [])) ∙ length-append (leaf_nets gs) (fanin_nets g.fanins ++ []) in
        let m = length-append (fanin_nets g.fanins) [] in
        let s = ap (sum (λ j. leaf_count (mapped_at done j))) reads_end in
        let t = sum_append (λ j. leaf_count (mapped_at done j)) (gates_read gs) (fanin_gates g.fanins ++ []) in
        let u = sum_append (λ j. leaf_count (mapped_at done j)) (fanin_gates g.fanins) [] in
        omega (arith, p.leaves)

    -- the keys of the gate's fanins ask for no more leaves than there are: each gate is read once
    pub next_keys : Distinct (gates_read (gs ++ (g ∷ []))) → sum fewest_leaves (keys_of done g.fanins) ≤ length (leaf_nets (gs ++ (g ∷ [])))
    next_keys once =
        let m = mapped_sums done (gates_read (gs ++ (g ∷ []))) once reads_mapped leaf_count (λ d. 0) (λ d i. omega arith) in
        omega (arith, all_leaves, sum_none (gates_read (gs ++ (g ∷ []))), fanins_few K two p.stood g.fanins gates)

  module _ (n K : ℕ) (two : 2 ≤ K) {gs : List DrawnGate} {done : List GatesMapped} {staged : List LookupTable} (p : Progress base n K gs done staged)
      (g : DrawnGate) (many : 2 ≤ length g.fanins) (nets : Every (λ x. x ≤ base) (fanin_nets g.fanins))
      (gates : AreMapped done (fanin_gates g.fanins)) {plan : List Token} {a : Key}
      (planned : Planned K (keys_of done g.fanins) (upto (length (keys_of done g.fanins))) plan a) where
    count : 2 ≤ length (keys_of done g.fanins)
    count = omega (arith, many, length-map g.fanins (λ f. key_of done f.source))

    next : Gated base g.kind (n + length staged) (fanins_ready K two p.stood g.fanins gates) (operands_of base done g.fanins)
        (fanins_shown g.kind done g.fanins) (fanins_low g.kind done (n + length staged) p.low g.fanins nets gates) plan a
    next = gated base g.kind (n + length staged) (fanins_ready K two p.stood g.fanins gates) (operands_of base done g.fanins)
        (fanins_shown g.kind done g.fanins) (fanins_low g.kind done (n + length staged) p.low g.fanins nets gates) count planned

    abbrev mapped : GatesMapped
    mapped = record { kind = g.kind; body = next.body; key = a }

    next_stood : Stood K (gate g.kind (edges_of (trees_of [] gs) g.fanins)) mapped
    next_stood = record {
      edges = edges_of (trees_of [] gs) g.fanins;
      tree = refl;
      is = next.is;
    }

    done_length : length (done ++ (mapped ∷ [])) ≡ suc (length done)
    done_length = omega (arith, length-append done (mapped ∷ []))

    staged_length : n + length (staged ++ next.new) ≡ n + length staged + length next.new
    staged_length = omega (arith, length-append staged next.new)

    numbers : numbered n (staged ++ next.new) ≡ numbered n staged ++ numbered (n + length staged) next.new
    numbers = numbered_append n (n + length staged) staged next.new refl

    -- the leaves under the gate are its nets and those under the gates that it reads
    new_leaves : leaf_count mapped ≡ length (fanin_nets g.fanins) + sum (λ j. leaf_count (mapped_at done j)) (fanin_gates g.fanins)
    new_leaves =
        permuted_length (split_nets (split {k = g.kind} {m = 0} {fs = next.body} next.is.matched))
        ∙ fanin_leaves K two p.stood g.fanins gates

    -- what is read of the gates before is as it was
    reads_same : (f : GatesMapped → ℕ) → sum (λ j. f (mapped_at (done ++ (mapped ∷ [])) j)) (gates_read (gs ++ (g ∷ []))) ≡ sum (λ j. f (mapped_at done j)) (gates_read (gs ++ (g ∷ [])))
    reads_same f =
        sum_same (λ j. f (mapped_at (done ++ (mapped ∷ [])) j)) (λ j. f (mapped_at done j)) (gates_read (gs ++ (g ∷ [])))
        (λ j i. let b = reads_mapped n K two p g gates j i in ap f (get_or-append done (mapped ∷ []) unmapped (j - 1) (omega arith)))

    -- ONE GATE MORE: its plan's run leaves the table that holds the gate, and the tables placed are staged after the others
    next_progress : Progress base n K (gs ++ (g ∷ [])) (done ++ (mapped ∷ [])) (staged ++ next.new)
    next_progress = record {
      stood = rw (trees_end [] gs g) (paired_append p.stood (pair next_stood no_pair));
      read = λ j m. let h = reads_mapped n K two p g gates j m in (h.0, omega (arith, done_length));
      low =
          rw staged_length
          (every_append done (mapped ∷ [])
          (λ d m c i. let h = p.low d m c i in omega arith)
          (every_cons next.low (every_none _)));
      taken =
          rw (
            numbers,
            reads_end n K two p g gates,
            mapped_end done mapped (gates_read gs ++ (fanin_gates g.fanins ++ [])) (all_mapped n K two p g gates),
            gather_append (λ j. inner_of base (mapped_at done j)) (gates_read gs) (fanin_gates g.fanins ++ []),
            gather_append (λ j. inner_of base (mapped_at done j)) (fanin_gates g.fanins) [],
            gather_append (inner_of base) done (mapped ∷ []),
          )
          (blocks (numbered n staged) (numbered (n + length staged) next.new) (gather (λ j. inner_of base (mapped_at done j)) (gates_read gs))
          (gather (λ j. inner_of base (mapped_at done j)) (fanin_gates g.fanins)) (gather (inner_of base) done) (inner_of base mapped) p.taken
          (rw (inner_fanins done g.fanins) at next.taken));
      earlier = rw numbers (every_append (numbered n staged) _ p.earlier next.earlier);
      leaves = omega (arith, all_leaves n K two p g gates, new_leaves, reads_same leaf_count, sum_append leaf_count done (mapped ∷ []));
    }

    -- few tables are staged then: the gates that were read are others, each read once, and took their leaves along
    next_few : Distinct (gates_read (gs ++ (g ∷ []))) → length (staged ++ next.new) + 2 ≤ length (leaf_nets (gs ++ (g ∷ [])))
    next_few once =
        let m = mapped_sums done (gates_read (gs ++ (g ∷ []))) once (reads_mapped n K two p g gates) leaf_count (inner_count base) (stood_counts base p.stood) in
        omega (
          arith,
          staged_count base next_progress,
          reads_same (inner_count base),
          sum_append (inner_count base) done (mapped ∷ []),
          all_leaves n K two p g gates,
          new_leaves,
          stood_count base next_stood,
        )

    pub mapping_next : NextGate base n K gs done staged g plan a
    mapping_next = record { body = next.body; new = next.new; ends = next.ends; progress = next_progress; runs = next.runs; is = (edges_of (trees_of [] gs) g.fanins, next.is); few = next_few }

  -- ---- the root

  trees_length : (ts : List Node) (gs : List DrawnGate) → length (trees_of ts gs) ≡ length ts + length gs
  trees_length ts [] = omega arith
  trees_length ts (g ∷ gs) =
      omega (arith, trees_length (ts ++ (gate g.kind (edges_of ts g.fanins) ∷ [])) gs, length-append ts (gate g.kind (edges_of ts g.fanins) ∷ []))

  pub done_count : {n K : ℕ} {gs : List DrawnGate} {done : List GatesMapped} {staged : List LookupTable} → Progress base n K gs done staged → length done ≡ length gs
  done_count {gs = gs} p = omega (arith, paired_length p.stood, trees_length [] gs)

  in_order : (us ds all : List GatesMapped) → us ++ ds ≡ all →
      gather (inner_of base) ds ≡ gather (λ j. inner_of base (mapped_at all j)) (from (suc (length us)) (length ds))
  in_order us [] all e = refl
  in_order us (d ∷ ds) all e =
      ap₂ ◌++◌ (ap (inner_of base) (sym (get_or-append-add us (d ∷ ds) 0 unmapped) ∙ ap₂ (λ l i. get_or l i unmapped) e (omega arith)))
      (in_order (us ++ (d ∷ [])) ds all (append_assoc us (d ∷ []) ds ∙ e)
      ∙ ap (λ m. gather (λ j. inner_of base (mapped_at all j)) (from (suc m) (length ds))) (omega (arith, length-append us (d ∷ []))))

  module _ (n K : ℕ) (two : 2 ≤ K) (s : DrawnSheet) (formed : WellFormed s) {done : List GatesMapped} {staged : List LookupTable}
      (p : Progress base n K s.gates done staged) where
    abbrev root : GatesMapped
    root = mapped_at done (length s.gates)

    abbrev root_table : LookupTable
    root_table = gate_table base s.out s.inverted root.kind root.body

    pub root_stood : Stood K (tree_of s) root
    root_stood = stood_at K two p.stood (length s.gates) formed.gate_count.0 (omega (arith, done_count p))

    -- the tables within the root's fanins are the staged ones: each other gate was read, and took its tables along
    root_taken : Permuted (numbered n staged) (inner_of base root)
    root_taken = simp append-nil at (without below {ys = numbered n staged ++ []} {zs = inner_of base root ++ []} (subst (Permuted (below ++ (numbered n staged ++ []))) whole all))
      where
        below : List Placed
        below = gather (λ j. inner_of base (mapped_at done j)) (from 1 (length s.gates - 1))

        whole : gather (inner_of base) done ≡ below ++ (inner_of base root ++ [])
        whole =
            in_order [] done done refl
            ∙ ap (λ m. gather (λ j. inner_of base (mapped_at done j)) (from 1 m)) (let h : length done ≡ suc (length s.gates - 1) = omega (arith, done_count p, formed.gate_count.0) in h)
            ∙ ap (gather (λ j. inner_of base (mapped_at done j))) (from_end 1 (length s.gates - 1))
            ∙ gather_append (λ j. inner_of base (mapped_at done j)) (from 1 (length s.gates - 1)) ((1 + (length s.gates - 1)) ∷ [])
            ∙ ap (λ m. below ++ (inner_of base (mapped_at done m) ++ [])) (let h : 1 + (length s.gates - 1) ≡ length s.gates = omega (arith, formed.gate_count.0) in h)

        all : Permuted (below ++ (numbered n staged ++ [])) (gather (inner_of base) done)
        all =
            permuted_trans (permuted_swap below (numbered n staged) [])
            (permuted_trans (permuted_append (permuted_refl (numbered n staged))
            (rw append-nil (permuted_sym (gather_permuted (λ j. inner_of base (mapped_at done j)) formed.read_once)))) p.taken)

    -- A SHEET MAPPED gate by gate, with its root's table last, has the tables of a cover
    pub mapping_added : (old : List LookupTable) → length old ≡ n → CoveredBy base K old (staged ++ (root_table ∷ [])) (drawn_sheet s) root
    mapping_added old e = record {
      added = record {
        cover = top (suc (n + length staged)) root.kind root.body;
        covers = rw root_stood.tree (body_cover K root_stood.is root.kind (n + length staged));
        taken = rw (e, numbers) (permuted_append root_taken (permuted_refl _));
        earlier = rw (e, numbers) (every_append (numbered n staged) _ p.earlier (every_cons root_low (every_none _)));
        last = omega (arith, e, length-append staged (root_table ∷ []));
      };
      number = n + length staged;
      cover = refl;
      count =
          omega (
            arith,
            length-append staged (root_table ∷ []),
            permuted_length root_taken,
            numbered_length n staged,
            records_length* base root.body root.kind,
          );
    }
      where
        numbers : numbered n (staged ++ (root_table ∷ [])) ≡ numbered n staged ++ ((suc (n + length staged), root_table) ∷ [])
        numbers = numbered_append n (n + length staged) staged (root_table ∷ []) refl

        root_low : Every (λ c. c < base + suc (n + length staged)) root_table.inputs
        root_low c m =
            let h = every_at {P = λ d. Low base (n + length staged) (held_table base d)} done (length s.gates - 1) unmapped p.low
            (omega (arith, done_count p, formed.gate_count.0)) c m in
            omega arith
