-- The joined sheet of a well formed sheet is well formed, and draws the joined tree.
use Rattle.std.specs.Prelude.{ℕ, zero, suc, ◌-◌, ◌≤◌, ◌≡◌, refl, Bool, cond, List, [], ◌∷◌, ◌++◌, map, length}
use Rattle.std.proofs.Common.{arith, sym, ap, ap₂, ◌∙◌, subst, append_assoc, append-nil, length-append}
use Rattle.std.proofs.lemmas.List.{map-append, length-map, get_or_at}
use Rattle.std.proofs.Math.ListN.{get_or-append, get_or-map}
use Rattle.lists.specs.Trusted.Lists.{Every, Inserted, here, there, Permuted, empty, more, gather, from}
use Rattle.lists.specs.Sequences.{Paired, no_pair, pair}
use Rattle.lists.specs.ListLaws.{every_none, every_cons, every_head, every_tail, every_map, every_left, every_right, gather_append, gather_permuted, map_at, permuted_append, permuted_from, permuted_length, permuted_refl, permuted_swap, permuted_sym, permuted_to, permuted_trans}
use Rattle.lists.specs.Trusted.Tests.{elem}
use Rattle.tree.specs.Trusted.Tree.{Node, leaf, edge, turned}
use Rattle.tree.specs.Measures.{value}
use Rattle.sheet.specs.declared.Source.{Source}
use Rattle.sheet.specs.declared.Source.TheVariants.{Net as net, Gate as gate}
use Rattle.sheet.specs.declared.Edge.{Edge as Fanin}
use Rattle.sheet.specs.Trusted.Sheet.{DrawnGate, DrawnSheet, net_of, gate_of, fanin_nets, fanin_gates, leaf_nets, gates_read}
use Rattle.sheet.specs.Trusted.Trees.{tree_at, node_of, edges_of, trees_of, tree_of}
use Rattle.sheet.specs.Drawn.{drawn}
use Rattle.sheet.specs.Trusted.Formed.{FaninCount, Before, Earlier, WellFormed}
use Rattle.lists.specs.Cases.{by_test}
use Rattle.lists.specs.NumberLaws.{from_length}
use Rattle.sheet.specs.NumberLaws.{distinct_permuted, from_least, from_once}
use Rattle.sheet.specs.TreeLaws.{tree_for, without, tree_proper}
use Rattle.sheet.specs.Trusted.Values.{sheet_value}
use Rattle.sheet.specs.ValueLaws.{sheet_value_lem}
use Rattle.joined.specs.Trusted.Joined.{joined_tree}
use Rattle.joined.specs.Trusted.Covered.{covered}
use Rattle.joined.specs.Settled.{Settled}
use Rattle.joined.specs.JoinedSheet.{gate_at, joined_gates, gone_gates, stay, staying, new_number, new_source, new_fanin, new_gate, staying_gates, joined_sheet, joined_gate}
use Rattle.joined.proofs.JoinedLaws.{joined_value}
use Rattle.joined.proofs.SettledLaws.{joined_settled}
use Rattle.joined.specs.NumberingLaws.{from_below, from_last, Stays, not_gone, stay_one, staying_every, staying_length, staying_rest, staying_last, number_up, number_same, number_positive, numbers_rise, number_at, numbered_anew}
use Rattle.joined.specs.CountLaws.{gates_part, of_gates, of_gate, gates_bring}
use Rattle.joined.proofs.GateLaws.{edges_same, GateDraws, GatesDraw, joined_trees}

-- ---- lists

module _ {A : Type 0} where
  permuted_comm : (xs ys : List A) → Permuted (xs ++ ys) (ys ++ xs)
  permuted_comm xs ys =
      subst (λ l. Permuted (xs ++ l) (ys ++ xs)) (append-nil ys) (subst (λ l. Permuted (xs ++ (ys ++ [])) (ys ++ l)) (append-nil xs) (permuted_swap xs ys []))

  gather_none : (xs : List ℕ) → gather {B = A} (λ x. []) xs ≡ []
  gather_none [] = refl
  gather_none (x ∷ xs) = gather_none xs

  gather_every : {B : Type 0} {P : B → Type 0} (f : A → List B) (xs : List A) → Every P (gather f xs) → Every (λ x. Every P (f x)) xs
  gather_every f [] h = every_none _
  gather_every f (x ∷ xs) h = every_cons (every_left (f x) (gather f xs) h) (gather_every f xs (every_right (f x) (gather f xs) h))

  inserted_map : {B : Type 0} (f : A → B) {x : A} {xs ys : List A} → Inserted x xs ys → Inserted (f x) (map f xs) (map f ys)
  inserted_map f here = here
  inserted_map f (there i) = there (inserted_map f i)

  permuted_map : {B : Type 0} (f : A → B) {xs ys : List A} → Permuted xs ys → Permuted (map f xs) (map f ys)
  permuted_map f empty = empty
  permuted_map f (more i p) = more (inserted_map f i) (permuted_map f p)

  paired_map : {B C : Type 0} (R : B → C → Type 0) (f : A → B) (g : A → C) (xs : List A) → Every (λ x. R (f x) (g x)) xs → Paired R (map f xs) (map g xs)
  paired_map R f g [] h = no_pair
  paired_map R f g (x ∷ xs) h = pair (every_head h) (paired_map R f g xs (every_tail h))

gather_itself : (xs : List ℕ) → gather (λ x. x ∷ []) xs ≡ xs
gather_itself [] = refl
gather_itself (x ∷ xs) = ap (◌∷◌ x) (gather_itself xs)

-- ---- trees and gates by their numbers

pub joined_length : (ds gs : List DrawnGate) → length (joined_gates ds gs) ≡ length gs
joined_length ds [] = refl
joined_length ds (g ∷ gs) = ap suc (joined_length (ds ++ joined_gate ds g ∷ []) gs)

-- what gates bring, by their numbers
in_order : {A : Type 0} (f : DrawnGate → List A) (ds gs all : List DrawnGate) → ds ++ gs ≡ all →
    gather f gs ≡ gather (λ g. f (gate_at all g)) (from (suc (length ds)) (length gs))
in_order f ds [] all e = refl
in_order f ds (x ∷ gs) all e =
    let size : length (ds ++ (x ∷ [])) ≡ suc (length ds) = omega (arith, length-append ds (x ∷ [])) in
    let first : gate_at (ds ++ (x ∷ gs)) (suc (length ds)) ≡ x = get_or_at ds x gs _ (suc (length ds) - 1) (omega arith) in
    ap₂ ◌++◌ (ap f (sym first ∙ ap (λ l. gate_at l (suc (length ds))) e))
    (in_order f (ds ++ (x ∷ [])) gs all (append_assoc ds (x ∷ []) gs ∙ e) ∙ ap (λ n. gather (λ g. f (gate_at all g)) (from (suc n) (length gs))) size)

-- trees of which each is its gate's are the gates' trees
trees_are : (all us : List Node) {vs : List Node} {gs : List DrawnGate} → us ++ vs ≡ all → Earlier (suc (length us)) gs →
    Paired (λ v g. v ≡ tree_for all g) vs gs → trees_of us gs ≡ all
trees_are all us e h no_pair = sym (append-nil us) ∙ e
trees_are all us e h (pair {x = v} {y = g} {xs = vs} {ys = gs} p ps) =
    let same : tree_for us g ≡ v =
    ap (Node.gate g.kind) (edges_same us all g.fanins (λ j m. let b = h.0 j m in sym (get_or-append us (v ∷ vs) (leaf 0) (j - 1) (omega arith)) ∙ ap (λ l. tree_at l j) e)) ∙ sym p in
    let size : suc (length us) ≡ length (us ++ (v ∷ [])) = omega (arith, length-append us (v ∷ [])) in
    ap (λ t. trees_of (us ++ (t ∷ [])) gs) same
    ∙ trees_are all (us ++ (v ∷ [])) (append_assoc us (v ∷ []) vs ∙ e) (subst (λ n. Earlier (suc n) gs) size h.1) ps

-- ---- gates with new numbers

module _ (gone : List ℕ) where
  new_reads : (fs : List Fanin) → fanin_gates (map (new_fanin gone) fs) ≡ map (new_number gone) (fanin_gates fs)
  new_reads [] = refl
  new_reads (f ∷ fs) = ap₂ ◌++◌ (one f.source) (new_reads fs) ∙ sym (map-append (new_number gone) (gate_of f.source) (fanin_gates fs))
    where
      one : (s : Source) → gate_of (new_source gone s) ≡ map (new_number gone) (gate_of s)
      one (net n) = refl
      one (gate g) = refl

  new_nets : (fs : List Fanin) → fanin_nets (map (new_fanin gone) fs) ≡ fanin_nets fs
  new_nets [] = refl
  new_nets (f ∷ fs) = ap₂ ◌++◌ (one f.source) (new_nets fs)
    where
      one : (s : Source) → net_of (new_source gone s) ≡ net_of s
      one (net n) = refl
      one (gate g) = refl

  new_edges : (ts us : List Node) (fs : List Fanin) → Every (λ g. tree_at ts g ≡ tree_at us (new_number gone g)) (fanin_gates fs) →
      edges_of ts fs ≡ edges_of us (map (new_fanin gone) fs)
  new_edges ts us [] h = refl
  new_edges ts us (f ∷ fs) h =
      ap₂ (edge f.inverted) (node f.source (every_left (gate_of f.source) (fanin_gates fs) h)) (new_edges ts us fs (every_right (gate_of f.source) (fanin_gates fs) h))
    where
      node : (s : Source) → Every (λ g. tree_at ts g ≡ tree_at us (new_number gone g)) (gate_of s) → node_of ts s ≡ node_of us (new_source gone s)
      node (net n) e = refl
      node (gate g) e = every_head e

  module _ (gs : List DrawnGate) where
    abbrev new : ℕ → DrawnGate
    new g = new_gate gone (gate_at gs g)

    nets_kept : (xs : List ℕ) → leaf_nets (map new xs) ≡ gather (of_gate net_of gs) xs
    nets_kept [] = refl
    nets_kept (x ∷ xs) = ap₂ ◌++◌ (new_nets (gate_at gs x).fanins) (nets_kept xs)

    reads_renamed : (xs : List ℕ) → gates_read (map new xs) ≡ map (new_number gone) (gather (of_gate gate_of gs) xs)
    reads_renamed [] = refl
    reads_renamed (x ∷ xs) =
        ap₂ ◌++◌ (new_reads (gate_at gs x).fanins) (reads_renamed xs) ∙ sym (map-append (new_number gone) (of_gate gate_of gs x) (gather (of_gate gate_of gs) xs))

    -- where gates read earlier gates that stay, they do so by the new numbers
    abbrev ReadsStay : ℕ → Type 0
    ReadsStay g = Every (λ j. Before g j × Stays gone j) (of_gate gate_of gs g)

    new_earlier : (m n : ℕ) → Every ReadsStay (staying gone (from (suc m) n)) → Earlier (suc (new_number gone m)) (map new (staying gone (from (suc m) n)))
    new_earlier m zero h = tt
    new_earlier m (suc n) all =
        let rest = staying gone (from (suc (suc m)) n) in
        by_test (λ b. Every ReadsStay (cond b [] (suc m ∷ []) ++ rest) → Earlier (suc (new_number gone m)) (map new (cond b [] (suc m ∷ []) ++ rest)))
        (elem (suc m) gone)
        (λ t h. subst (λ k. Earlier (suc k) (map new rest)) (number_same gone m t) (new_earlier (suc m) n h))
        (λ t h. (
          subst (Every (Before (suc (new_number gone m)))) (sym (new_reads (gate_at gs (suc m)).fanins))
              (every_map (Before (suc (new_number gone m))) (new_number gone) (of_gate gate_of gs (suc m))
              (λ j q. let b = every_head h j q in (number_positive gone j b.0.0 b.1, omega (arith, b.0.1, numbers_rise gone j m (omega (arith, b.0.1)))))),
          subst (λ k. Earlier (suc k) (map new rest)) (number_up gone m t) (new_earlier (suc m) n (every_tail h)),
        ))
        all

-- ---- a well formed sheet's gates, joined

module _ (gs : List DrawnGate) (some : 1 ≤ length gs) (earlier : Earlier 1 gs) (counts : Every FaninCount gs)
    (once : Permuted (gates_read gs) (from 1 (length gs - 1))) where
  abbrev joined : List DrawnGate
  joined = joined_gates [] gs

  abbrev gone : List ℕ
  gone = gone_gates [] gs

  abbrev last : ℕ
  last = length joined

  abbrev kept : List ℕ
  kept = staying gone (from 1 last)

  abbrev rest : List ℕ
  rest = (gates_part [] gs).0

  size : last ≡ suc (length gs - 1)
  size = omega (arith, joined_length [] gs)

  read : Permuted (from 1 (length gs - 1)) (gone ++ rest)
  read = permuted_trans (permuted_sym once) (gates_part [] gs).1

  rest_stays : Permuted (staying gone (from 1 (length gs - 1))) rest × Every (Stays gone) rest
  rest_stays = staying_rest gone rest read (from_once 1 (length gs - 1))

  last_stays : Stays gone last
  last_stays = not_gone gone last (λ j m e. omega (arith, size, every_left gone rest (permuted_to read (from_below 1 (length gs - 1))) j m))

  kept_last : kept ≡ staying gone (from 1 (length gs - 1)) ++ (last ∷ [])
  kept_last =
      ap (λ n. staying gone (from 1 n)) size
      ∙ (staying_last gone (length gs - 1) ∙ ap (◌++◌ (staying gone (from 1 (length gs - 1)))) (ap (stay gone) (sym size) ∙ stay_one gone last last_stays))

  -- each gate stays or is gone
  either_way : Permuted (from 1 last) (gone ++ kept)
  either_way =
      subst (λ l. Permuted l (gone ++ kept)) (sym (ap (from 1) size ∙ (from_last (length gs - 1) ∙ ap (λ n. from 1 (length gs - 1) ++ (n ∷ [])) (sym size))))
      (permuted_trans (permuted_append read (permuted_refl (last ∷ [])))
      (subst (λ l. Permuted l (gone ++ kept)) (sym (append_assoc gone rest (last ∷ [])))
      (permuted_append (permuted_refl gone)
      (subst (Permuted (rest ++ (last ∷ []))) (sym kept_last) (permuted_append (permuted_sym rest_stays.0) (permuted_refl (last ∷ [])))))))

  -- what the kept gates bring, with what was read of the gates that are gone, is what the drawn gates bring
  kept_bring : {A : Type 0} (brings : Source → List A) →
      Permuted (gather (of_gate brings joined) kept ++ gather (λ g. brings (gate g)) gone) (of_gates brings gs)
  kept_bring brings =
      let at = of_gate brings joined in
      let lost = gather at gone in
      let reads = gather (λ g. brings (gate g)) gone in
      let all : Permuted (of_gates brings joined) (lost ++ gather at kept) =
      subst (λ l. Permuted l (lost ++ gather at kept)) (sym (in_order _ [] joined joined refl))
      (subst (Permuted (gather at (from 1 last))) (gather_append at gone kept) (gather_permuted at either_way)) in
      without lost {ys = gather at kept ++ reads} {zs = of_gates brings gs}
      (permuted_trans
      (subst (λ l. Permuted l (of_gates brings joined ++ reads)) (append_assoc lost (gather at kept) reads) (permuted_append (permuted_sym all) (permuted_refl reads)))
      (permuted_trans (gates_bring brings [] gs joined refl earlier) (permuted_comm (of_gates brings gs) lost)))

  kept_nets : Permuted (gather (of_gate net_of joined) kept) (leaf_nets gs)
  kept_nets =
      subst (λ l. Permuted l (leaf_nets gs)) (ap (◌++◌ (gather (of_gate net_of joined) kept)) (gather_none gone) ∙ append-nil _) (kept_bring net_of)

  kept_reads : Permuted (gather (of_gate gate_of joined) kept) rest
  kept_reads =
      let reads = gather (of_gate gate_of joined) kept in
      without gone
      (permuted_trans (permuted_comm gone reads)
      (permuted_trans (subst (λ l. Permuted (reads ++ l) (gates_read gs)) (gather_itself gone) (kept_bring gate_of)) (gates_part [] gs).1))

  -- ---- their trees

  abbrev us : List Node
  us = trees_of [] joined

  trees : (us ≡ map joined_tree (trees_of [] gs)) × GatesDraw joined us
  trees = joined_trees [] [] [] gs refl refl (λ g p l. absurd (omega arith)) earlier counts

  kept_in : Every (λ g. (1 ≤ g) × (g ≤ last) × Stays gone g) kept
  kept_in =
      staying_every gone (from 1 last) (λ g m s. (omega (arith, from_least 1 last g m), omega (arith, from_below 1 last g m), s))

  stands : Every (GateDraws joined us) kept
  stands g m = let k = kept_in g m in trees.1 g k.0 k.1

  reads_stay : Every (ReadsStay gone joined) kept
  reads_stay g m =
      λ j n. ((stands g m).reads j n, gather_every {P = Stays gone} (of_gate gate_of joined) kept (permuted_from kept_reads rest_stays.1) g m j n)

  abbrev vs : List Node
  vs = map (tree_at us) kept

  new_at : (g : ℕ) → 1 ≤ g → g ≤ last → Stays gone g → tree_at us g ≡ tree_at vs (new_number gone g)
  new_at g p l h =
      let up = number_positive gone g p h in
      let within = numbers_rise gone g last l in
      sym (map_at (tree_at us) kept (new_number gone g - 1) 0 (leaf 0) (omega arith) ∙ ap (tree_at us) (number_at gone g last p l h))

  kept_earlier : Earlier 1 (staying_gates gone joined)
  kept_earlier = new_earlier gone joined 0 last reads_stay

  kept_trees : trees_of [] (staying_gates gone joined) ≡ vs
  kept_trees =
      trees_are vs [] refl kept_earlier
      (paired_map (λ v g. v ≡ tree_for vs g) (tree_at us) (new gone joined) kept
      (λ g m. (stands g m).tree ∙ ap (Node.gate (gate_at joined g).kind) (new_edges gone us vs (gate_at joined g).fanins
      (λ j n. let k = kept_in g m in let r = reads_stay g m j n in new_at j r.0.0 (omega arith) r.1))))

  root_tree : tree_at (trees_of [] (staying_gates gone joined)) (length (staying_gates gone joined)) ≡ joined_tree (tree_at (trees_of [] gs) (length gs))
  root_tree =
      ap₂ tree_at kept_trees (length-map kept (new gone joined))
      ∙ (sym (new_at last (omega (arith, size)) (omega arith) last_stays)
      ∙ (ap₂ tree_at trees.0 (joined_length [] gs)
      ∙ get_or-map joined_tree (trees_of [] gs) (length gs - 1) (leaf 0)))

  kept_counts : Every FaninCount (staying_gates gone joined)
  kept_counts =
      every_map FaninCount (new gone joined) kept
      (λ g m. let c = (stands g m).counted in let l = length-map (gate_at joined g).fanins (new_fanin gone) in omega arith)

  kept_size : length (staying_gates gone joined) ≡ suc (length (staying gone (from 1 (length gs - 1))))
  kept_size =
      length-map kept (new gone joined) ∙ (ap length kept_last ∙ let l = length-append (staying gone (from 1 (length gs - 1))) (last ∷ []) in omega arith)

  kept_once : Permuted (gates_read (staying_gates gone joined)) (from 1 (length (staying_gates gone joined) - 1))
  kept_once =
      let n = length gs - 1 in
      let size : length (staying gone (from 1 n)) ≡ length (staying_gates gone joined) - 1 = omega (arith, kept_size) in
      subst (λ l. Permuted l (from 1 (length (staying_gates gone joined) - 1))) (sym (reads_renamed gone joined kept))
      (subst (Permuted (map (new_number gone) (gather (of_gate gate_of joined) kept))) (numbered_anew gone 0 n ∙ ap (from 1) size)
      (permuted_map (new_number gone) (permuted_trans kept_reads (permuted_sym rest_stays.0))))

  same_nets : Permuted (leaf_nets (staying_gates gone joined)) (leaf_nets gs)
  same_nets = subst (λ l. Permuted l (leaf_nets gs)) (sym (nets_kept gone joined kept)) kept_nets

  few : (1 ≤ length (staying_gates gone joined)) × (length (staying_gates gone joined) ≤ length gs)
  few =
      let l = staying_length gone (from 1 (length gs - 1)) in
      (omega (arith, kept_size), omega (arith, kept_size, from_length 1 (length gs - 1)))

-- ---- the joined sheet

-- ITS TREE IS THE JOINED TREE
pub sheet_joined : (s : DrawnSheet) → WellFormed s → tree_of (joined_sheet s) ≡ joined_tree (tree_of s)
sheet_joined s w = root_tree s.gates w.gate_count.0 w.earlier w.fanin_counts w.read_once

-- so it draws what is covered
pub covered_drawn : (s : DrawnSheet) → WellFormed s → drawn (joined_sheet s) ≡ covered s
covered_drawn s w = ap (λ t. record { tree = t; out = s.out; inverted = s.inverted }) (sheet_joined s w)

-- IT IS WELL FORMED
pub joined_formed : (s : DrawnSheet) → WellFormed s → WellFormed (joined_sheet s)
joined_formed s w =
    let gs = s.gates in
    let some = w.gate_count.0 in
    let nets = same_nets gs some w.earlier w.fanin_counts w.read_once in
    let size = few gs some w.earlier w.fanin_counts w.read_once in
    record {
      out_net = w.out_net;
      gate_count = (size.0, omega (arith, size.1, w.gate_count.1));
      fanin_counts = kept_counts gs some w.earlier w.fanin_counts w.read_once;
      earlier = kept_earlier gs some w.earlier w.fanin_counts w.read_once;
      read_once = kept_once gs some w.earlier w.fanin_counts w.read_once;
      leaf_nets_lem = permuted_from nets w.leaf_nets_lem;
      leaf_once = distinct_permuted (permuted_sym nets) w.leaf_once;
      leaf_count_lem = omega (arith, permuted_length nets, w.leaf_count_lem);
    }

-- a joined gate, under its drawn number, reads gates before it
pub joined_reads : (s : DrawnSheet) → WellFormed s → (g : ℕ) → 1 ≤ g → g ≤ length s.gates → Every (Before g) (fanin_gates (gate_at (joined_gates [] s.gates) g).fanins)
joined_reads s w g p l = ((trees s.gates w.gate_count.0 w.earlier w.fanin_counts w.read_once).1 g p (omega (arith, l, joined_length [] s.gates))).reads

-- IT HAS NO MORE GATES
pub joined_fewer : (s : DrawnSheet) → WellFormed s → length (joined_sheet s).gates ≤ length s.gates
joined_fewer s w = (few s.gates w.gate_count.0 w.earlier w.fanin_counts w.read_once).1

-- IT HAS THE VALUE OF THE SHEET AS DRAWN
pub joined_sheet_value : (s : DrawnSheet) → WellFormed s → (σ : ℕ → Bool) → sheet_value (joined_sheet s) σ ≡ sheet_value s σ
joined_sheet_value s w σ =
    sheet_value_lem σ (joined_sheet s) ∙ (ap (turned s.inverted) (ap (λ t. value t σ) (sheet_joined s w) ∙ joined_value σ (tree_of s)) ∙ sym (sheet_value_lem σ s))

-- NO EDGE OF IT WOULD BE JOINED
pub joined_sheet_settled : (s : DrawnSheet) → WellFormed s → Settled (tree_of (joined_sheet s))
joined_sheet_settled s w = subst Settled (sym (sheet_joined s w)) (joined_settled (tree_of s) (tree_proper s w))
