-- Joining never raises the least number of tables: each cover of the drawn tree gives one of the joined tree with as many tables.
-- Where an edge is joined, the topmost of the gates that the lower gate was split into becomes a new gate of the upper one, with its mark
-- and its fanins, which are turned over where the edge is inverted.
use Rattle.std.specs.Prelude.{ℕ, ◌+◌, ◌≤◌, ◌≡◌, refl, Bool, false, List, [], ◌∷◌, ◌++◌}
use Rattle.std.proofs.Common.{arith, sym, ap, ap₂, subst}
use Rattle.lists.specs.Trusted.Lists.{here, Permuted, empty, more, gather}
use Rattle.lists.specs.Sequences.{Paired, no_pair, pair}
use Rattle.lists.specs.ListLaws.{inserted_left, permuted_refl, permuted_sym, permuted_trans, permuted_append, gather_append, gather_inserted, gather_permuted}
use Rattle.lists.specs.MixLaws.{paired_insert, paired_split, mix_append}
use Rattle.tree.specs.declared.Kind.{Kind}
use Rattle.tree.specs.declared.Kind.TheVariants.{And as and}
use Rattle.tree.specs.Trusted.Tree.{Node, leaf, gate, Edges, none, edge, turned, edge_count}
use Rattle.cover.specs.Trusted.Cover.{Cover, top, Fanins, end, old, new, pick, arity, frontier, tables, tables*, width, widths, Fits, Fits*, SplitOf, split, Matched, done, match, Rooted, rooted, CoverOf, Least, net}
use Rattle.joined.specs.Trusted.Joined.{turned_over, ◌then◌, joined_from, joined_tree, joined_below, in_place}
use Rattle.joined.proofs.JoinedLaws.{by_joins}

-- ---- matched fanins

matched_permuted : {es : Edges} {xs ys : List (Bool × Cover)} → Matched es xs → Permuted xs ys → Matched es ys
matched_permuted done empty = done
matched_permuted (match i s d) p =
    elim (permuted_trans (more i (permuted_refl _)) p) [ more j q ↦ match j s (matched_permuted d q) ]

then_matched : {es fs : Edges} {xs ys : List (Bool × Cover)} → Matched es xs → Matched fs ys → Matched (es then fs) (xs ++ ys)
then_matched done e = e
then_matched {ys = ys} (match i s d) e = match (inserted_left ys i) s (then_matched d e)

module _ (K : ℕ) where
  -- ---- what is counted

  -- d has as many tables as c and gives as many inputs to the table above; it fits where c fits, and its root is chosen where c's is
  record Kept (c d : Cover) : Type 0 where
    count : tables d ≡ tables c
    inputs : width d ≡ width c
    fits : Fits c K → Fits d K
    root : Rooted c → Rooted d

  -- the same of a gate's fanins, and as many of them
  record KeptFanins (fs gs : Fanins) : Type 0 where
    fanins : arity gs ≡ arity fs
    count : tables* gs ≡ tables* fs
    inputs : widths gs ≡ widths fs
    fits : Fits* fs K → Fits* gs K

  kept_trans : {fs gs hs : Fanins} → KeptFanins fs gs → KeptFanins gs hs → KeptFanins fs hs
  kept_trans a b = record { fanins = cc; count = cc; inputs = cc; fits = λ h. b.fits (a.fits h) }

  gate_rooted : {m : ℕ} {k : Kind} {fs gs : Fanins} → Rooted (top m k fs) → Rooted (top m k gs)
  gate_rooted rooted = rooted

  gate_kept : (m : ℕ) (k : Kind) {fs gs : Fanins} → KeptFanins fs gs → Kept (top m k fs) (top m k gs)
  gate_kept m k a =
      record {
        count = ap (λ n. pick m 0 1 + n) a.count;
        inputs = ap (λ w. pick m w 1) a.inputs;
        fits = λ h. (omega (arith, h.0, a.fanins), subst (λ w. pick m (Unit {0}) (w ≤ K)) (sym a.inputs) h.1, a.fits h.2);
        root = gate_rooted;
      }

  old_kept : {i j : Bool} {c d : Cover} {fs gs : Fanins} → Kept c d → KeptFanins fs gs → KeptFanins (old i c fs) (old j d gs)
  old_kept l a =
      record {
        fanins = ap (λ n. 1 + n) a.fanins;
        count = ap₂ ◌+◌ l.count a.count;
        inputs = ap₂ ◌+◌ l.inputs a.inputs;
        fits = λ h. (l.fits h.0, a.fits h.1);
      }

  -- a new gate counts as a drawn gate's topmost with the same mark and fanins
  as_new : {m : ℕ} {k : Kind} {s fs : Fanins} → KeptFanins (old false (top m k s) fs) (new m s fs)
  as_new = record { fanins = refl; count = refl; inputs = refl; fits = λ h. h }

  as_old : {m : ℕ} {k : Kind} {s fs : Fanins} → KeptFanins (new m s fs) (old false (top m k s) fs)
  as_old = record { fanins = refl; count = refl; inputs = refl; fits = λ h. h }

  -- ---- fanins in the place of others

  -- in the place of a fanin: another, or those of a new gate
  data Replaced : Bool × Cover → List (Bool × Cover) → Type 0 where
    by_one : {i j : Bool} {c d : Cover} → Kept c d → Replaced (i, c) ((j, d) ∷ [])
    by_new : {i : Bool} {c : Cover} {m : ℕ} {k : Kind} {s : Fanins} → Kept c (top m k s) → Replaced (i, c) (frontier s)

  abbrev concat : List (List (Bool × Cover)) → List (Bool × Cover)
  concat = gather (λ xs. xs)

  replaced : (fs : Fanins) {xss : List (List (Bool × Cover))} → Paired Replaced (frontier fs) xss →
      (gs : Fanins) × Permuted (frontier gs) (concat xss) × KeptFanins fs gs
  replaced end no_pair = (end, empty, record { fanins = refl; count = refl; inputs = refl; fits = λ h. h })
  replaced (old i c fs) (pair (by_one {j = j} {d = d} l) p) =
      let r = replaced fs p in
      (old j d r.0, more here r.1, old_kept l r.2)
  replaced (old i c fs) (pair (by_new {m = m} {s = s} l) p) =
      let r = replaced fs p in
      (new m s r.0, permuted_append (permuted_refl (frontier s)) r.1, kept_trans (old_kept l r.2) as_new)
  replaced (new m s fs) p =
      let d = paired_split (frontier s) (frontier fs) p in
      let q = replaced s d.3 in
      let r = replaced fs d.4 in (
        new m q.0 r.0,
        permuted_trans (permuted_append q.1 r.1) (rw gather_append at (gather_permuted (λ xs. xs) (mix_append d.2))),
        kept_trans as_old (kept_trans (old_kept (gate_kept m and q.2) r.2) as_new),
      )

  -- ---- edges in the place of others

  -- whatever cover stands at an edge to t, fanins that match es can stand in its place
  abbrev Redrawn : Bool → Node → Edges → Type 0
  Redrawn i t es = (c : Cover) → SplitOf t c → (xs : List (Bool × Cover)) × Replaced (i, c) xs × Matched es xs

  data RedrawnEdges : Edges → Edges → Type 0 where
    no_edge : RedrawnEdges none none
    one_edge : {i : Bool} {t : Node} {es fs gs : Edges} → Redrawn i t fs → RedrawnEdges es gs → RedrawnEdges (edge i t es) (fs then gs)

  each_replaced : {es fs : Edges} {xs : List (Bool × Cover)} → RedrawnEdges es fs → Matched es xs →
      (xss : List (List (Bool × Cover))) × Paired Replaced xs xss × Matched fs (concat xss)
  each_replaced no_edge done = ([], no_pair, done)
  each_replaced (one_edge f e) (match {c = c} i s d) =
      let u = f c s in
      let r = each_replaced e d in
      let q = paired_insert i u.1 r.1 in
      (_, q.2, matched_permuted (then_matched u.2 r.2) (permuted_sym (gather_inserted (λ xs. xs) q.1)))

  redrawn : {es fs : Edges} → RedrawnEdges es fs → (s : Fanins) → Matched es (frontier s) →
      (u : Fanins) × Matched fs (frontier u) × KeptFanins s u
  redrawn e s d =
      let r = each_replaced e d in
      let u = replaced s r.1 in
      (u.0, matched_permuted r.2 (permuted_sym u.1), u.2)

  -- ---- joined edges

  -- each split of t with its chosen gates gives one of u in which what is counted is kept
  abbrev NoWorse : Node → Node → Type 0
  NoWorse t u = (c : Cover) → SplitOf t c → (d : Cover) × SplitOf u d × Kept c d

  itself : (t : Node) → NoWorse t t
  itself t c s = (c, s, record { count = refl; inputs = refl; fits = λ h. h; root = λ r. r })

  by_edge : {i : Bool} (j : Bool) {t u : Node} → NoWorse t u → Redrawn i t (edge j u none)
  by_edge j f c s = let r = f c s in (_, by_one r.2, match here r.1 done)

  turned_redrawn : (i : Bool) (es : Edges) → RedrawnEdges es (turned_over i es)
  turned_redrawn i none = no_edge
  turned_redrawn i (edge j t es) = one_edge (by_edge (turned i j) (itself t)) (turned_redrawn i es)

  -- the lower gate's fanins, as those of a new gate; what is counted does not depend on the kinds, so whether the edge is chained is not asked
  gate_redrawn : (i : Bool) (j : Kind) (es : Edges) → Redrawn i (gate j es) (turned_over i es)
  gate_redrawn i j es (net _) x'' = elim x'' [ ]
  gate_redrawn i j es (top m _ fs) (split d) =
      let r = redrawn (turned_redrawn i es) fs d in
      (_, by_new (gate_kept m j r.2), r.1)

  from_redrawn : (k : Kind) (n : ℕ) (es : Edges) → RedrawnEdges es (joined_from k n es)
  from_redrawn k n none = no_edge
  from_redrawn k n (edge i t es) =
      one_edge (by_joins (Redrawn i) k _ i (λ t u. by_edge i (itself t)) (λ j es c l. gate_redrawn i j es) t) (from_redrawn k (n + edge_count (in_place k (n + edge_count es) i t)) es)

  mutual
    joined_no_worse : (t : Node) → NoWorse t (joined_tree t)
    joined_no_worse (gate k es) (net _) s = elim s [ ]
    joined_no_worse (leaf n) c s = itself (leaf n) c s
    joined_no_worse (gate k es) (top m _ fs) (split d) =
        let r = redrawn (below_redrawn es) fs d in
        let q = redrawn (from_redrawn k 0 (joined_below es)) r.0 r.1 in
        (_, split q.1, gate_kept m k (kept_trans r.2 q.2))

    below_redrawn : (es : Edges) → RedrawnEdges es (joined_below es)
    below_redrawn none = no_edge
    below_redrawn (edge i t es) = one_edge (by_edge i (λ c s. joined_no_worse t c s)) (below_redrawn es)

-- A COVER OF THE DRAWN TREE GIVES ONE OF THE JOINED TREE WITH AS MANY TABLES
pub joined_cover : (K : ℕ) (t : Node) (c : Cover) → CoverOf K t c → (d : Cover) × CoverOf K (joined_tree t) d × (tables d ≡ tables c)
joined_cover K t c h =
    let r = joined_no_worse K t c h.split in
    (r.0, record { split = r.1; root = r.2.root h.root; fits = r.2.fits h.fits }, r.2.count)

-- JOINING NEVER RAISES THE LEAST NUMBER
pub joined_least : {K : ℕ} {t : Node} {n m : ℕ} → Least K t n → Least K (joined_tree t) m → m ≤ n
joined_least {K} {t} drawn joined =
    let c = drawn.some in
    let d = joined_cover K t c.0 c.1 in
    omega (arith, joined.none_fewer d.0 d.1, d.2, c.2)
