-- Fragments on the stack of a plan's run: which fanins of the drawn gate one stands for, and with which key.
-- A join of two such fragments, each held or chosen, stands for the fanins of both.
use Rattle.std.specs.Prelude.{ℕ, zero, suc, ◌+◌, ◌≤◌, ◌<◌, ◌≡◌, refl, Bool, false, List, [], ◌∷◌, ◌++◌, map, length, get_or}
use Rattle.std.proofs.Common.{arith, subst, append-nil}
use Rattle.lists.specs.Trusted.Lists.{Inserted, Permuted, empty, more}
use Rattle.lists.specs.Sequences.{Paired, no_pair, pair, upto}
use Rattle.lists.specs.MixLaws.{paired_append}
use Rattle.tree.specs.Trusted.Tree.{Node, Edges, none, edge, edge_count}
use Rattle.cover.specs.Trusted.Cover.{Cover, net, top, Fanins, end, pick, arity, frontier, tables, tables*, width, widths, Fits*, Fits, SplitOf, same, split, Matched, done, match}
use Rattle.plan.specs.declared.Key.{Key}
use Rattle.plan.specs.Key.{leaf_key, KeyTaken, held, cut, KeyJoined}
use Rattle.plan.specs.Plans.{Fragment, drawn, made, marked, place_fragment, PlanSays, Standing, Ready, ready_none, ready_edge}

-- ---- which fanin a cover stands for

abbrev pub Names : Edges → ℕ → Bool × Cover → Type 0
Names none n q = ⊥
Names (edge i t es) zero q = (q.0 ≡ i) × SplitOf t q.1
Names (edge i t es) (suc n) q = Names es n q

names_up : (i : Bool) (t : Node) (es : Edges) (ns : List ℕ) {xs : List (Bool × Cover)} →
    Paired (Names (edge i t es)) (map suc ns) xs → Paired (Names es) ns xs
names_up i t es [] no_pair = no_pair
names_up i t es (n ∷ ns) (pair h p) = pair h (names_up i t es ns p)

-- each fanin has one
pub names_matched : (es : Edges) {xs ys : List (Bool × Cover)} → Paired (Names es) (upto (edge_count es)) xs → Permuted xs ys →
    Matched es ys
names_matched none no_pair empty = done
names_matched (edge i t es) (pair {y = q} h p) (more {ys = ys} {zs = zs} j r) =
    match (subst (λ b. Inserted (b, q.1) ys zs) h.0 j) h.1 (names_matched es (names_up i t es (upto (edge_count es)) p) r)

-- ---- a fragment that stands for some fanins

pub marked_split : {t : Node} {c : Cover} (m : ℕ) → SplitOf t c → SplitOf t (marked m c)
marked_split m same = same
marked_split m (split d) = split d

-- the fanins that it brings
abbrev pub listed : ℕ → Fragment → List (Bool × Cover)
listed m (drawn q) = (q.0, marked m q.1) ∷ []
listed m (made s) = frontier s

pub place_frontier : (m : ℕ) (f : Fragment) (fs : Fanins) → frontier (place_fragment m f fs) ≡ listed m f ++ frontier fs
place_frontier m (drawn q) fs = refl
place_frontier m (made s) fs = refl

pub place_arity : (m : ℕ) (f : Fragment) (fs : Fanins) → arity (place_fragment m f fs) ≡ 1 + arity fs
place_arity m (drawn q) fs = refl
place_arity m (made s) fs = refl

module _ (K : ℕ) where
  -- a gate with the key a, held or chosen
  mark_gate : (m w n : ℕ) {a x : Key} {l : Bool} → w ≤ K → n ≡ a.below → w ≡ a.width → KeyTaken a l x → PlanSays l m →
      pick m (Unit {0}) (w ≤ K) × (pick m 0 1 + n ≡ x.below) × (pick m w 1 ≡ x.width)
  mark_gate zero w n h c i held s = (tt, omega arith, i)
  mark_gate (suc m) w n h c i held s = absurd (omega arith)
  mark_gate zero w n h c i (cut g) s = absurd (omega arith)
  mark_gate (suc m) w n h c i (cut g) s = (h, omega arith, refl)

  mark_cover : (c : Cover) {t : Node} {a x : Key} {l : Bool} (m : ℕ) → Standing K t a c → KeyTaken a l x → PlanSays l m →
      Fits (marked m c) K × (tables (marked m c) ≡ x.below) × (width (marked m c) ≡ x.width)
  mark_cover (net n) m s held e = (tt, s.count, s.inputs)
  mark_cover (net n) m s (cut h) e = absurd (omega (arith, s.inputs))
  mark_cover (top zero k fs) m s g e =
      let r = mark_gate m (widths fs) (tables* fs) s.small (omega (arith, s.count)) s.inputs g e in
      ((s.fits.0, r.0, s.fits.2), r.1, r.2)
  mark_cover (top (suc z) k fs) m s g e = absurd (omega (arith, s.free))

  pub ready_names : {es : Edges} {ds : List (Bool × Cover)} {ks : List Key} → Ready K es ds ks → (n : ℕ) → n < length ks →
      let q = get_or ds n (false, net 0) in
      (t : Node) × Standing K t (get_or ks n leaf_key) q.1 × ((m : ℕ) → Names es n (q.0, marked m q.1))
  ready_names ready_none n l = absurd (omega arith)
  ready_names (ready_edge s r) zero l = (_, s, λ m. (refl, marked_split m s.splits))
  ready_names (ready_edge s r) (suc n) l = ready_names r n (omega arith)

  module _ (es : Edges) where
    pub data FragmentOf : Fragment → List ℕ → Key → Type 0 where
      as_drawn : {q : Bool × Cover} {n : ℕ} {t : Node} {k : Key} →
          Standing K t k q.1 → ((m : ℕ) → Names es n (q.0, marked m q.1)) → FragmentOf (drawn q) (n ∷ []) k
      as_made : {s : Fanins} {ns : List ℕ} {k : Key} → Paired (Names es) ns (frontier s) → 2 ≤ arity s → Fits* s K → widths s ≤ K →
          tables* s ≡ k.below → widths s ≡ k.width → FragmentOf (made s) ns k

    -- as a fanin of a gate, with the mark m and the key k
    record Item (ns : List ℕ) (k : Key) (m : ℕ) (f : Fragment) : Type 0 where
      names : Paired (Names es) ns (listed m f)
      fits : (fs : Fanins) → Fits* fs K → Fits* (place_fragment m f fs) K
      count : (fs : Fanins) → tables* (place_fragment m f fs) ≡ k.below + tables* fs
      inputs : (fs : Fanins) → widths (place_fragment m f fs) ≡ k.width + widths fs

    fragment_item : {f : Fragment} {ns : List ℕ} {a x : Key} {l : Bool} (m : ℕ) → FragmentOf f ns a → KeyTaken a l x → PlanSays l m →
        Item ns x m f
    fragment_item m (as_drawn {q = q} s h) g e =
        let r = mark_cover q.1 m s g e in
        record {
          names = pair (h m) no_pair;
          fits = λ fs f. (r.0, f);
          count = λ fs. rw r.1;
          inputs = λ fs. rw r.2;
        }
    fragment_item m (as_made {s = s} p h f w c i) g e =
        let r = mark_gate m (widths s) (tables* s) w c i g e in
        record {
          names = p;
          fits = λ fs y. ((h, r.0, f), y);
          count = λ fs. rw r.1;
          inputs = λ fs. rw r.2;
        }

    pub fragment_join : {f g : Fragment} {ms ns : List ℕ} {a b k : Key} {l r : Bool} (m n : ℕ) → FragmentOf f ms a → FragmentOf g ns b →
        KeyJoined K l r a b k → PlanSays l m → PlanSays r n → FragmentOf (made (place_fragment m f (place_fragment n g end))) (ms ++ ns) k
    fragment_join {f} {g} {ms} {ns} {k = k} m n s t w d e =
        let x = fragment_item m s w.took_left d in
        let y = fragment_item n t w.took_right e in
        let fs = place_fragment n g end in
        as_made {s = place_fragment m f fs} {ns = ms ++ ns} {k = k}
        (rw (place_frontier m f fs, place_frontier n g end, append-nil (listed n g)) (paired_append x.names y.names))
        (omega (arith, place_arity m f fs, place_arity n g end))
        (x.fits fs (y.fits end tt))
        (omega (arith, w.fits, x.inputs fs, y.inputs end))
        (rw w.is (omega (arith, x.count fs, y.count end)))
        (rw w.is (omega (arith, x.inputs fs, y.inputs end)))
