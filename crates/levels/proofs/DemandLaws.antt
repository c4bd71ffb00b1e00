-- A run of a plan that joins all the fanins of a gate, each once, makes the fanins of a split of the gate that meet the plan's
-- demand, whatever numbers the run gives to what it places. So a plan that meets what is least makes a fastest cover.
use Rattle.std.specs.Prelude.{ℕ, zero, suc, ◌+◌, ◌≤◌, ◌<◌, max, ◌≡◌, refl, Bool, true, false, List, [], ◌∷◌, ◌++◌, length, get_or}
use Rattle.std.proofs.Common.{arith, ap, ◌∙◌, subst, append-nil}
use Rattle.lists.specs.Trusted.Lists.{Permuted}
use Rattle.lists.specs.Sequences.{Paired, no_pair, pair, upto}
use Rattle.lists.specs.ListLaws.{permuted_length}
use Rattle.lists.specs.MixLaws.{paired_append, paired_permuted}
use Rattle.lists.specs.NumberLaws.{upto_length}
use Rattle.tree.specs.declared.Kind.{Kind}
use Rattle.tree.specs.Trusted.Tree.{Node, leaf, gate, Edges}
use Rattle.cover.specs.Trusted.Cover.{Cover, net, top, Fanins, end, pick, frontier, tables, tables*, width, widths, Fits, Fits*, same, split, rooted, CoverOf}
use Rattle.plan.specs.Fragments.{Names, names_matched, marked_split, listed, place_frontier, place_arity}
use Rattle.tree.specs.Trusted.Tree.{edge_count}
use Rattle.plan.specs.Plans.{Fragment, drawn, made, marked, place_fragment, PlanSays, Runs, stop, pushed, joined}
use Rattle.plan.specs.PlanLaws.{runs_append, runs_split, last_join, some_mark}
use Rattle.plan.specs.declared.Token.{Token}
use Rattle.plan.specs.declared.Token.TheVariants.{Join as join}
use Rattle.levels.specs.Trusted.Levels.{level, levels}
use Rattle.levels.specs.Demands.{Demand, demand, taken_as, DemandJoins, PlanMeets, fanin, binary, DemandPlanned, LevelStanding, LevelReady, ready_none, ready_edge, Fans, LevelBody}

module _ (K : ℕ) (lev : ℕ → ℕ) where
  -- ---- an operand, held or placed

  mark_gate : (m : ℕ) (l : Bool) (w h n : ℕ) (a : Demand) → PlanSays l m → w ≤ K → w ≤ a.inputs → h ≤ a.bound → n ≤ a.below →
      pick m (Unit {0}) (w ≤ K) × (pick m w 1 ≤ (taken_as l a).inputs) × (pick m h (1 + h) ≤ (taken_as l a).bound) ×
      (pick m 0 1 + n ≤ (taken_as l a).below)
  mark_gate zero false w h n a e b i j k = (tt, i, j, omega arith)
  mark_gate zero true w h n a e b i j k = absurd (omega arith)
  mark_gate (suc m) false w h n a e b i j k = absurd (omega arith)
  mark_gate (suc m) true w h n a e b i j k = (b, omega arith, omega arith, omega arith)

  mark_net : (l : Bool) (h : ℕ) (a : Demand) → 1 ≤ a.inputs → h ≤ a.bound →
      (1 ≤ (taken_as l a).inputs) × (h ≤ (taken_as l a).bound) × (0 ≤ (taken_as l a).below)
  mark_net false h a i j = (i, j, omega arith)
  mark_net true h a i j = (omega arith, omega arith, omega arith)

  mark_cover : (c : Cover) {t : Node} {a : Demand} (m : ℕ) (l : Bool) → PlanSays l m → LevelStanding K lev t a c →
      Fits (marked m c) K × (width (marked m c) ≤ (taken_as l a).inputs) × (level lev (marked m c) ≤ (taken_as l a).bound) ×
      (tables (marked m c) ≤ (taken_as l a).below)
  mark_cover (net n) {a = a} m l e s = let q = mark_net l (lev n) a s.inputs s.high in (tt, q.0, q.1, q.2)
  mark_cover (top zero k fs) {a = a} m l e s =
      let q = mark_gate m l (widths fs) (levels lev fs) (tables* fs) a e s.small s.inputs s.high (omega (arith, s.count)) in
      ((s.fits.0, q.0, s.fits.2), q.1, q.2, q.3)
  mark_cover (top (suc z) k fs) m l e s = absurd (omega (arith, s.free))

  ready_names : {es : Edges} {ds : List (Bool × Cover)} {qs : List Demand} → LevelReady K lev es ds qs → (n : ℕ) → n < length qs →
      let q = get_or ds n (false, net 0) in
      (t : Node) × LevelStanding K lev t (get_or qs n (demand 0 0 0)) q.1 × ((m : ℕ) → Names es n (q.0, marked m q.1))
  ready_names ready_none n l = absurd (omega arith)
  ready_names (ready_edge s r) zero l = (_, s, λ m. (refl, marked_split m s.splits))
  ready_names (ready_edge s r) (suc n) l = ready_names r n (omega arith)

  -- ---- a fragment that stands for some fanins and meets a demand

  module _ (es : Edges) where
    data Stands : Fragment → List ℕ → Demand → Type 0 where
      as_drawn : {q : Bool × Cover} {n : ℕ} {t : Node} {d : Demand} →
          LevelStanding K lev t d q.1 → ((m : ℕ) → Names es n (q.0, marked m q.1)) → Stands (drawn q) (n ∷ []) d
      as_made : {s : Fanins} {ns : List ℕ} {d : Demand} → Paired (Names es) ns (frontier s) → Fans K lev d s → Stands (made s) ns d

    -- as a fanin of a gate, with the mark m
    record Item (ns : List ℕ) (d : Demand) (m : ℕ) (f : Fragment) : Type 0 where
      names : Paired (Names es) ns (listed m f)
      fits : (fs : Fanins) → Fits* fs K → Fits* (place_fragment m f fs) K
      inputs : (fs : Fanins) → widths (place_fragment m f fs) ≤ d.inputs + widths fs
      high : (fs : Fanins) → levels lev (place_fragment m f fs) ≤ max d.bound (levels lev fs)
      count : (fs : Fanins) → tables* (place_fragment m f fs) ≤ d.below + tables* fs

    stands_item : {f : Fragment} {ns : List ℕ} {a : Demand} (m : ℕ) (l : Bool) → PlanSays l m → Stands f ns a → Item ns (taken_as l a) m f
    stands_item m l e (as_drawn {q = q} s h) =
        let r = mark_cover q.1 m l e s in
        record {
          names = pair (h m) no_pair;
          fits = λ fs f. (r.0, f);
          inputs = λ fs. omega (arith, r.1);
          high = λ fs. omega (arith, r.2);
          count = λ fs. omega (arith, r.3);
        }
    stands_item {a = a} m l e (as_made {s = s} p g) =
        let r = mark_gate m l (widths s) (levels lev s) (tables* s) a e g.small g.inputs g.high g.count in
        record {
          names = p;
          fits = λ fs f. ((g.many, r.0, g.fits), f);
          inputs = λ fs. omega (arith, r.1);
          high = λ fs. omega (arith, r.2);
          count = λ fs. omega (arith, r.3);
        }

    stands_join : {f g : Fragment} {ms ns : List ℕ} {a b d : Demand} (l r : Bool) (m n : ℕ) → PlanSays l m → PlanSays r n →
        Stands f ms a → Stands g ns b → DemandJoins K (taken_as l a) (taken_as r b) d → Stands (made (place_fragment m f (place_fragment n g end))) (ms ++ ns) d
    stands_join {f} {g} {ms} {ns} {a} {b} {d} l r m n i j s t w =
        let x = stands_item m l i s in
        let y = stands_item n r j t in
        let fs = place_fragment n g end in
        as_made {s = place_fragment m f fs} {ns = ms ++ ns} {d = d}
        (rw (place_frontier m f fs, place_frontier n g end, append-nil (listed n g)) (paired_append x.names y.names))
        (record {
          many = omega (arith, place_arity m f fs, place_arity n g end);
          fits = x.fits fs (y.fits end tt);
          small = omega (arith, w.inputs, w.most, x.inputs fs, y.inputs end);
          inputs = omega (arith, w.inputs, x.inputs fs, y.inputs end);
          high = omega (arith, w.left, w.right, x.high fs, y.high end);
          count = omega (arith, w.below, x.count fs, y.count end);
        })

  -- ---- a run

  module _ {es : Edges} {ds : List (Bool × Cover)} {qs : List Demand} (r : LevelReady K lev es ds qs) where
    run_stands : {p : List Token} {ns : List ℕ} {d : Demand} → PlanMeets K qs p ns d → (st st' : List Fragment) → Runs ds p st st' →
        (f : Fragment) × (st' ≡ f ∷ st) × Stands es f ns d
    run_stands (fanin i l) st _ (pushed stop) = let q = ready_names r i l in (_, refl, as_drawn q.1 q.2)
    run_stands (binary {p = p} {q = q} l c a b w) st st' h =
        let u = runs_split p h in
        let x = run_stands a st u.0 u.1 in
        let v = runs_split q {q = join l c ∷ []} (subst (λ s. Runs ds (q ++ (join l c ∷ [])) s st') x.1 u.2) in
        let y = run_stands b (x.0 ∷ st) v.0 v.1 in
        let z = last_join {l = l} {c = c} (subst (λ s. Runs ds (join l c ∷ []) s st') y.1 v.2) in
        (made (place_fragment z.0 x.0 (place_fragment z.1 y.0 end)), z.4, stands_join es l c z.0 z.1 z.2 z.3 x.2 y.2 w)

  ready_edges : {es : Edges} {ds : List (Bool × Cover)} {qs : List Demand} → LevelReady K lev es ds qs → length qs ≡ edge_count es
  ready_edges ready_none = refl
  ready_edges (ready_edge s r) = ap suc (ready_edges r)

  stands_body : {es : Edges} {f : Fragment} {ns : List ℕ} {d : Demand} → Stands es f ns d → Permuted ns (upto (edge_count es)) →
      2 ≤ edge_count es → (body : Fanins) × (f ≡ made body) × LevelBody K lev es d body
  stands_body {es} (as_drawn s h) p two = absurd (omega (arith, permuted_length p, upto_length (edge_count es)))
  stands_body {es} (as_made {s = s} x g) p two =
      let q = paired_permuted p x in
      (s, refl, record { matched = names_matched es q.2 q.1; fans = g })

  -- THE RUN OF A PLAN makes the fanins of a split of the gate, which meet the plan's demand
  pub demand_body : {es : Edges} {ds : List (Bool × Cover)} {qs : List Demand} {p : List Token} {d : Demand} {st : List Fragment} →
      LevelReady K lev es ds qs → 2 ≤ length qs → DemandPlanned K qs (upto (length qs)) p d → Runs ds p [] st →
      (body : Fanins) × (st ≡ made body ∷ []) × LevelBody K lev es d body
  demand_body {es} r two pl h =
      let x = run_stands r pl.meets [] _ h in
      let e = ready_edges r in
      let b = stands_body x.2 (rw e at pl.once) (omega arith) in
      (b.0, x.1 ∙ ap (λ f. f ∷ []) b.1, b.2)

  -- and there is one
  pub demand_runs : {qs : List Demand} {p : List Token} {ns : List ℕ} {d : Demand} → PlanMeets K qs p ns d →
      (ds : List (Bool × Cover)) (st : List Fragment) → (f : Fragment) × Runs ds p st (f ∷ st)
  demand_runs (fanin i l) ds st = (_, pushed stop)
  demand_runs (binary l c a b w) ds st =
      let x = demand_runs a ds st in
      let y = demand_runs b ds (x.0 ∷ st) in
      let m = some_mark K l in
      let n = some_mark K c in
      (_, runs_append x.1 (runs_append y.1 (joined m.0 n.0 m.1 n.1 stop)))

  -- ---- a net, and a gate with such fanins: not placed, and as the root

  pub level_net : (n : ℕ) (d : Demand) → 1 ≤ K → 1 ≤ d.inputs → lev n ≤ d.bound → LevelStanding K lev (leaf n) d (net n)
  level_net n d k i h = record { splits = same; free = refl; fits = tt; small = k; inputs = i; high = h; count = omega arith }

  module _ {es : Edges} {d : Demand} {body : Fanins} (b : LevelBody K lev es d body) (k : Kind) where
    pub level_standing : LevelStanding K lev (gate k es) d (top 0 k body)
    level_standing = record {
      splits = split b.matched;
      free = refl;
      fits = (b.fans.many, tt, b.fans.fits);
      small = b.fans.small;
      inputs = b.fans.inputs;
      high = b.fans.high;
      count = omega (arith, b.fans.count);
    }

    pub level_cover : (m : ℕ) → CoverOf K (gate k es) (top (suc m) k body)
    level_cover m = record { split = split b.matched; root = rooted; fits = (b.fans.many, b.fans.small, b.fans.fits) }
