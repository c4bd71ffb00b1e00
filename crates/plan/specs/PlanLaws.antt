-- A run of a plan that joins all the fanins of a gate, each once, makes the fanins of a split of the gate, with the plan's key;
-- whatever numbers the run gives to what it places. And there is such a run.
use Rattle.std.specs.Prelude.{ℕ, suc, ◌≤◌, ◌≡◌, refl, Bool, true, false, List, [], ◌∷◌, ◌++◌, length}
use Rattle.std.proofs.Common.{arith, ap, ◌∙◌, subst}
use Rattle.lists.specs.Trusted.Lists.{Permuted}
use Rattle.lists.specs.Sequences.{upto}
use Rattle.lists.specs.ListLaws.{permuted_length}
use Rattle.lists.specs.MixLaws.{paired_permuted}
use Rattle.lists.specs.NumberLaws.{upto_length}
use Rattle.tree.specs.declared.Kind.{Kind}
use Rattle.tree.specs.Trusted.Tree.{leaf, gate, Edges, edge_count}
use Rattle.cover.specs.Trusted.Cover.{Cover, net, top, Fanins, end, same, split, rooted, CoverOf}
use Rattle.plan.specs.declared.Key.{Key}
use Rattle.plan.specs.Key.{leaf_key}
use Rattle.plan.specs.declared.Token.{Token}
use Rattle.plan.specs.declared.Token.TheVariants.{Push as push, Join as join}
use Rattle.plan.specs.Plans.{Denotes, fanin, binary, Planned, Fragment, made, place_fragment, PlanSays, Runs, stop, pushed, joined, Standing, Ready, ready_none, ready_edge, Body}
use Rattle.plan.specs.Fragments.{names_matched, FragmentOf, as_drawn, as_made, ready_names, fragment_join}

-- ---- a run

unfoldable pub runs_append : {ds : List (Bool × Cover)} {p q : List Token} {st st' st'' : List Fragment} →
    Runs ds p st st' → Runs ds q st' st'' → Runs ds (p ++ q) st st''
runs_append stop b = b
runs_append (pushed a) b = pushed (runs_append a b)
runs_append (joined m n d e a) b = joined m n d e (runs_append a b)

pub runs_split : {ds : List (Bool × Cover)} (p : List Token) {q : List Token} {st st'' : List Fragment} →
    Runs ds (p ++ q) st st'' → (st' : List Fragment) × Runs ds p st st' × Runs ds q st' st''
runs_split [] a = (_, stop, a)
runs_split (push i ∷ p) (pushed a) = let r = runs_split p a in (r.0, pushed r.1, r.2)
runs_split (join l c ∷ p) (joined m n d e a) = let r = runs_split p a in (r.0, joined m n d e r.1, r.2)

pub last_join : {ds : List (Bool × Cover)} {l c : Bool} {x y : Fragment} {st st' : List Fragment} →
    Runs ds (join l c ∷ []) (y ∷ x ∷ st) st' →
    (m : ℕ) × (n : ℕ) × PlanSays l m × PlanSays c n × (st' ≡ made (place_fragment m x (place_fragment n y end)) ∷ st)
last_join (joined m n d e stop) = (m, n, d, e, refl)

module _ (K : ℕ) where
  module _ {es : Edges} {ds : List (Bool × Cover)} {ks : List Key} (r : Ready K es ds ks) where
    run_stands : {p : List Token} {ns : List ℕ} {k : Key} → Denotes K ks p ns k → (st st' : List Fragment) → Runs ds p st st' →
        (f : Fragment) × (st' ≡ f ∷ st) × FragmentOf K es f ns k
    run_stands (fanin i l) st _ (pushed stop) = let q = ready_names K r i l in (_, refl, as_drawn q.1 q.2)
    run_stands (binary {p = p} {q = q} {l = l} {r = c} a b w) st st' h =
        let u = runs_split p h in
        let x = run_stands a st u.0 u.1 in
        let v = runs_split q {q = join l c ∷ []} (subst (λ s. Runs ds (q ++ (join l c ∷ [])) s st') x.1 u.2) in
        let y = run_stands b (x.0 ∷ st) v.0 v.1 in
        let z = last_join {l = l} {c = c} (subst (λ s. Runs ds (join l c ∷ []) s st') y.1 v.2) in
        (made (place_fragment z.0 x.0 (place_fragment z.1 y.0 end)), z.4, fragment_join K es z.0 z.1 x.2 y.2 w z.2 z.3)

  -- ---- what it makes

  ready_edges : {es : Edges} {ds : List (Bool × Cover)} {ks : List Key} → Ready K es ds ks → length ks ≡ edge_count es
  ready_edges ready_none = refl
  ready_edges (ready_edge s r) = ap suc (ready_edges r)

  fragment_body : {es : Edges} {f : Fragment} {ns : List ℕ} {k : Key} → FragmentOf K es f ns k → Permuted ns (upto (edge_count es)) →
      2 ≤ edge_count es → (body : Fanins) × (f ≡ made body) × Body K es k body
  fragment_body {es} (as_drawn s h) p two = absurd (omega (arith, permuted_length p, upto_length (edge_count es)))
  fragment_body {es} (as_made {s = s} d h f w c i) p two =
      let q = paired_permuted p d in
      (s, refl, record { many = h; matched = names_matched es q.2 q.1; fits = f; small = w; count = c; inputs = i })

  -- THE RUN OF A PLAN makes the fanins of a split of the gate, with the plan's key
  pub plan_body : {es : Edges} {ds : List (Bool × Cover)} {ks : List Key} {p : List Token} {k : Key} {st : List Fragment} →
      Ready K es ds ks → 2 ≤ length ks → Planned K ks (upto (length ks)) p k → Runs ds p [] st →
      (body : Fanins) × (st ≡ made body ∷ []) × Body K es k body
  plan_body {es} r two pl h =
      let x = run_stands r pl.denotes [] _ h in
      let e = ready_edges r in
      let b = fragment_body x.2 (rw e at pl.once) (omega arith) in
      (b.0, x.1 ∙ ap (λ f. f ∷ []) b.1, b.2)

  pub some_mark : (l : Bool) → (m : ℕ) × PlanSays l m
  some_mark false = (0, refl)
  some_mark true = (1, omega arith)

  pub plan_runs : {ks : List Key} {p : List Token} {ns : List ℕ} {k : Key} → Denotes K ks p ns k →
      (ds : List (Bool × Cover)) (st : List Fragment) → (f : Fragment) × Runs ds p st (f ∷ st)
  plan_runs (fanin i l) ds st = (_, pushed stop)
  plan_runs (binary {l = l} {r = c} a b w) ds st =
      let x = plan_runs a ds st in
      let y = plan_runs b ds (x.0 ∷ st) in
      let m = some_mark l in
      let n = some_mark c in
      (_, runs_append x.1 (runs_append y.1 (joined m.0 n.0 m.1 n.1 stop)))

  -- ---- a gate with such fanins: not placed, and as the root

  pub net_standing : (n : ℕ) → 1 ≤ K → Standing K (leaf n) leaf_key (net n)
  net_standing n h = record { splits = same; free = refl; fits = tt; small = h; count = refl; inputs = refl }

  module _ {es : Edges} {a : Key} {body : Fanins} (b : Body K es a body) (k : Kind) where
    pub body_standing : Standing K (gate k es) a (top 0 k body)
    body_standing = record {
      splits = split b.matched;
      free = refl;
      fits = (b.many, tt, b.fits);
      small = b.small;
      count = omega (arith, b.count);
      inputs = b.inputs;
    }

    pub body_cover : (m : ℕ) → CoverOf K (gate k es) (top (suc m) k body)
    body_cover m = record { split = split b.matched; root = rooted; fits = (b.many, b.small, b.fits) }
