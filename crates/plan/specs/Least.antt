-- The best key of a tree, computed, and so the least number of tables of every tree whose gates have two fanins or more.
-- `best_least` is the theorem on best keys; `least_unique` says that there is only one least number.
use Rattle.std.specs.Prelude.{ℕ, suc, ◌+◌, ◌≤◌, ◌≡◌, List, [], ◌∷◌, T}
use Rattle.std.proofs.Common.{arith}
use Rattle.lists.specs.Cases.{and_split}
use Rattle.tree.specs.declared.Kind.{Kind}
use Rattle.tree.specs.Trusted.Tree.{Node, leaf, gate, Edges, none, edge}
use Rattle.tree.specs.Measures.{many, proper, propers}
use Rattle.cover.specs.Trusted.Cover.{top, Fanins, tables, Least}
use Rattle.plan.specs.declared.Key.{Key}
use Rattle.plan.specs.Key.{leaf_key}
use Rattle.plan.specs.Reach.{Wide, Best, at_leaf, at_gate, Bests, at_end, at_edge}
use Rattle.plan.specs.ReachLaws.{chain, bests_wide}
use Rattle.plan.specs.Lower.{root_low}
use Rattle.plan.specs.Plans.{Body}
use Rattle.plan.specs.PlanLaws.{body_cover}
use Rattle.plan.specs.Upper.{gate_body}
use Rattle.plan.specs.Subsets.{least_of}
use Rattle.plan.specs.SubsetLaws.{least_of_least}

pub least_unique : {K : ℕ} {t : Node} {m n : ℕ} → Least K t m → Least K t n → m ≡ n
least_unique g h =
    let c = g.some in
    let d = h.some in
    omega (arith, c.2, d.2, g.none_fewer d.0 d.1, h.none_fewer c.0 c.1)

abbrev mutual
  pub best : ℕ → Node → Key
  best K (leaf n) = leaf_key
  best K (gate k es) = least_of K (bests K es)

  pub bests : ℕ → Edges → List Key
  bests K none = []
  bests K (edge i t es) = best K t ∷ bests K es

-- the least number of tables of a gate
abbrev pub least_tables : ℕ → Node → ℕ
least_tables K t = (best K t).below + 1

module _ (K : ℕ) (two : 2 ≤ K) where
  -- the best key of a gate says how many tables its least cover has
  pub best_least : {k : Kind} {es : Edges} {r : Key} → Best K (gate k es) r → Least K (gate k es) (r.below + 1)
  best_least {k} {es} {r} h =
      let b = gate_body K two h in
      record {
        some = (top 1 k b.0, body_cover K b.1 k 0, omega (arith, b.1.count));
        none_fewer = root_low K two h;
      }

  -- and fanins with the best key make a least cover
  pub body_least : {k : Kind} {es : Edges} {r : Key} {body : Fanins} → Best K (gate k es) r → Body K es r body → (m : ℕ) →
      Least K (gate k es) (tables (top (suc m) k body))
  body_least {k} {r = r} {body = body} h b m =
      let e : tables (top (suc m) k body) ≡ r.below + 1 = omega (arith, b.count) in
      rw e (best_least h)

  gate_best : {k : Kind} {es : Edges} {ks : List Key} → T (many es) → Bests K es ks → Wide ks → Best K (gate k es) (least_of K ks)
  gate_best h at_end w = absurd h
  gate_best h (at_edge b at_end) w = absurd h
  gate_best h (at_edge b (at_edge c bs)) w = at_gate (at_edge b (at_edge c bs)) (least_of_least K two w (chain _ _).1)

  mutual
    pub best_is : (t : Node) → T (proper t) → Best K t (best K t)
    best_is (leaf n) p = at_leaf
    best_is (gate k es) p =
        let q = and_split (many es) (propers es) p in
        let b = bests_are es q.1 in
        gate_best q.0 b (bests_wide two es b)

    pub bests_are : (es : Edges) → T (propers es) → Bests K es (bests K es)
    bests_are none p = at_end
    bests_are (edge i t es) p =
        let q = and_split (proper t) (propers es) p in
        at_edge (best_is t q.0) (bests_are es q.1)

  -- there is a least number, and it is that one
  pub least_is : (k : Kind) (es : Edges) → T (proper (gate k es)) → Least K (gate k es) (least_tables K (gate k es))
  least_is k es p = best_least (best_is (gate k es) p)
