-- ONE LEAF MORE: with one leaf added to a gate, the least number of tables stays or rises by one (`grown_least`).
-- By induction over the tree: the best key of the second tree is near to that of the first.
use Rattle.std.specs.Prelude.{ℕ, suc, ◌≤◌, ◌≡◌, refl, ◌⊎◌, Bool, ◌&&◌, T, length}
use Rattle.std.proofs.Common.{arith, inl, inr, length-append}
use Rattle.lists.specs.Cases.{and_split, and_both, by_leb}
use Rattle.lists.specs.Trusted.Lists.{here as first, there}
use Rattle.tree.specs.declared.Kind.{Kind}
use Rattle.tree.specs.Trusted.Tree.{Node, gate, Edges, none, edge}
use Rattle.tree.specs.Measures.{many, proper, propers, leaves, leaves*}
use Rattle.cover.specs.Trusted.Cover.{Least}
use Rattle.plan.specs.Reach.{LeastReach, Wide}
use Rattle.plan.specs.ReachLaws.{chain, bests_wide}
use Rattle.plan.specs.SubsetLaws.{least_of_least}
use Rattle.plan.specs.Least.{best, bests, bests_are, least_is, least_unique}
use Rattle.one_more.specs.OneMore.{OneMore, grow, OneMore*, here, below, later}
use Rattle.one_more.specs.Grown.{Near, Grown, added, changed}
use Rattle.one_more.specs.GrownLaws.{grown_near}

-- ---- each gate of the second tree has two fanins or more

and_map : (a b c d : Bool) → (T a → T c) → (T b → T d) → T (a && b) → T (c && d)
and_map a b c d f g h = let p = and_split a b h in and_both c d (f p.0) (g p.1)

more_many : {es fs : Edges} → OneMore* es fs → T (many es) → T (many fs)
more_many (here {es = none}) h = absurd h
more_many (here {es = edge i t es}) h = tt
more_many (below {es = none} o) h = absurd h
more_many (below {es = edge i t es} o) h = tt
more_many (later here) h = tt
more_many (later (below o)) h = tt
more_many (later (later o)) h = tt

mutual
  more_proper : {t u : Node} → OneMore t u → T (proper t) → T (proper u)
  more_proper (grow {es = es} {fs = fs} o) p =
      and_map (many es) (propers es) (many fs) (propers fs) (more_many o) (λ q. more_propers o q) p

  more_propers : {es fs : Edges} → OneMore* es fs → T (propers es) → T (propers fs)
  more_propers here p = p
  more_propers (below {t = t} {u = u} {es = es} o) p =
      and_map (proper t) (propers es) (proper u) (propers es) (λ q. more_proper o q) (λ q. q) p
  more_propers (later {t = t} {es = es} {fs = fs} o) p =
      and_map (proper t) (propers es) (proper t) (propers fs) (λ q. q) (λ q. more_propers o q) p

module _ (K : ℕ) (two : 2 ≤ K) where
  -- ---- the best keys are near

  wide : (es : Edges) → T (propers es) → Wide (bests K es)
  wide es p = bests_wide two es (bests_are K two es p)

  best_reach : (k : Kind) (es : Edges) → T (proper (gate k es)) → LeastReach K (bests K es) (best K (gate k es))
  best_reach k none p = absurd p
  best_reach k (edge i t es) p =
      let q = and_split (many (edge i t es)) (propers (edge i t es)) p in
      least_of_least K two (wide (edge i t es) q.1) (chain _ _).1

  mutual
    more_near : {t u : Node} → OneMore t u → T (proper t) → Near (best K t) (best K u)
    more_near (grow {k = k} {es = es} {fs = fs} o) p =
        let q = more_proper (grow {k = k} o) p in
        let v = (and_split (many es) (propers es) p).1 in
        let w = (and_split (many fs) (propers fs) q).1 in
        grown_near K two (more_grown o v) (wide es v) (wide fs w) (best_reach k es p) (best_reach k fs q)

    more_grown : {es fs : Edges} → OneMore* es fs → T (propers es) → Grown (bests K es) (bests K fs)
    more_grown here p = added first
    more_grown (below {t = t} {es = es} o) p = changed first first (more_near o (and_split (proper t) (propers es) p).0)
    more_grown (later {t = t} {es = es} o) p =
        elim (more_grown o (and_split (proper t) (propers es) p).1) [
          | added i ↦ added (there i)
          | changed i j n ↦ changed (there i) (there j) n
        ]

  -- ---- the least number

  pub grown_least : {t u : Node} {m n : ℕ} → T (proper t) → OneMore t u → Least K t m → Least K u n → (n ≡ m) ⊎ (n ≡ suc m)
  grown_least {m = m} {n = n} p (grow {k = k} {es = es} {fs = fs} o) l h =
      let r = more_near (grow {k = k} o) p in
      let e = least_unique l (least_is K two k es p) in
      let f = least_unique h (least_is K two k fs (more_proper (grow {k = k} o) p)) in
      by_leb (λ b. (n ≡ m) ⊎ (n ≡ suc m)) n m (λ g. inl (omega (arith, r.low.count))) (λ g. inr (omega (arith, r.high.count)))

-- ---- leaves

mutual
  pub more_leaves : {t u : Node} → OneMore t u → length (leaves u) ≡ suc (length (leaves t))
  more_leaves (grow o) = fanins_leaves o

  fanins_leaves : {es fs : Edges} → OneMore* es fs → length (leaves* fs) ≡ suc (length (leaves* es))
  fanins_leaves here = refl
  fanins_leaves (below {t = t} {u = u} {es = es} o) =
      omega (arith, length-append (leaves t) (leaves* es), length-append (leaves u) (leaves* es), more_leaves o)
  fanins_leaves (later {t = t} {es = es} {fs = fs} o) =
      omega (arith, length-append (leaves t) (leaves* es), length-append (leaves t) (leaves* fs), fanins_leaves o)
