-- How the fastest covers compare with the least ones: they have no fewer tables; and where one table is enough, it is the fastest, one
-- level above the highest net that is read.
use Rattle.std.specs.Prelude.{ℕ, suc, ◌≤◌, ◌≡◌, T}
use Rattle.std.proofs.Common.{add-zero, arith}
use Rattle.lists.specs.Trusted.Lists.{Every}
use Rattle.tree.specs.declared.Kind.{Kind}
use Rattle.tree.specs.Trusted.Tree.{Node, leaf, gate, Edges}
use Rattle.tree.specs.Measures.{leaves, proper}
use Rattle.cover.specs.Trusted.Cover.{Cover, SplitOf, Rooted, rooted, Least}
use Rattle.levels.specs.Trusted.Levels.{Fastest}
use Rattle.levels.specs.Gives.{fanins}
use Rattle.levels.specs.GivesLaws.{nets_in, gives_above, gives_lower}
use Rattle.levels.proofs.Under.{cover_gives}
use Rattle.levels.proofs.Fastest.{gives_fastest}
use Rattle.levels.specs.Lines.{Greatest}

-- NEVER FEWER TABLES than the least number
pub least_fastest : {lev : ℕ → ℕ} {K : ℕ} {t : Node} {m n d : ℕ} → Fastest lev K t n d → Least K t m → m ≤ n
least_fastest f l = let c = f.some in omega (arith, c.3, l.none_fewer c.0 c.1)

-- a net has no cover
no_root : {n : ℕ} {c : Cover} → Rooted c → SplitOf (leaf n) c → ⊥
no_root rooted s = elim s [ ]

module _ {K : ℕ} {lev : ℕ → ℕ} (some : 1 ≤ K) where
  -- WHERE ONE TABLE IS ENOUGH it is the fastest cover
  pub one_fastest : {k : Kind} {es : Edges} {a : ℕ} → T (proper (gate k es)) → Greatest lev (fanins es) a → Least K (gate k es) 1 →
      Fastest lev K (gate k es) 1 (suc a)
  one_fastest {k} {es} {a} p g l =
      let c = l.some in
      let (ℓ, w, n, u, v, x) = cover_gives K lev c.0 c.1 in
      let z : n ≡ 0 = omega (arith, c.2) in
      gives_fastest K lev k es some p (rw (z, add-zero) at (gives_lower a g.nets x)) (λ ℓ v c y. g.least ℓ (gives_above y)) (λ v c y. omega arith)

  -- over free nets its level is 1
  pub free_fastest : (t : Node) → T (proper t) → Every (λ x. lev x ≡ 0) (leaves t) → Least K t 1 → Fastest lev K t 1 1
  free_fastest (leaf n) p h l = let c = l.some in absurd (no_root c.1.root c.1.split)
  free_fastest (gate k es) p h l =
      one_fastest p (record { nets = nets_in es (λ x m. omega (arith, h x m)); least = λ ℓ s. omega arith }) l
