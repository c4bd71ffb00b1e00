-- Trees and their fastest covers, computed. The first has more tables in them than in its least ones: where a table has at most 3
-- inputs, two tables do, and a root of level 2 needs three.
use Rattle.std.specs.Prelude.{ℕ, suc, ◌≤◌, ◌<◌, ◌≡◌, refl, cond, false, T, eqb}
use native.Mathlib.Omega.{arith}
use Rattle.tree.specs.declared.Kind.{Kind}
use Rattle.tree.specs.declared.Kind.TheVariants.{And as and, Or as or}
use Rattle.tree.specs.Trusted.Tree.{Node, leaf, gate, Edges, none, edge}
use Rattle.tree.specs.Measures.{proper}
use Rattle.cover.specs.Trusted.Cover.{Least}
use Rattle.plan.specs.Key.{better, pack}
use Rattle.plan.specs.Subsets.{least_of}
use Rattle.plan.specs.Least.{least_is}
use Rattle.levels.specs.Trusted.Levels.{Fastest}
use Rattle.levels.specs.Gives.{fanins, size}
use Rattle.levels.specs.Fill.{sum_of, tried, cell, at, tree_line}
use Rattle.levels.proofs.Found.{fastest_found}

-- two fanins, and a gate over two
abbrev two : Node → Node → Edges
two t u = edge false t (edge false u none)

abbrev pair_of : Kind → Node → Node → Node
pair_of k t u = gate k (two t u)

module _ (K : ℕ) (lev : ℕ → ℕ) (k : Kind) (es : Edges) where
  -- the root's entry for K inputs at a bound
  unfoldable root : ℕ → ℕ
  root ℓ = at 255 (tree_line 255 K lev (gate k es) ℓ) K

  by_entries : (ℓ n : ℕ) → (root ℓ ≡ 255) × (root (suc ℓ) ≡ n) → n < 255 → 2 ≤ K → T (proper (gate k es)) → size (fanins es) ≤ 256 →
      Fastest lev K (gate k es) (suc n) (suc (suc ℓ))
  unfolding root
  by_entries ℓ n e l b p room =
      rw e.1 at
      (fastest_found K lev b k es p 255 room (suc ℓ) (omega (arith, e.1)) λ q f.
      let z : q ≡ ℓ = omega arith in
      rw z (omega (arith, e.0)))

-- net n has the level l, and the others are free
abbrev one_late : (n l : ℕ) → ℕ → ℕ
one_late n l m = cond (eqb m n) l 0

abbrev wide : Edges
wide = edge false (leaf 1) (two (pair_of or (leaf 2) (leaf 3)) (pair_of or (leaf 4) (leaf 5)))

wide_entries : (root 3 (one_late 1 1) and wide 0 ≡ 255) × (root 3 (one_late 1 1) and wide 1 ≡ 2)
unfolding root sum_of tried cell
wide_entries = (refl, refl)

pub worked_fastest : Fastest (one_late 1 1) 3 (gate and wide) 3 2
worked_fastest = by_entries 3 (one_late 1 1) and wide 0 2 wide_entries (omega arith) (omega arith) tt (omega arith)

pub worked_least : Least 3 (gate and wide) 2
unfolding least_of better pack
worked_least = least_is 3 (omega arith) and wide tt

-- two nets, one of them five levels up: its level counts
uneven_entries : (root 2 (one_late 2 5) or (two (leaf 1) (leaf 2)) 4 ≡ 255) × (root 2 (one_late 2 5) or (two (leaf 1) (leaf 2)) 5 ≡ 0)
unfolding root sum_of tried cell
uneven_entries = (refl, refl)

pub worked_uneven : Fastest (one_late 2 5) 2 (pair_of or (leaf 1) (leaf 2)) 1 6
worked_uneven = by_entries 2 (one_late 2 5) or (two (leaf 1) (leaf 2)) 4 0 uneven_entries (omega arith) (omega arith) tt (omega arith)

-- three gates in a chain, of alternating kinds: where a table has two inputs, each is a table, one level above the next
abbrev chain : Edges
chain = two (leaf 1) (pair_of or (leaf 2) (pair_of and (leaf 3) (leaf 4)))

chain_entries : (root 2 (λ n. 0) and chain 1 ≡ 255) × (root 2 (λ n. 0) and chain 2 ≡ 2)
unfolding root sum_of tried cell
chain_entries = (refl, refl)

pub worked_chain : Fastest (λ n. 0) 2 (gate and chain) 3 3
worked_chain = by_entries 2 (λ n. 0) and chain 1 2 chain_entries (omega arith) (omega arith) tt (omega arith)
