-- The keys that binary trees of joins give over a list of keys, each used once, in any order; and the best key of a tree:
-- a leaf's, and of a gate the least that its fanins' best keys reach. Internal definitions.
use Rattle.std.specs.Prelude.{ℕ, ◌≤◌, Bool, List, [], ◌∷◌}
use Rattle.lists.specs.Trusted.Lists.{Every}
use Rattle.lists.specs.Sequences.{Mix}
use Rattle.tree.specs.declared.Kind.{Kind}
use Rattle.tree.specs.Trusted.Tree.{Node, leaf, gate, Edges, none, edge}
use Rattle.plan.specs.declared.Key.{Key}
use Rattle.plan.specs.Key.{leaf_key, ◌≼◌, join}

-- what a tree of joins over the list gives (no list in it is empty, since nothing is reached from an empty one)
pub data Reach (K : ℕ) : List Key → Key → Type 0 where
  one : {x : Key} → Reach K (x ∷ []) x
  both : {xs ys zs : List Key} {a b : Key} → Mix xs ys zs → Reach K xs a → Reach K ys b → Reach K zs (join K a b)

pub record LeastReach (K : ℕ) (ks : List Key) (r : Key) : Type 0 where
  pub reach : Reach K ks r
  pub least : (r' : Key) → Reach K ks r' → r ≼ r'

-- each key has inputs
abbrev pub Wide : List Key → Type 0
Wide = Every (λ k. 1 ≤ k.width)

-- a gate has two fanins or more
mutual
  pub data Best (K : ℕ) : Node → Key → Type 0 where
    at_leaf : {n : ℕ} → Best K (leaf n) leaf_key
    at_gate : {k : Kind} {es : Edges} {a b : Key} {ks : List Key} {r : Key} →
        Bests K es (a ∷ b ∷ ks) → LeastReach K (a ∷ b ∷ ks) r → Best K (gate k es) r

  pub data Bests (K : ℕ) : Edges → List Key → Type 0 where
    at_end : Bests K none []
    at_edge : {i : Bool} {t : Node} {es : Edges} {k : Key} {ks : List Key} →
        Best K t k → Bests K es ks → Bests K (edge i t es) (k ∷ ks)
