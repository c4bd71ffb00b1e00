-- What the laws look at in a tree: its leaves, its value, and whether each gate has two fanins or more. Internal definitions.
use Rattle.std.specs.Prelude.{ℕ, Bool, true, false, ◌&&◌, List, [], ◌∷◌, ◌++◌}
use Rattle.tree.specs.declared.Kind.{Kind}
use Rattle.tree.specs.Trusted.Tree.{Node, leaf, gate, Edges, none, edge, turned, meet, unit}

-- the nets that the tree reads
abbrev mutual
  pub leaves : Node → List ℕ
  leaves (leaf n) = n ∷ []
  leaves (gate k es) = leaves* es

  pub leaves* : Edges → List ℕ
  leaves* none = []
  leaves* (edge i t es) = leaves t ++ leaves* es

-- its value, where σ has the value of each net
abbrev mutual
  pub value : Node → (ℕ → Bool) → Bool
  value (leaf n) σ = σ n
  value (gate k es) σ = values es k σ

  pub values : Edges → Kind → (ℕ → Bool) → Bool
  values none k σ = unit k
  values (edge i t es) k σ = meet k (turned i (value t σ)) (values es k σ)

-- two fanins or more
abbrev pub many : Edges → Bool
many none = false
many (edge i t none) = false
many (edge i t (edge j u es)) = true

-- each gate has two fanins or more
abbrev mutual
  pub proper : Node → Bool
  proper (leaf n) = true
  proper (gate k es) = many es && propers es

  pub propers : Edges → Bool
  propers none = true
  propers (edge i t es) = proper t && propers es
