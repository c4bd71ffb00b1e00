-- The gates of a tree. Internal definitions.
use Rattle.std.specs.Prelude.{List, [], ◌∷◌, ◌++◌}
use Rattle.tree.specs.Trusted.Tree.{Node, Edges}

-- the gates that stand in a tree, each as the tree that it is the root of
abbrev mutual
  pub gate_trees : Node → List Node
  gate_trees (Node.leaf n) = []
  gate_trees (Node.gate k es) = Node.gate k es ∷ gate_trees* es

  pub gate_trees* : Edges → List Node
  gate_trees* Edges.none = []
  gate_trees* (Edges.edge i t es) = gate_trees t ++ gate_trees* es
