-- The tree that a sheet draws. Definitions only.
use Rattle.std.specs.Prelude.{ℕ, ◌-◌, List, [], ◌∷◌, ◌++◌, length, get_or}
use Rattle.tree.specs.Trusted.Tree.{Node, Edges}
use Rattle.sheet.specs.declared.Source.{Source}
use Rattle.sheet.specs.declared.Source.TheVariants.{Net as net, Gate as gate}
use Rattle.sheet.specs.declared.Edge.{Edge as Fanin}
use Rattle.sheet.specs.Trusted.Sheet.{DrawnGate, DrawnSheet}

-- the tree of gate g, where `ts` has the gates' trees in order
abbrev pub tree_at : List Node → ℕ → Node
tree_at ts g = get_or ts (g - 1) (Node.leaf 0)

abbrev pub node_of : List Node → Source → Node
node_of ts (net n) = Node.leaf n
node_of ts (gate g) = tree_at ts g

abbrev pub edges_of : List Node → List Fanin → Edges
edges_of ts [] = Edges.none
edges_of ts (f ∷ fs) = Edges.edge f.inverted (node_of ts f.source) (edges_of ts fs)

-- the trees of the gates, after those of the gates before them
abbrev pub trees_of : List Node → List DrawnGate → List Node
trees_of ts [] = ts
trees_of ts (g ∷ gs) = trees_of (ts ++ (Node.gate g.kind (edges_of ts g.fanins) ∷ [])) gs

-- the last gate is the root
abbrev pub tree_of : DrawnSheet → Node
tree_of s = tree_at (trees_of [] s.gates) (length s.gates)
