-- A tree with one leaf more. Internal definitions: that a sheet's tree is so related to that of the sheet with one leaf more is in GrownTrees.
-- The leaf's net is any: the least number is the same whatever nets the leaves have.
use Rattle.std.specs.Prelude.{ℕ, Bool}
use Rattle.tree.specs.declared.Kind.{Kind}
use Rattle.tree.specs.Trusted.Tree.{Node, leaf, gate, Edges, edge}

mutual
  -- the second tree is the first with one leaf added to the fanins of one gate, at any depth
  pub data OneMore : Node → Node → Type 0 where
    grow : {k : Kind} {es fs : Edges} → OneMore* es fs → OneMore (gate k es) (gate k fs)

  -- of a gate's fanins: the leaf, upright or inverted, stands in front of them; or it is added inside the first; or further on
  pub data OneMore* : Edges → Edges → Type 0 where
    here : {i : Bool} {n : ℕ} {es : Edges} → OneMore* es (edge i (leaf n) es)
    below : {i : Bool} {t u : Node} {es : Edges} → OneMore t u → OneMore* (edge i t es) (edge i u es)
    later : {i : Bool} {t : Node} {es fs : Edges} → OneMore* es fs → OneMore* (edge i t es) (edge i t fs)
