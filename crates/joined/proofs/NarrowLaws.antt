-- Each gate of a sheet's joined tree has at most 10 fanins.
use Rattle.std.specs.Prelude.{ℕ, zero, suc, ◌-◌, List, [], ◌∷◌, ◌++◌, length, get_or}
use Rattle.std.proofs.Common.{arith}
use Rattle.lists.specs.Trusted.Lists.{Every}
use Rattle.lists.specs.ListLaws.{every_none, every_cons, every_head, every_tail, every_append}
use Rattle.tree.specs.Trusted.Tree.{Node, leaf}
use Rattle.sheet.specs.declared.Source.{Source}
use Rattle.sheet.specs.declared.Source.TheVariants.{Net as net, Gate as gate}
use Rattle.sheet.specs.declared.Edge.{Edge as Fanin}
use Rattle.sheet.specs.Trusted.Sheet.{DrawnGate, DrawnSheet}
use Rattle.sheet.specs.Trusted.Trees.{node_of, edges_of, trees_of, tree_of}
use Rattle.sheet.specs.Trusted.Formed.{FaninCount, WellFormed}
use Rattle.joined.specs.Trusted.Joined.{joined_tree}
use Rattle.joined.specs.Settled.{Narrow, NarrowFanins}
use Rattle.joined.proofs.JoinedLaws.{joined_narrow}
use Rattle.joined.proofs.GateLaws.{edges_count}

at_narrow : (ts : List Node) (i : ℕ) → Every Narrow ts → Narrow (get_or ts i (leaf 0))
at_narrow [] i h = tt
at_narrow (t ∷ ts) zero h = every_head h
at_narrow (t ∷ ts) (suc i) h = at_narrow ts i (every_tail h)

edges_narrow : (ts : List Node) (fs : List Fanin) → Every Narrow ts → NarrowFanins (edges_of ts fs)
edges_narrow ts [] h = tt
edges_narrow ts (f ∷ fs) h = (node f.source, edges_narrow ts fs h)
  where
    node : (s : Source) → Narrow (node_of ts s)
    node (net n) = tt
    node (gate g) = at_narrow ts (g - 1) h

trees_narrow : (ts : List Node) (gs : List DrawnGate) → Every FaninCount gs → Every Narrow ts → Every Narrow (trees_of ts gs)
trees_narrow ts [] c h = h
trees_narrow ts (g ∷ gs) c h =
    trees_narrow (ts ++ (Node.gate g.kind (edges_of ts g.fanins) ∷ [])) gs (every_tail c)
    (every_append ts _ h (every_cons (omega (arith, (every_head c).1, edges_count ts g.fanins), edges_narrow ts g.fanins h) (every_none _)))

pub sheet_narrow : (s : DrawnSheet) → WellFormed s → Narrow (joined_tree (tree_of s))
sheet_narrow s w =
    joined_narrow (tree_of s) (at_narrow (trees_of [] s.gates) (length s.gates - 1) (trees_narrow [] s.gates w.fanin_counts (every_none _)))
