-- The joined tree: 02, #104 "Chained gates of one kind", in its words. Definitions only: the laws are in JoinedLaws, SettledLaws and LeastLaws,
-- and SheetLaws has the proof that going through a sheet's gates in rising number (JoinedSheet) gives the same tree.
use Rattle.std.specs.Prelude.{ℕ, ◌+◌, Bool, true, false, not, cond, ◌&&◌, leb}
use Rattle.tree.specs.declared.Kind.{Kind}
use Rattle.tree.specs.declared.Kind.TheVariants.{And as and, Or as or}
use Rattle.tree.specs.Trusted.Tree.{Node, leaf, gate, Edges, none, edge, turned, edge_count}
use Rattle.tree.specs.Trusted.Limits.{most_fanins}

-- of one kind
abbrev pub alike : Kind → Kind → Bool
alike and and = true
alike and or = false
alike or and = false
alike or or = true

-- "upright between gates of one kind, or inverted between an AND and an OR"
abbrev pub chained : (inverted : Bool) (upper lower : Kind) → Bool
chained false k j = alike k j
chained true k j = not (alike k j)

-- whether an edge is joined that stands in a gate of kind k beside so many other fanins: "and the joined gate has at most 10 fanins"
abbrev pub is_joined : (k : Kind) (others : ℕ) (inverted : Bool) (lower : Node) → Bool
is_joined k n i (leaf x) = false
is_joined k n i (gate j es) = chained i k j && leb (n + edge_count es) most_fanins

-- a gate's fanins
abbrev pub edges_in : Node → Edges
edges_in (leaf x) = none
edges_in (gate j es) = es

-- "an inverted edge turns every fanin of the lower gate over"
abbrev pub turned_over : (inverted : Bool) → Edges → Edges
turned_over i none = none
turned_over i (edge j t es) = edge (turned i j) t (turned_over i es)

-- the fanins that take the place of an edge: those of the lower gate where it is joined, else itself
abbrev pub in_place : (k : Kind) (others : ℕ) (inverted : Bool) (lower : Node) → Edges
in_place k n i t = cond (is_joined k n i t) (turned_over i (edges_in t)) (edge i t none)

-- fanins after others
infixr 50 ◌then◌
abbrev pub ◌then◌ : Edges → Edges → Edges
none then fs = fs
(edge i t es) then fs = edge i t (es then fs)

-- a gate's fanins, "from left to right": those not yet looked at, after `before` fanins that are not looked at again
abbrev pub joined_from : (k : Kind) (before : ℕ) → Edges → Edges
joined_from k n none = none
joined_from k n (edge i t es) =
    let fs = in_place k (n + edge_count es) i t in
    fs then joined_from k (n + edge_count fs) es

-- the joined tree: the lower gates first, and then the gate itself
abbrev mutual
  pub joined_tree : Node → Node
  joined_tree (leaf n) = leaf n
  joined_tree (gate k es) = gate k (joined_from k 0 (joined_below es))

  pub joined_below : Edges → Edges
  joined_below none = none
  joined_below (edge i t es) = edge i (joined_tree t) (joined_below es)
