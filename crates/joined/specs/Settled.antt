-- Trees of which no edge would be joined, and whose gates have at most 10 fanins. Internal definitions: the laws are in JoinedLaws and
-- SettledLaws.
use Rattle.std.specs.Prelude.{ℕ, ◌-◌, ◌≤◌, not, T}
use Rattle.tree.specs.declared.Kind.{Kind}
use Rattle.tree.specs.Trusted.Tree.{Node, leaf, gate, Edges, none, edge, edge_count}
use Rattle.tree.specs.Trusted.Limits.{most_fanins}
use Rattle.joined.specs.Trusted.Joined.{is_joined}

-- no edge of the tree is one that would be joined
abbrev mutual
  pub Settled : Node → Type 0
  Settled (leaf n) = Unit {0}
  Settled (gate k es) = SettledFanins es k (edge_count es - 1)

  -- of fanins that stand in a gate of kind k, each beside so many others
  pub SettledFanins : Edges → (k : Kind) (others : ℕ) → Type 0
  SettledFanins none k n = Unit {0}
  SettledFanins (edge i t es) k n = T (not (is_joined k n i t)) × Settled t × SettledFanins es k n

-- each gate has at most 10 fanins
abbrev mutual
  pub Narrow : Node → Type 0
  Narrow (leaf n) = Unit {0}
  Narrow (gate k es) = (edge_count es ≤ most_fanins) × NarrowFanins es

  pub NarrowFanins : Edges → Type 0
  NarrowFanins none = Unit {0}
  NarrowFanins (edge i t es) = Narrow t × NarrowFanins es
