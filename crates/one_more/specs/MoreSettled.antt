-- A tree with one leaf more has no edge that would be joined, if the tree has none: gates have no fewer fanins, and no other edges.
use Rattle.std.specs.Prelude.{ℕ, ◌+◌, ◌-◌, ◌≤◌, Bool, T}
use Rattle.std.proofs.Common.{arith, T_not, leb→le, le→leb}
use Rattle.std.proofs.Math.Dec.{not_T}
use Rattle.lists.specs.Cases.{and_split, and_both}
use Rattle.tree.specs.declared.Kind.{Kind}
use Rattle.tree.specs.Trusted.Tree.{Node, Edges, edge_count}
use Rattle.tree.specs.Trusted.Limits.{most_fanins}
use Rattle.joined.specs.Trusted.Joined.{chained, is_joined}
use Rattle.joined.specs.Settled.{Settled, SettledFanins}
use Rattle.joined.proofs.SettledLaws.{settled_more}
use Rattle.one_more.specs.OneMore.{OneMore, grow, OneMore*, here, below, later}

more_count : {es fs : Edges} → OneMore* es fs → edge_count es ≤ edge_count fs
more_count here = omega arith
more_count (below o) = omega arith
more_count (later o) = omega (arith, more_count o)

-- an edge that would be joined with the leaf would be without it
joins_without : {t u : Node} (k : Kind) (n : ℕ) (i : Bool) → OneMore t u → T (is_joined k n i u) → T (is_joined k n i t)
joins_without k n i (grow {k = j} {es = es} {fs = fs} o) h =
    let p = and_split (chained i k j) _ h in
    and_both (chained i k j) _ p.0 (le→leb (n + edge_count es) most_fanins (omega (arith, more_count o, leb→le (n + edge_count fs) most_fanins p.1)))

mutual
  -- NO EDGE OF A TREE WITH ONE LEAF MORE WOULD BE JOINED
  pub more_settled : {t u : Node} → OneMore t u → Settled t → Settled u
  more_settled (grow {k = k} {es = es} {fs = fs} o) h =
      fanins_settled (edge_count fs - 1) k o (settled_more es k (edge_count es - 1) (edge_count fs - 1) (omega (arith, more_count o)) h)

  fanins_settled : {es fs : Edges} (n : ℕ) (k : Kind) → OneMore* es fs → SettledFanins es k n → SettledFanins fs k n
  fanins_settled n k here h = (tt, tt, h)
  fanins_settled n k (below {i = i} {t = t} {u = u} o) h =
      (not_T (is_joined k n i u) (λ j. T_not (is_joined k n i t) h.0 (joins_without k n i o j)), more_settled o h.1, h.2)
  fanins_settled n k (later o) h = (h.0, h.1, fanins_settled n k o h.2)
