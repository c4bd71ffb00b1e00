-- What holds of every sheet that is read. Internal definitions: that it does is in ReadingLaws.
use Rattle.std.specs.Prelude.{◌≡◌, T}
use Rattle.tree.specs.Trusted.Limits.{code_base}
use Rattle.tree.specs.declared.Kind.{Kind}
use Rattle.tree.specs.Trusted.Tree.{Edges, gate}
use Rattle.tree.specs.Measures.{proper}
use Rattle.cover.specs.Trusted.CoverTables.{Circuit}
use Rattle.cover.specs.Legal.{Legal}

-- its nets are nets, no net stands at two leaves, the output net at none, the root is a gate, and each gate has two fanins or more
pub record Readable (s : Circuit) : Type 0 where
  pub legal : Legal code_base s
  pub root : (k : Kind) × (es : Edges) × (s.tree ≡ gate k es)
  pub proper : T (proper s.tree)
