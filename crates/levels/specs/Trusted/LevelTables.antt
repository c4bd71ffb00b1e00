-- What adding a sheet by its fewest levels leaves behind: 02, #107. Definitions only.
use Rattle.std.specs.Prelude.{ℕ, List, length}
use Rattle.cover.specs.Trusted.Tables.{LookupTable, code_levels}
use Rattle.cover.specs.Trusted.CoverTables.{Circuit, CoverTables}
use Rattle.levels.specs.Trusted.Levels.{level, Fastest}

-- The tables `new`, which follow the tables `old`, are those of one of the sheet's covers "whose root level is least, given the levels of the nets that its
-- leaves read", and "among those covers" it has "the fewest tables".
pub record FastestCoverTables (base K : ℕ) (old new : List LookupTable) (s : Circuit) : Type 0 where
  pub added : CoverTables base K old new s
  pub fastest : Fastest (code_levels base old) K s.tree (length new) (level (code_levels base old) added.cover)
