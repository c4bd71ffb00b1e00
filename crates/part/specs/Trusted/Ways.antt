-- The ways in which the tables of a sheet are chosen: what is read of its text, its number, and its tables. Definitions only: the laws
-- are in WayLaws.
use Rattle.std.specs.Prelude.{ℕ, List}
use Rattle.lists.specs.Trusted.Checked.{Checked}
use Rattle.tree.specs.Trusted.Limits.{code_base}
use Rattle.cover.specs.Trusted.Cover.{Least}
use Rattle.cover.specs.Trusted.Tables.{LookupTable, code_levels}
use Rattle.cover.specs.Trusted.CoverTables.{Circuit, LeastCoverTables}
use Rattle.levels.specs.Trusted.Levels.{Fastest}
use Rattle.levels.specs.Trusted.LevelTables.{FastestCoverTables}
use Rattle.part.specs.Trusted.Parts.{tables_of}
use Rattle.part.specs.Trusted.Reading.{read_of}
use Rattle.part.specs.declared.Part.{Part}

pub data Way : Type 0 where
  -- 01: a cover of the fewest tables
  least : Way
  -- 02, #107: a cover with the least root level, and of those one of the fewest tables
  fastest : Way

-- what is read of a sheet's text
abbrev pub reading : Way → List ℕ → Checked Circuit
reading least text = read_of text
reading fastest text = read_of text

-- n is the number of tables of the sheet, on the part; there is at most one
abbrev pub NumberBy : Way → Part → Circuit → ℕ → Type 0
NumberBy least p s n = Least p.k s.tree n
NumberBy fastest p s n = (d : ℕ) × Fastest (code_levels code_base (tables_of p)) p.k s.tree n d

-- the tables `new`, after those of the part, are those of a cover that the way allows, in some order, inputs before readers and the root's
-- last
abbrev pub Chosen : Way → Part → Circuit → List LookupTable → Type 0
Chosen least p s new = LeastCoverTables code_base p.k (tables_of p) new s
Chosen fastest p s new = FastestCoverTables code_base p.k (tables_of p) new s
