-- The sheet that is covered, and the mapping of it. Internal definitions.
use Rattle.std.specs.Prelude.{ℕ, ◌≡◌}
use Rattle.cover.specs.Trusted.CoverTables.{Circuit}
use Rattle.sheet.specs.declared.Sheet.{Sheet as CodeSheet}
use Rattle.sheet.specs.Trusted.Answers.{drawn_sheet}
use Rattle.sheet.specs.Trusted.Formed.{WellFormed}
use Rattle.sheet.specs.Drawn.{drawn}
use Rattle.joined.specs.Trusted.Covered.{covered}
use Rattle.mapper_laws.specs.CodeMap.{SheetMapped}
use Rattle.mapper_laws.specs.declared.Mapping.{Mapping}

-- the code's sheet as it is covered
abbrev pub circuit_of : CodeSheet → Circuit
circuit_of s = covered (drawn_sheet s)

-- a sheet that draws what is covered
pub record CoversAs (s j : CodeSheet) : Type 0 where
  pub formed : WellFormed (drawn_sheet j)
  pub covers : drawn (drawn_sheet j) ≡ circuit_of s

-- the mapping is that of a sheet that draws it
pub record JoinedMapped (K used : ℕ) (s : CodeSheet) (m : Mapping) : Type 0 where
  pub sheet : CodeSheet
  pub mapped : SheetMapped K used sheet m
  pub covers : drawn (drawn_sheet sheet) ≡ circuit_of s
