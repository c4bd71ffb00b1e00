-- The mapping to the fewest levels of the sheet that is covered. Internal definitions.
use Rattle.std.specs.Prelude.{ℕ, ◌≡◌}
use Rattle.sheet.specs.declared.Sheet.{Sheet}
use Rattle.sheet.specs.Trusted.Answers.{drawn_sheet}
use Rattle.sheet.specs.Drawn.{drawn}
use Rattle.mapper_laws.specs.declared.Mapping.{Mapping}
use Rattle.joined_mapper.specs.JoinedMap.{circuit_of}
use Rattle.level_mapping.specs.FastMapping.{FastMapped}

-- the mapping is that of a sheet that draws what is covered
pub record JoinedFast (K used : ℕ) (lev : ℕ → ℕ) (s : Sheet) (m : Mapping) : Type 0 where
  pub sheet : Sheet
  pub mapped : FastMapped K used lev sheet m
  pub covers : drawn (drawn_sheet sheet) ≡ circuit_of s
