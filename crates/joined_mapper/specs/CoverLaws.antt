-- A sheet that is drawn as the joined one draws what is covered.
use Rattle.std.specs.Prelude.{◌≡◌}
use Rattle.std.proofs.Common.{ap, ◌∙◌}
use Rattle.sheet.specs.declared.Sheet.{Sheet}
use Rattle.sheet.specs.Trusted.Answers.{drawn_sheet}
use Rattle.sheet.specs.Trusted.Formed.{WellFormed}
use Rattle.sheet.specs.Drawn.{drawn}
use Rattle.joined.specs.JoinedSheet.{joined_sheet}
use Rattle.joined.proofs.SheetLaws.{covered_drawn}
use Rattle.joined_mapper.specs.JoinedMap.{circuit_of}

pub covers_joined : (s : Sheet) → WellFormed (drawn_sheet s) → (j : Sheet) → drawn_sheet j ≡ joined_sheet (drawn_sheet s) → drawn (drawn_sheet j) ≡ circuit_of s
covers_joined s w j e = ap drawn e ∙ covered_drawn (drawn_sheet s) w
