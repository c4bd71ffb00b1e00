-- What an add reads from a text: the sheet that is covered, or the sheet's refusal. Definitions only.
use Rattle.std.specs.Prelude.{ℕ, List}
use Rattle.lists.specs.Trusted.Checked.{Checked, passed, ◌>>=◌}
use Rattle.cover.specs.Trusted.CoverTables.{Circuit}
use Rattle.sheet.specs.Trusted.Read.{read_sheet}
use Rattle.joined.specs.Trusted.Covered.{covered}

-- THE READING that an add goes by: 01's, of a text that is one sheet, with the sheet's tree joined (02, #104): "The covers and the least
-- number are .. those of the joined tree"
unfoldable pub read_of : List ℕ → Checked Circuit
read_of text = read_sheet text >>= λ s. passed (covered s)
