-- What the readers promise of any text. Definitions only.
use Rattle.std.specs.Prelude.{ℕ, ◌≤◌, ◌≡◌, List, length, drop, Result, IfOk}
use Rattle.lists.specs.Trusted.Checked.{Checked}
use Rattle.sheet.specs.declared.Sheet.{Sheet}
use Rattle.sheet.specs.declared.SheetError.{SheetError}
use Rattle.sheet.specs.declared.Next.{Next}
use Rattle.sheet.specs.Trusted.Sheet.{DrawnSheet}
use Rattle.sheet.specs.Trusted.Read.{read_sheet}
use Rattle.sheet.specs.Trusted.Answers.{drawn_sheet, answered, outcome}

-- a sheet that is the whole text
abbrev pub SheetRead : List ℕ → Result Sheet SheetError → Type 0
SheetRead text r = outcome r ≡ read_sheet text

-- a sheet off the front of a text: the sheet and the rest of the text, or a refusal
abbrev pub next_step : List ℕ → Result Next SheetError → Checked (DrawnSheet × List ℕ)
next_step text = answered (λ n. (drawn_sheet n.sheet, drop n.end text))

-- `m` is what the definition makes of the text from a place on
pub record NextRead (text : List ℕ) (m : Checked (DrawnSheet × List ℕ)) (r : Result Next SheetError) : Type 0 where
  pub same : m ≡ next_step text r
  pub within : IfOk r (λ n. n.end ≤ length text)
