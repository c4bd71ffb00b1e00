-- The fanins of a gate among its sheet's, as the code finds them. Internal definitions.
use Rattle.std.specs.Prelude.{ℕ, ◌-◌, ◌≡◌, List, length}
use Rattle.sheet.specs.declared.Source.{Source}
use Rattle.sheet.specs.declared.Source.TheVariants.{Net, Gate as reads}
use Rattle.sheet.specs.declared.Edge.{Edge}
use Rattle.sheet.specs.declared.Gate.{Gate}
use Rattle.sheet.specs.Trusted.Limits.{fanin_room}
use Rattle.sheet.specs.Trusted.Answers.{drawn_gate}

-- it has so many fanins among those of its sheet, whatever they are
abbrev pub FaninsCounted : Gate → ℕ → Type 0
FaninsCounted x n = (fs : List Edge) → length fs ≡ fanin_room → n ≡ length (drawn_gate fs x).fanins

-- the place of the gate that is read
abbrev pub place_in : Source → ℕ
place_in (Net n) = 0
place_in (reads g) = g - 1
