use Prim.Native.Nat.{◌-◌}
use lib.ListN.{length}
use Rattle.table.specs.LevelTest.{LevelsStand}
use Rattle.part.specs.Trusted.Parts.{tables_of}
use Rattle.sheets.specs.SheetsLaws.{ShapedSoFar}
use Rattle.sheets.proofs.add_sheets_by.Given as goal

abbrev pub invariant-loop-at : goal.invariant-loop-at
invariant-loop-at g l =
    ShapedSoFar g.W.Choose.way l.input l.initial.part l.start l.part l.at l.sheet × LevelsStand l.levels (tables_of l.part)

abbrev pub decreases-loop-at : goal.decreases-loop-at
decreases-loop-at g l = length l.input - l.at
