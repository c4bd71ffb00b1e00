use mathlib.Core.Path.{◌≡◌}
use lib.ListN.{length}
use Rattle.table.specs.LevelTest.{LevelsStand}
use Rattle.part.specs.Trusted.Parts.{tables_of}
use Rattle.part.proofs.SetLaws.{SetSoFar}
use Rattle.part.proofs.Part.take_each.Given as goal

abbrev pub invariant-loop-i : goal.invariant-loop-i
invariant-loop-i l =
    SetSoFar l.self l.lengths l.text l.part l.i l.at × LevelsStand l.levels (tables_of l.part) × (length l.levels ≡ length l.initial.levels)
