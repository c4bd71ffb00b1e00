-- The invariant: the lines of the gates passed are there.
use Rattle.sheet.specs.Trusted.Answers.{drawn_sheet}
use Rattle.level_sheets.specs.Lined.{Lined, net_level}
use Rattle.level_mapping.specs.FastMapping.{LineRooms}
use Rattle.sheet_lines.proofs.find_lines.Given as goal

abbrev pub invariant-loop-g : goal.invariant-loop-g
invariant-loop-g l =
    Lined l.k (net_level l.levels) (drawn_sheet l.sheet).gates l.g l.starts l.counts l.store × LineRooms l.starts l.counts l.store
