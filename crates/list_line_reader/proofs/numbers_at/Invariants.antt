use Rattle.std.proofs.Common.{◌+◌, ◌*◌}
use Rattle.list_layout.specs.TakenLaws.{NumbersSoFar}
use Rattle.list_line_reader.proofs.numbers_at.Given as goal

abbrev pub invariant-loop-i : goal.invariant-loop-i
invariant-loop-i l = NumbersSoFar l.text l.at l.i l.numbers (l.at + 6 * l.i)
