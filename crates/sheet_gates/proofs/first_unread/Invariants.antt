-- Each gate passed was read.
use Rattle.sheet_gates.proofs.UnreadLaws.{Passed}
use Rattle.sheet_gates.proofs.first_unread.Given as goal

abbrev pub invariant-loop-g : goal.invariant-loop-g
invariant-loop-g l = Passed l.seen l.count l.g
