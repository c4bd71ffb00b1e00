use Rattle.pending.specs.MergeLaws.{Inserting}
use Rattle.merge.proofs.insert.Given as goal

abbrev pub invariant-loop-i : goal.invariant-loop-i
invariant-loop-i l = Inserting l.initial.inputs l.count l.code l.inputs l.next l.i
