use Rattle.pending.specs.MergeLaws.{Folded}
use Rattle.rows.proofs.fold.Given as goal

abbrev pub invariant-loop-j : goal.invariant-loop-j
invariant-loop-j l = Folded l.initial.words l.column l.words l.j
