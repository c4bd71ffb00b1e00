use lib.ListN.{take}
use Rattle.pending.specs.MergeLaws.{InsertedFrom}
use Rattle.merge.proofs.union.Given as goal

abbrev pub invariant-loop-i : goal.invariant-loop-i
invariant-loop-i l = InsertedFrom l.codes l.n (take l.count l.initial.out) l.out l.size l.i
