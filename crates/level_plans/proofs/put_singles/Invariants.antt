-- The invariant: the rows of h fanins are put in.
use Rattle.level_plans.specs.Ranges.{SinglesPut}
use Rattle.level_plans.proofs.put_singles.Given as goal

abbrev pub invariant-loop-h : goal.invariant-loop-h
invariant-loop-h l = SinglesPut l.store l.f l.bound l.initial.arrays l.arrays l.h
