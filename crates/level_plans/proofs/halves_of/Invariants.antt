-- The invariant: no submask passed makes the entry. The measure is the submask that is next.
use Rattle.level_plans.proofs.Halving.{SubmasksPassed}
use Rattle.level_plans.proofs.halves_of.Given as goal

abbrev pub invariant-loop-u : goal.invariant-loop-u
invariant-loop-u l = SubmasksPassed l.arrays l.at l.top l.r l.w l.e l.u

abbrev pub decreases-loop-u : goal.decreases-loop-u
decreases-loop-u l = l.u
