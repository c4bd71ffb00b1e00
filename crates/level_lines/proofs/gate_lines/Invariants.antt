-- The invariant: every bound below the next has its array, and every one of them from the greatest level on its line.
use Rattle.level_lines.proofs.Lining.{Lining}
use Rattle.level_lines.proofs.gate_lines.Given as goal

abbrev pub invariant-loop-bound : goal.invariant-loop-bound
invariant-loop-bound l = Lining l.k l.g l.f l.a l.initial.store l.store l.rows l.own l.array l.before l.bound
