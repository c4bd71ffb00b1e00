-- The invariant: every mask below s has its entry.
use lib.ListN.{take}
use Rattle.search.proofs.Filling.{Filling}
use Rattle.search.proofs.fill.Given as goal

abbrev pub invariant-loop-s : goal.invariant-loop-s
invariant-loop-s l = Filling l.k l.count (take l.count l.keys) l.below l.width l.split l.volumes l.h l.top l.next l.s
