-- The invariant: the key is made by a submask and is no worse than the join by any submask passed, and its volume is the bound where the flag says
-- so. The measure is the submask that is next.
use mathlib.Core.Path.{◌≡◌}
use mathlib.Core.Bool.{true}
use Rattle.plan.specs.Volume.{volume}
use Rattle.search.proofs.Submasks.{Tried}
use Rattle.search.proofs.best_join.Given as goal

abbrev pub invariant-loop-u : goal.invariant-loop-u
invariant-loop-u l = Tried l.k l.below l.width l.top l.r l.key l.sub l.u × (l.met ≡ true → volume l.k l.key ≡ l.least)

abbrev pub decreases-loop-u : goal.decreases-loop-u
decreases-loop-u l = l.u
