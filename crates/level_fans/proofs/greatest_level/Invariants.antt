use Rattle.level_arrays.specs.Arrays.{GreatestFan}
use Rattle.level_fans.specs.FanSteps.{first_fans}
use Rattle.level_fans.proofs.greatest_level.Given as goal

abbrev pub invariant-loop-h : goal.invariant-loop-h
invariant-loop-h l = GreatestFan (first_fans l.h l.f) l.greatest
