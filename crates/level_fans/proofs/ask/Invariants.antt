use Rattle.level_sheets.specs.Asking.{AskedOf}
use Rattle.level_fans.specs.FanSteps.{first_fans}
use Rattle.level_fans.proofs.ask.Given as goal

abbrev pub invariant-loop-h : goal.invariant-loop-h
invariant-loop-h l = AskedOf (first_fans l.h l.f) l.draft l.initial.bounds l.initial.inputs l.bounds l.inputs
