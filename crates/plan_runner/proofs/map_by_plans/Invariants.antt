use Rattle.sheet.specs.Trusted.Answers.{drawn_sheet}
use Rattle.level_mapping.specs.PlanMapped.{PlanGoing}
use Rattle.plan_runner.proofs.map_by_plans.Given as goal

abbrev pub invariant-loop-g : goal.invariant-loop-g
invariant-loop-g l = PlanGoing l.k l.used (drawn_sheet l.fn.sheet).gates l.plans l.g l.held l.mapping
