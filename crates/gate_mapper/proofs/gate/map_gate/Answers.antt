use mathlib.Core.Path.{refl}
use Rattle.plan.specs.PlanOf.{PlanAnswer}
use Rattle.mapper_laws.specs.CodeMap.{keys_in}
use Rattle.mapper_laws.specs.CodeMapLaws.{gate_answer, gate_runnable}
use Rattle.gate_mapper.proofs.gate.map_gate.Goals as goal
use Rattle.gate_mapper.proofs.gate.map_gate.Goals.{After-unwrap-p}

answer : (c : After-unwrap-p) → PlanAnswer c.args.k (keys_in c.args.operands) c.unwrap-p.result
answer c = (rw c.unwrap-p.ensures at c.best_plan.ensures).1

pub unwrap-p-requires : goal.unwrap-p-requires
unwrap-p-requires c = rw (gate_answer c.requires _ c.best_plan.ensures).1 refl

pub run_gate-requires : goal.run_gate-requires
run_gate-requires c = gate_runnable c.requires (answer c) c.args.kind

pub returns : goal.returns
returns c = record { plan = c.unwrap-p.result; answer = answer (goal.at.returns c).After-unwrap-p; run = c.run_gate.ensures }
