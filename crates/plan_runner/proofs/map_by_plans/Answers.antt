use native.Mathlib.Omega.{arith}
use mathlib.Core.Path.{refl}
use lib.ListN.{length-take}
use borrow.Author.Rules.{rules}
use Rattle.mapper_laws.specs.CodeMapLaws.{staged_run}
use Rattle.mapper_laws.specs.SheetLaws.{step_reaches, end_room}
use Rattle.level_mapping.specs.PlanSheetLaws.{plan_start, plan_runnable, plan_room, plan_next, plan_end}
use Rattle.plan_runner.proofs.map_by_plans.Goals as goal

pub loop-g-init : goal.loop-g-init
loop-g-init c = plan_start c.no_tables-mapping.ensures.0 c.no_tables-mapping.ensures.1 refl

pub gather-operands-requires : goal.gather-operands-requires
gather-operands-requires c = step_reaches c.args.sheet c.requires.0 (search rules) (search rules) c.loop-g.invariant.going c.loop-g-test.true

pub run_gate-mapped-requires : goal.run_gate-mapped-requires
run_gate-mapped-requires c =
    let p = c.requires in
    plan_runnable c.args.sheet p.0 (search rules) (search rules) c.loop-g.invariant c.loop-g-test.true c.gather-operands.ensures p.1.0 p.1.1 p.1.2

pub stage-requires : goal.stage-requires
stage-requires c =
    let p = c.requires in
    let r = c.run_gate-mapped.result.run in
    omega (
      arith,
      plan_room c.args.sheet p.0 (search rules) (search rules) c.loop-g.invariant c.loop-g-test.true c.gather-operands.ensures p.1.0 p.1.1 p.1.2 c.run_gate-mapped.ensures,
      length-take r.placed r.tables,
    )

pub loop-g-preserved : goal.loop-g-preserved
loop-g-preserved c =
    let p = c.requires in
    let h = c.run_gate-mapped.ensures.ran.holds in
    plan_next c.args.sheet p.0 (search rules) (search rules) c.loop-g.invariant c.loop-g-test.true c.gather-operands.ensures p.1.0 p.1.1 p.1.2 c.run_gate-mapped.ensures
    (staged_run c.run_gate-mapped.result.run (omega (arith, h.placed, h.table_room_lem)) c.stage.ensures)

pub with_root-requires : goal.with_root-requires
with_root-requires c = end_room c.args.sheet c.requires.0 (search rules) (search rules) c.loop-g.invariant.going c.loop-g-test.false

pub returns : goal.returns
returns c = plan_end c.args.sheet c.requires.0 (search rules) (search rules) c.loop-g.invariant c.loop-g-test.false c.with_root.ensures
