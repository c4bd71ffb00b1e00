use Rattle.mapper_laws.specs.CodeRunLaws.{push_advanced, join_fits, join_advanced}
use Rattle.gate_run.proofs.advance.Goals as goal

pub join-requires : goal.join-requires
join-requires c =
    join_fits c.args.first c.args.kind c.args.operands c.args.run c.in-Join.is c.requires

pub returns-in-Push : goal.returns-in-Push
returns-in-Push c =
    push_advanced c.args.first c.args.kind c.args.operands c.args.run c.in-Push.is c.requires c.push.ensures

pub returns-in-Join : goal.returns-in-Join
returns-in-Join c =
    join_advanced c.args.first c.args.kind c.args.operands c.args.run c.in-Join.is c.requires c.join.ensures
