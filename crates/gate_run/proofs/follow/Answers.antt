use Rattle.mapper_laws.specs.CodeRunLaws.{following_advances, following_next}
use Rattle.gate_run.proofs.follow.Goals as goal

pub advance-run-requires : goal.advance-run-requires
advance-run-requires c =
    following_advances c.args.first c.args.kind c.args.operands c.args.plan c.requires c.loop-token.invariant c.loop-token-test.true

pub loop-token-preserved : goal.loop-token-preserved
loop-token-preserved c =
    following_next c.args.first c.args.kind c.args.operands c.args.plan c.requires c.loop-token.invariant c.loop-token-test.true c.advance-run.ensures
