use Rattle.mapper_laws.specs.CodeRun.{Following}
use Rattle.gate_run.proofs.follow.Given as goal

abbrev pub invariant-loop-token : goal.invariant-loop-token
invariant-loop-token l = Following l.first l.kind l.operands l.fn.plan l.token-index l.run
