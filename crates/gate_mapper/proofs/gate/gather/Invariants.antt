use Rattle.mapper_laws.specs.CodeMap.{Gathering}
use Rattle.gate_mapper.proofs.gate.gather.Given as goal

abbrev pub invariant-loop-edge : goal.invariant-loop-edge
invariant-loop-edge l = Gathering l.edge-items l.fn.held l.edge-index l.operands
