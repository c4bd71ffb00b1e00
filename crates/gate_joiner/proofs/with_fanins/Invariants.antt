use Rattle.joiner_laws.specs.Joining.{FaninsAdding}
use Rattle.gate_joiner.proofs.with_fanins.Given as goal

abbrev pub invariant-loop-edge : goal.invariant-loop-edge
invariant-loop-edge l = FaninsAdding l.initial.gate l.inverted l.edge-items l.edge-index l.gate
