use native.Mathlib.Omega.{arith}
use lib.ListN.{length-take}
use Rattle.joiner_laws.specs.JoiningLaws.{adding_start, adding_next, adding_end}
use Rattle.gate_joiner.proofs.with_fanins.Goals as goal

pub loop-edge-init : goal.loop-edge-init
loop-edge-init c = adding_start c.args.gate c.args.inverted _

pub with_fanin-gate-requires : goal.with_fanin-gate-requires
with_fanin-gate-requires c = omega (arith, c.loop-edge.invariant.count, c.loop-edge-test.true, length-take c.args.lower.count c.args.lower.fanins)

pub loop-edge-preserved : goal.loop-edge-preserved
loop-edge-preserved c =
    rw (c.with_fanin-gate.ensures, c.turned.ensures)
    (adding_next c.loop-edge.invariant c.loop-edge-test.true (omega (arith, c.loop-edge.invariant.count, c.loop-edge-test.true, length-take c.args.lower.count c.args.lower.fanins)))

pub returns : goal.returns
returns c = adding_end c.loop-edge.invariant c.loop-edge-test.false
