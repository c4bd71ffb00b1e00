use Prim.Native.Nat.{◌<◌, ◌≤◌}
use native.Mathlib.Omega.{arith}
use mathlib.Core.Path.{ap}
use lib.ListN.{length}
use Rattle.level_sheets.specs.Lined.{net_level}
use Rattle.level_fans.specs.FanLaws.{net_placed, gate_placed, fan_net, fan_gate}
use Rattle.level_fans.proofs.gather_fans.Goals as goal
use Rattle.level_fans.proofs.gather_fans.Goals.{In-Gate, in-Net, in-Gate}

-- what a fanin reads has its place
gate : (c : In-Gate) → (1 ≤ c.in-Gate.g) × (c.in-Gate.g ≤ 255)
gate c = gate_placed c.fanins_of-edge-items.result.now c.loop-edge-test.true (rw c.fanins_of-edge-items.ensures c.requires.gates) c.in-Gate.is

pub bounds-levels-n : goal.bounds-levels-n
bounds-levels-n c = net_placed c.fanins_of-edge-items.result.now c.loop-edge-test.true c.args.levels.now (rw c.fanins_of-edge-items.ensures c.requires.nets) c.in-Net.is

pub overflow_sub-at : goal.overflow_sub-at
overflow_sub-at c = (gate (goal.at.overflow_sub-at c).In-Gate).0

pub bounds-starts-at : goal.bounds-starts-at
bounds-starts-at c = omega (arith, gate (goal.at.bounds-starts-at c).In-Gate)

pub bounds-counts-at : goal.bounds-counts-at
bounds-counts-at c = omega (arith, gate (goal.at.bounds-counts-at c).In-Gate)

pub overflow_sub-g : goal.overflow_sub-g
overflow_sub-g c = (gate (goal.at.overflow_sub-g c).In-Gate).0

pub loop-edge-preserved : goal.loop-edge-preserved
loop-edge-preserved c =
    let a = c.args in
    let fs = c.fanins_of-edge-items.result.now in
    let few : c.loop-edge.edge-index < 10 = omega (arith, c.loop-edge-test.true, ap length c.fanins_of-edge-items.ensures, c.requires.few) in
    elim c.match-edge.branch [
      | in-Net w ↦ rw (w.fans-is, w.with_fan-fans.ensures)
          (fan_net fs c.loop-edge-test.true (net_level a.levels.now) a.starts.now a.counts.now c.loop-edge.invariant few w.in-Net.is)
      | in-Gate w ↦ rw (w.fans-is, w.with_fan-fans-in-Gate.ensures)
          (fan_gate fs c.loop-edge-test.true (net_level a.levels.now) a.starts.now a.counts.now c.loop-edge.invariant few w.in-Gate.is)
    ]
