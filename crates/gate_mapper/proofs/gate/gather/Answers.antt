use native.Mathlib.Omega.{arith}
use mathlib.Core.Path.{◌≡◌, ap, subst}
use lib.ListN.{length}
use Prim.Native.Nat.{◌≤◌}
use Rattle.sheet.specs.Trusted.Limits.{most_gates}
use Rattle.gate_fanins.specs.FaninLaws.{every_fanin}
use Rattle.mapper_laws.specs.CodeMap.{Gathering}
use Rattle.mapper_laws.specs.CodeMapLaws.{gathering_start, gather_next}
use Rattle.gate_mapper.proofs.gate.gather.Goals as goal

pub loop-edge-init : goal.loop-edge-init
loop-edge-init c = gathering_start c.no_operands-operands.ensures

pub place_of-at-requires : goal.place_of-at-requires
place_of-at-requires c =
    every_fanin {P = λ j. (1 ≤ j) × (j ≤ most_gates)} c.fanins_of-edge-items.result.now c.loop-edge.edge-index c.loop-edge-test.true (rw c.fanins_of-edge-items.ensures c.requires.gates)

pub with_fanin-operands-requires : goal.with_fanin-operands-requires
with_fanin-operands-requires c = omega (arith, c.loop-edge.invariant.count, c.loop-edge-test.true, ap length c.fanins_of-edge-items.ensures, c.requires.few)

pub loop-edge-preserved : goal.loop-edge-preserved
loop-edge-preserved c =
    rw (c.with_fanin-operands.ensures, c.read_from.ensures, c.place_of-at.ensures.0)
    (gather_next c.fanins_of-edge-items.result.now c.args.held.now c.loop-edge.invariant c.loop-edge-test.true (omega (arith, c.loop-edge-test.true, ap length c.fanins_of-edge-items.ensures, c.requires.few)))

pub returns : goal.returns
returns c =
    let h = c.args.held.now in
    let o = c.loop-edge.operands in
    let fs = c.fanins_of-edge-items.result.now in
    subst (λ fs. Gathering fs h (length fs) o) c.fanins_of-edge-items.ensures
    (subst (λ i. Gathering fs h i o) (let e : c.loop-edge.edge-index ≡ length fs = omega (arith, c.loop-edge.auto, c.loop-edge-test.false) in e) c.loop-edge.invariant)
