use native.Mathlib.Omega.{arith}
use Prim.Native.Nat.{◌<◌}
use Rattle.pending.specs.Merging.{Ordered}
use Rattle.pending.specs.MergeLaws.{inserted_none, inserted_ordered, inserted_next, inserted_all}
use Rattle.merge.proofs.union.Goals as goal
use Rattle.merge.proofs.union.Goals.{In-loop-i}

pub loop-i-init : goal.loop-i-init
loop-i-init c = inserted_none c.args.codes.now c.args.n c.requires.1 c.args.inputs c.args.count c.requires.2 c.requires.0

-- the inputs before a code is put in
ready : (c : In-loop-i) → (c.loop-i.size < 6) × Ordered c.loop-i.size c.loop-i.out
ready c =
    let a = c.args in
    inserted_ordered a.codes.now a.n c.requires.1 a.inputs a.count c.requires.2 c.requires.0 c.loop-i.invariant c.loop-i-test.true

pub insert-requires : goal.insert-requires
insert-requires c = ready (goal.at.insert-requires c).In-loop-i

pub overflow_add-size : goal.overflow_add-size
overflow_add-size c = omega (arith, (ready (goal.at.overflow_add-size c).In-loop-i).0)

pub loop-i-preserved : goal.loop-i-preserved
loop-i-preserved c =
    let a = c.args in
    inserted_next a.codes.now a.n c.requires.1 a.inputs a.count c.requires.2 c.requires.0 c.loop-i.invariant c.loop-i-test.true c.insert.ensures

pub returns : goal.returns
returns c =
    let a = c.args in
    inserted_all a.codes.now a.n c.requires.1 a.inputs a.count c.requires.2 c.requires.0 c.loop-i.invariant (omega arith)
