use native.Mathlib.Omega.{arith}
use Rattle.pending.specs.MergeLaws.{inserting_start, inserting_stay, inserting_up, inserting_end}
use Rattle.merge.proofs.insert.Goals as goal
use Rattle.merge.proofs.insert.Goals.{then-in_front, else-in_front}

pub loop-i-init : goal.loop-i-init
loop-i-init c = inserting_start c.args.inputs.now c.args.count c.args.code c.requires.0 c.requires.1

pub loop-i-preserved : goal.loop-i-preserved
loop-i-preserved c =
    let a = c.args in
    elim c.if-in_front.branch [
      | then-in_front w ↦ rw (w.inputs-is, w.next-is) (inserting_up a.inputs.now a.count a.code c.requires.0 c.requires.1 c.loop-i.invariant c.loop-i-test.true w.if-in_front.true)
      | else-in_front w ↦ rw (w.inputs-is, w.next-is) (inserting_stay a.inputs.now a.count a.code c.requires.0 c.requires.1 c.loop-i.invariant c.loop-i-test.true w.if-in_front.false)
    ]

pub returns : goal.returns
returns c =
    let a = c.args in
    inserting_end a.inputs.now a.count a.code c.requires.0 c.requires.1 c.loop-i.invariant (omega arith)
