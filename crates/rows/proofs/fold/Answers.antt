use native.Mathlib.Omega.{arith}
use mathlib.Core.Path.{◌≡◌}
use Rattle.pending.specs.MergeLaws.{folded_none, folded_next}
use Rattle.rows.proofs.fold.Goals as goal

pub loop-j-init : goal.loop-j-init
loop-j-init c = folded_none c.args.words.now c.args.column c.requires.1

pub loop-j-preserved : goal.loop-j-preserved
loop-j-preserved c =
    folded_next (omega arith) c.loop-j.invariant

pub returns : goal.returns
returns c =
    let e : c.loop-j.j ≡ c.args.size = omega arith in
    rw e at c.loop-j.invariant.made
