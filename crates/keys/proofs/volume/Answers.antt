use native.Mathlib.Omega.{arith}
use borrow.Author.Rules.{rules}
use Rattle.plan.specs.Limits.{most_inputs}
use Rattle.plan.specs.Volume.{volume}
use Rattle.plan.specs.VolumeLaws.{volume_most}
use Rattle.keys.proofs.volume.Goals as goal

pub overflow_mul-result : goal.overflow_mul-result
unfolding volume
overflow_mul-result c =
    let p = c.requires in
    omega (arith, volume_most {a = c.args.a} most_inputs 255 p.table.1 p.most (omega arith))

pub overflow_add-result : goal.overflow_add-result
unfolding volume
overflow_add-result c =
    let p = c.requires in
    omega (arith, volume_most {a = c.args.a} most_inputs 255 p.table.1 p.most (omega arith))

pub returns : goal.returns
unfolding volume
returns c = search rules
