use native.Mathlib.Omega.{arith}
use mathlib.Core.Path.{refl}
use lib.ListN.{length-set}
use Rattle.lists.specs.ListLaws.{every_replicate}
use Rattle.search_test.proofs.Keys.{Light, light_take, light_set}
use Rattle.search_test.proofs.draw.Goals as goal

pub loop-i-init : goal.loop-i-init
loop-i-init c = (omega arith, refl, every_replicate (Light 25) 10 _ (omega (arith, c.leaf-keys.ensures)))

pub loop-i-preserved : goal.loop-i-preserved
loop-i-preserved c =
    (omega arith, simp length-set c.loop-i.invariant.1, light_set _ _ _ c.loop-i.invariant.2 c.key_from.ensures)

pub returns : goal.returns
returns c =
    let l = c.loop-i in
    (l.invariant.0, λ n. omega (arith, light_take 25 l.keys n l.invariant.1 l.invariant.2))
