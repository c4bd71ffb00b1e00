use native.Mathlib.Omega.{arith}
use mathlib.Core.Path.{refl}
use lib.ListN.{length-set}
use Rattle.lists.specs.ListLaws.{every_replicate}
use Rattle.search_test.proofs.Keys.{Light, light_take, light_set}
use Rattle.search_test.proofs.example.Goals as goal

pub loop-i-init : goal.loop-i-init
loop-i-init g c = (refl, every_replicate (Light 25) 10 _ (omega (arith, c.leaf-keys.ensures)))

pub loop-i-preserved : goal.loop-i-preserved
loop-i-preserved g c =
    let v = c.loop-i.invariant in
    (simp length-set v.0, light_set _ _ _ v.1 c.gate_of.ensures)

pub best_plan-requires : goal.best_plan-requires
best_plan-requires g c = let v = c.loop-i.invariant in omega (arith, light_take 25 c.loop-i.keys c.args.count v.0 v.1)
