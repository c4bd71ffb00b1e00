use Prim.Native.Nat.{◌≤◌}
use mathlib.Core.Path.{refl}
use native.Mathlib.Omega.{arith}
use lib.ListN.{take, replicate}
use Rattle.lists.specs.Trusted.Lists.{sum}
use Rattle.plan.specs.Volume.{fewest_leaves}
use Rattle.lists.specs.ListLaws.{every_replicate}
use Rattle.search_test.proofs.Keys.{Light, light_take, plan_light}
use Rattle.search_test.proofs.gate_of.Goals as goal
use Rattle.search_test.proofs.gate_of.Goals.{After-leaf-2}

-- ten leaves, of which some are fanins
all_leaves : (c : After-leaf-2) → sum fewest_leaves (take c.args.leaves (replicate 10 c.leaf-2.result)) ≤ 10
all_leaves c = light_take 1 (replicate 10 c.leaf-2.result) c.args.leaves refl (every_replicate (Light 1) 10 c.leaf-2.result c.leaf-2.ensures)

pub best_plan-requires : goal.best_plan-requires
best_plan-requires c = omega (arith, all_leaves c)

pub returns-in-Some : goal.returns-in-Some
returns-in-Some c =
    let l = all_leaves (goal.at.returns-in-Some c).After-leaf-2 in
    let a = c.args in
    omega (arith, l, plan_light a.k a.leaves (replicate 10 c.leaf-2.result) c.in-Some.p refl (omega (arith, l)) c.in-Some.ensures)
