use Prim.Native.Nat.{◌<◌}
use native.Mathlib.Omega.{arith}
use lib.Pow.{pow-lt}
use Rattle.level_plans.proofs.Starting.{singles_more}
use Rattle.level_plans.proofs.put_singles.Goals as goal

pub put_row-requires : goal.put_row-requires
put_row-requires c =
    let l : c.loop-h.h < 10 = omega arith in
    omega (arith, pow-lt l, c.loop-h.invariant.room, c.requires.2)

pub loop-h-preserved : goal.loop-h-preserved
loop-h-preserved c =
    let l : c.loop-h.h < 10 = omega arith in
    singles_more c.loop-h.invariant (omega (arith, pow-lt l)) c.put_row.ensures c.look.ensures
