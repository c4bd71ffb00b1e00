use Prim.Native.Nat.{◌+◌, ◌-◌}
use native.Mathlib.Omega.{arith}
use native.Mathlib.Decide.{dec_lt}
use mathlib.Core.Logic.{inl, inr, by_cases}
use lib.ListN.{get_or}
use Rattle.lists.specs.ListLaws.{get_d_any}
use Rattle.level_arrays.specs.Arrays.{big}
use Rattle.level_rows.proofs.Lowering.{least_more}
use Rattle.level_rows.proofs.least_sum.Goals as goal

pub loop-i-preserved : goal.loop-i-preserved
loop-i-preserved c =
    let l = c.loop-i in
    let p = l.invariant in
    let a = c.args in
    let xs = a.arrays.now in
    let g = get_d_any xs (a.x + l.i) 0 big (omega arith) in
    let h = get_d_any xs (a.y + (a.w - l.i)) 0 big (omega arith) in
    by_cases (dec_lt (get_or xs (a.x + l.i) big + get_or xs (a.y + (a.w - l.i)) big) l.least)
    (λ z. least_more _ l.auto.i p (omega arith) (omega arith) (inr (omega (arith, p.most))))
    (λ z. least_more _ l.auto.i p (omega arith) (omega (arith, p.most)) (inl (omega (arith, p.most))))
