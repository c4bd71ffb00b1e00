use Prim.Native.Nat.{◌-◌}
use native.Mathlib.Omega.{arith}
use mathlib.Core.Path.{◌≡◌}
use lib.Count.{count_leading_zeros}
use Rattle.std.proofs.lemmas.Nat.{leading_top}
use Rattle.level_plans.proofs.top_bit.Goals as goal

pub returns : goal.returns
returns c =
    let s = c.args.s in
    let t = leading_top 64 s c.requires.0 (omega arith) in
    let e : 63 - count_leading_zeros 64 s ≡ t.0 = omega (arith, t.1) in
    rw e (record { bit = t.0; is = omega (arith, t.2); within = (omega (arith, t.2), omega (arith, t.2, t.3)) })
