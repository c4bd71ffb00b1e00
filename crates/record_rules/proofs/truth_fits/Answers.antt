use Rattle.std.proofs.Common.{ℕ, ◌≤◌, ◌<◌, ◌^◌, arith, sym, lt-ltb}
use native.Mathlib.Nat.{pow-le-pow_right}
use Rattle.record_rules.proofs.truth_fits.Goals as goal

-- no number of 64 bits is too large for 2^6 bits or more
wide : (n x : ℕ) → 6 ≤ n → x < 2 ^ 64 → x < 2 ^ (2 ^ n)
wide n x h l =
    let a : 2 ^ 6 ≤ 2 ^ n = pow-le-pow_right (omega arith) {i = 6} {j = n} h in
    let b : 2 ^ (2 ^ 6) ≤ 2 ^ (2 ^ n) = pow-le-pow_right (omega arith) {i = 2 ^ 6} {j = 2 ^ n} a in
    omega arith

pub returns-in_default : goal.returns-in_default
returns-in_default c =
    let a = c.args in
    sym (lt-ltb a.truth (2 ^ (2 ^ a.count)) (wide a.count a.truth (omega arith) c.ranges.truth.fits))
