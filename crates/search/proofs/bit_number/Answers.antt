use Prim.Native.Nat.{ℕ, ◌^◌, ◌≤◌, ◌<◌}
use mathlib.Core.Path.{◌≡◌, sym, ap, ◌∙◌}
use native.Mathlib.Omega.{arith}
use lib.Pow.{pow_mono, pow-lt}
use mir.Syntax.{w64}
use Rattle.std.specs.Int.{bit_at, trailing_zeros}
use Rattle.std.proofs.lemmas.Nat.Bits.{bit_at-trailing_zeros, bit_at-pow_other}
use Rattle.tree.specs.Trusted.Limits.{most_fanins}
use Rattle.search.proofs.bit_number.Goals as goal

-- the only bit of a mask
only : (h t : ℕ) → bit_at (2 ^ h) t ≡ 1 → t ≡ h
only h t e = grind (arith, bit_at-pow_other)

lowest : (h : ℕ) → h < most_fanins → trailing_zeros w64 (2 ^ h) ≡ h
lowest h l =
    let z : 0 ≤ h = omega arith in
    let some : 0 < 2 ^ h = omega (arith, pow_mono z) in
    let few : 2 ^ h < 2 ^ 64 = omega (arith, pow-lt l) in
    only h _ (bit_at-trailing_zeros w64 (2 ^ h) some few).1

pub returns : goal.returns
returns c =
    let q = c.requires in
    let i = ap (trailing_zeros w64) q.2 ∙ lowest q.0 q.1 in
    (ap (λ n. 2 ^ n) i ∙ sym q.2, omega (arith, i, q.1))
