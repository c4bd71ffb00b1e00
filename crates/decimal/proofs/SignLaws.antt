-- Signed numbers by their sign: tests against zero, the difference from zero, and what the machine reads back.
use Prim.Native.Nat.{ℕ, zero, suc, ◌≤◌}
use native.Mathlib.Nat.{zero-add}
use native.Mathlib.Omega.{arith}
use mathlib.Core.Path.{◌≡◌, refl, ap}
use mathlib.Core.Bool.{false, not}
use lib.IntN.{ℤ, pos, negsuc, neg_ℤ, nat_abs, ◌-ℤ◌}
use lib.Signed.{lt_z, non_neg}
use borrow.Author.Tests.{lt-ltb, le-ltb}
use mir.Syntax.{w32, w64}
use mir.Val.{SFits, to_z, of_z}
use mir.Facts.{to_z-of_z}

pub below_zero_lem : (z : ℤ) → lt_z z (pos 0) ≡ not (non_neg z)
below_zero_lem (pos n) = le-ltb n 0 (omega arith)
below_zero_lem (negsuc n) = refl

minus : (n : ℕ) → pos 0 -ℤ pos n ≡ neg_ℤ (pos n)
minus zero = refl
minus (suc n) = rw (lt-ltb 0 (suc n) (omega arith)) (ap negsuc (omega arith))

pub minus_negative : (z : ℤ) → non_neg z ≡ false → pos 0 -ℤ z ≡ pos (nat_abs z)
minus_negative (pos n) h = let no : ◌≡◌ {A = ℕ} 0 1 = cc in absurd (omega arith)
minus_negative (negsuc n) h = ap pos (zero-add (suc n))

-- at 32 bits the absolute value is at most 2 ^ 31
pub nat_abs_fits : (z : ℤ) → SFits w32 z → nat_abs z ≤ 2147483648
nat_abs_fits (pos n) h = omega (arith, h.sfits)
nat_abs_fits (negsuc n) h = omega (arith, h.sfits)

-- a number of 32 bits as one of 64
pub widened : (z : ℤ) → SFits w32 z → SFits w64 z
widened z h = record { sfits = omega (arith, h.sfits) }

pub wide_is : (z : ℤ) → SFits w32 z → to_z w64 (of_z w64 (to_z w32 (of_z w32 z))) ≡ z
wide_is z h = rw (to_z-of_z h) (to_z-of_z (widened z h))

-- the other way round, at 32 bits
pub negated_fits : (n : ℕ) → SFits w32 (pos n) → SFits w32 (neg_ℤ (pos n))
negated_fits zero h = h
negated_fits (suc n) h = record { sfits = omega (arith, h.sfits) }

pub minus_bits : (n : ℕ) → SFits w32 (pos n) → pos 0 -ℤ to_z w32 n ≡ neg_ℤ (pos n)
minus_bits n h = rw (to_z-of_z h) (minus n)
