-- Laws of rows that have one number from one input on, and of a choice by a number.
use Rattle.std.specs.Prelude.{ℕ, zero, suc, ◌≤◌, ◌<◌, ◌≡◌, refl, ◌∷◌, get_or, replicate}
use Rattle.std.proofs.Common.{arith}
use Rattle.std.proofs.lemmas.List.{get_or-replicate}
use Rattle.cover.specs.Trusted.Cover.{pick}
use Rattle.level_arrays.specs.Arrays.{big}

pub pick_some : (n a b : ℕ) → 0 < n → pick n a b ≡ b
pick_some zero a b l = absurd (omega arith)
pick_some (suc n) a b l = refl

pub even_row : (x w : ℕ) → w ≤ 6 → get_or (big ∷ replicate 7 x) w big ≡ pick w big x
even_row x zero l = refl
even_row x (suc w) l = get_or-replicate 7 w x big (omega arith)
