-- What the functions that find alike masks promise. Internal definitions.
use Rattle.std.specs.Prelude.{ℕ, ◌+◌, ◌^◌, ◌≤◌, ◌<◌, ◌≡◌, ◌⊎◌, List, length, get_or}
use Rattle.std.specs.Int.Bits.{bit_and}
use Rattle.level_arrays.specs.Alike.{fan_label}
use Rattle.level_arrays.specs.declared.Fans.{Fans}

-- the bit of a fanin up to h with the label of h
abbrev pub LikeBit : Fans → ℕ → ℕ → Type 0
LikeBit f h b = (j : ℕ) × (j ≤ h) × (b ≡ 2 ^ j) × (fan_label f j ≡ fan_label f h)

-- the mask t for top + r, where m is that for r: with m in place of r, with `bit` in place of `top`, or the mask itself
pub record LikeMask (top bit r m t : ℕ) : Type 0 where
  pub low : t ≤ top + r
  pub is : ((m < r) × (t ≡ top + m)) ⊎ (((bit_and r bit ≡ 0) × (t ≡ r + bit)) ⊎ (t ≡ top + r))

-- those for the n masks from `top` on are put, and none before them is changed
pub record LikesPut (top bit : ℕ) (a b : List ℕ) (n : ℕ) : Type 0 where
  pub is : (r : ℕ) → r < n → LikeMask top bit r (get_or a r 0) (get_or b (top + r) 0)
  pub before : (s : ℕ) → s < top → get_or b s 0 ≡ get_or a s 0
  pub room : length b ≡ length a
