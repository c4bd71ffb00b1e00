-- Which numbers have room, and what the functions inside the reader and the writer answer. Internal definitions.
use Rattle.std.specs.Prelude.{ℕ, ◌+◌, ◌-◌, ◌%◌, ◌^◌, ◌≤◌, ◌<◌, ◌≡◌, Bool, true, not, cond, ◌&&◌, List, eqb, length, drop}
use Rattle.decimal.specs.Trusted.Number.{Number, signed, number}

-- what can stand in so many columns; a minus sign takes one
pub record Within (width : ℕ) (n : Number) : Type 0 where
  pub size : n.magnitude < 10 ^ width
  pub sign : n.negative ≡ true → (0 < n.magnitude) × (n.magnitude < 10 ^ (width - 1))

-- so many blanks stand first
pub record Skipped (bs : List ℕ) (at : ℕ) : Type 0 where
  pub within : at ≤ length bs
  pub same : number bs ≡ signed (drop at bs)

-- the byte of a column, of which `left` is what stands there and further left
abbrev pub digit_of : ℕ → Bool → ℕ
digit_of left last = cond (eqb left 0 && not last) 32 (48 + left % 10)

-- how many digits a number has; 0 has one
pub record DigitCount (n count : ℕ) : Type 0 where
  pub some : 1 ≤ count
  pub enough : n < 10 ^ count
  pub least : 1 < count → 10 ^ (count - 1) ≤ n
