-- A decimal number in the columns of a field (01, "Sheet"): blanks, an optional minus sign, then digits without leading zeros;
-- "-0" is no number. -- Definitions only.
use Rattle.std.specs.Prelude.{ℕ, ◌+◌, ◌-◌, ◌*◌, ◌^◌, Bool, true, false, cond, ◌&&◌, List, [], ◌∷◌, leb, ltb, eqb, length}
use Rattle.std.proofs.Math.Option.{Option, none, some}

-- the sign is kept apart: on a net or a fanin it says that the value is inverted
pub record Number : Type 0 where
  pub negative : Bool
  pub magnitude : ℕ

-- "0" to "9" are the bytes 48 to 57
abbrev pub is_digit : ℕ → Bool
is_digit b = leb 48 b && leb b 57

-- the number that the digits make after those which make n
abbrev pub digits : ℕ → List ℕ → Option ℕ
digits n [] = some n
digits n (b ∷ bs) = cond (is_digit b) (digits (10 * n + (b - 48)) bs) none

-- one digit or more, and where there are more the first is not "0"
abbrev pub natural : List ℕ → Option ℕ
natural [] = none
natural (b ∷ []) = digits 0 (b ∷ [])
natural (b ∷ c ∷ bs) = cond (eqb b 48) none (digits 0 (b ∷ c ∷ bs))

abbrev pub unsigned : Option ℕ → Option Number
unsigned none = none
unsigned (some n) = some (record { negative = false; magnitude = n })

-- "-0" is no number
abbrev pub negated : Option ℕ → Option Number
negated none = none
negated (some n) = cond (eqb n 0) none (some (record { negative = true; magnitude = n }))

-- the minus sign is the byte 45
abbrev pub signed : List ℕ → Option Number
signed [] = none
signed (b ∷ bs) = cond (eqb b 45) (negated (natural bs)) (unsigned (natural (b ∷ bs)))

-- the blank is the byte 32; blanks alone are no number
abbrev pub number : List ℕ → Option Number
number [] = none
number (b ∷ bs) = cond (eqb b 32) (number bs) (signed (b ∷ bs))

-- the columns of a field
abbrev pub columns : ℕ
columns = 6

-- a field fills its columns
abbrev pub field_number : List ℕ → Option Number
field_number bs = cond (eqb (length bs) columns) (number bs) none

-- ---- in a list (02, #101)

-- below 2^64
abbrev pub in_word : Option ℕ → Option ℕ
in_word none = none
in_word (some n) = cond (ltb n (2 ^ 64)) (some n) none

-- without a minus sign
abbrev pub upright : Option Number → Option ℕ
upright none = none
upright (some n) = cond n.negative none (some n.magnitude)

-- the number in columns, without a minus sign and below 2^64; six columns hold none that is not below
abbrev pub word_number : List ℕ → Option ℕ
word_number bs = in_word (upright (number bs))
