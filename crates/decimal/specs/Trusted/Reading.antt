-- What reading a field answers: the value of the number in its columns, or that they hold none.
-- Definitions only: the laws are in ReadingLaws.
use Rattle.std.specs.Prelude.{ℕ, not, cond, List, ℤ, pos, neg_ℤ, nat_abs, Option as Answer, Some, None}
use Rattle.std.proofs.Math.Option.{Option, none, some}
use Rattle.std.specs.Int.Signed.{non_neg}
use Rattle.decimal.specs.Trusted.Number.{Number, field_number, word_number}

-- a number's value, and the number that has a value
abbrev pub int_of : Number → ℤ
int_of n = cond n.negative (neg_ℤ (pos n.magnitude)) (pos n.magnitude)

abbrev pub number_of_int : ℤ → Number
number_of_int z = record { negative = not (non_neg z); magnitude = nat_abs z }

abbrev pub field_answer : Option Number → Answer ℤ
field_answer none = None
field_answer (some n) = Some (int_of n)

-- what six columns read as; a slice of another length holds no number
abbrev pub field_read : List ℕ → Answer ℤ
field_read bs = field_answer (field_number bs)

-- ---- without a minus sign, below 2^64

abbrev pub parsed : Option ℕ → Answer ℕ
parsed none = None
parsed (some n) = Some n

-- what columns read as, however many
abbrev pub word_read : List ℕ → Answer ℕ
word_read bs = parsed (word_number bs)
