-- A field's answer and the number in its columns: each gives the other, so that a value with its sign stands for the number.
use Rattle.std.specs.Prelude.{ℕ, zero, suc, ◌^◌, ◌<◌, ◌≡◌, refl, Bool, true, false, cond, List, ℤ, pos, negsuc, neg_ℤ, Some, None}
use Rattle.std.proofs.Common.{arith, sym, ap, ap₂, ◌∙◌, SFits, to_z, of_z, to_z-of_z}
use Rattle.std.proofs.Math.Option.{Option, none, some}
use Rattle.std.specs.Int.{w32}
use Rattle.decimal.specs.Trusted.Number.{Number, columns, field_number}
use Rattle.decimal.specs.Inside.{Within}
use Rattle.decimal.specs.NumberLaws.{Given, field_given, field_within}
use Rattle.decimal.specs.Trusted.Columns.{field_of, signed_field_of}
use Rattle.decimal.specs.FieldLaws.{field_read_lem, signed_read}
use Rattle.decimal.specs.Trusted.Reading.{int_of, number_of_int, field_answer, field_read, parsed}

back : (b : Bool) (m : ℕ) → (b ≡ true → 0 < m) → number_of_int (cond b (neg_ℤ (pos m)) (pos m)) ≡ record { negative = b; magnitude = m }
back false m h = refl
back true zero h = absurd (omega (arith, h refl))
back true (suc m) h = refl

-- there is no "-0", so a value gives its number back
pub value_number : (width : ℕ) (n : Number) → Within width n → number_of_int (int_of n) ≡ n
value_number width n h = back n.negative n.magnitude (λ e. (h.sign e).0)

pub number_value : (v : ℤ) → int_of (number_of_int v) ≡ v
number_value (pos n) = refl
number_value (negsuc n) = refl

answer_value : (o : Option Number) {v : ℤ} → Given (Within columns) o → field_answer o ≡ Some v → o ≡ some (number_of_int v)
answer_value none h e = let no : ◌≡◌ {A = ℕ} 0 1 = cc in absurd (omega arith)
answer_value (some n) {v} h e = let same : int_of n ≡ v = cc in ap some (sym (value_number columns n h) ∙ ap number_of_int same)

answer_none : (o : Option Number) → field_answer o ≡ None → o ≡ none
answer_none none e = refl
answer_none (some n) e = let no : ◌≡◌ {A = ℕ} 0 1 = cc in absurd (omega arith)

-- what a caller learns from the answer of `read`: the number, with what `negative` and `magnitude` answer of the value
pub read_value : (bs : List ℕ) {v : ℤ} → field_read bs ≡ Some v → field_number bs ≡ some (number_of_int v)
read_value bs = answer_value (field_number bs) (field_given bs)

pub read_within : (bs : List ℕ) {v : ℤ} → field_read bs ≡ Some v → Within columns (number_of_int v)
read_within bs e = field_within bs (read_value bs e)

pub read_none : (bs : List ℕ) → field_read bs ≡ None → field_number bs ≡ none
read_none bs = answer_none (field_number bs)

-- a local of 32 bits holds the value whole: the number from the answers of `negative` and `magnitude` of the value that was read
value_fits : (v : ℤ) → Within columns (number_of_int v) → SFits w32 v
value_fits (pos n) h = record { sfits = omega (arith, h.size) }
value_fits (negsuc n) h = record { sfits = omega (arith, h.size) }

pub read_held : (bs : List ℕ) {v : ℤ} → field_read bs ≡ Some v → field_number bs ≡ some (number_of_int (to_z w32 (of_z w32 v)))
read_held bs {v} e = rw (to_z-of_z (value_fits v (read_within bs e))) (read_value bs e)

pub read_number : (bs : List ℕ) {v : ℤ} {b : Bool} {m : ℕ} → field_read bs ≡ Some v →
    b ≡ (number_of_int (to_z w32 (of_z w32 v))).negative → m ≡ (number_of_int (to_z w32 (of_z w32 v))).magnitude →
    field_number bs ≡ some (record { negative = b; magnitude = m })
read_number bs e f g = read_held bs e ∙ sym (ap₂ (λ b m. some (record { negative = b; magnitude = m })) f g)

-- reading what was written gives the value back
pub read_field : (n : ℕ) → n < 10 ^ columns → field_read (field_of columns n) ≡ Some (pos n)
read_field n h = ap field_answer (field_read_lem n h)

pub read_signed : (v : ℤ) → Within columns (number_of_int v) → field_read (signed_field_of columns (number_of_int v)) ≡ Some v
read_signed v h = ap field_answer (signed_read (number_of_int v) h) ∙ ap Some (number_value v)

-- ---- without a minus sign

pub parsed_some : (o : Option ℕ) {n : ℕ} → parsed o ≡ Some n → o ≡ some n
parsed_some none e = let no : ◌≡◌ {A = ℕ} 0 1 = cc in absurd (omega arith)
parsed_some (some m) e = cc

pub parsed_none : (o : Option ℕ) → parsed o ≡ None → o ≡ none
parsed_none none e = refl
parsed_none (some m) e = let no : ◌≡◌ {A = ℕ} 0 1 = cc in absurd (omega arith)
