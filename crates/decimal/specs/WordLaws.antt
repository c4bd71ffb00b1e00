-- A number in columns, without a minus sign and below 2^64: it is read from what is written of it, and from nothing else.
use Rattle.std.specs.Prelude.{ℕ, ◌+◌, ◌*◌, ◌-◌, ◌^◌, ◌≤◌, ◌<◌, ◌≡◌, refl, Bool, true, false, cond, List, [], ◌∷◌, length}
use Rattle.std.proofs.Common.{arith, sym, ap, ◌∙◌, lt-ltb, le-ltb}
use Rattle.std.proofs.Math.Option.{Option, none, some}
use Rattle.std.proofs.lemmas.Bool.{lt-leb}
use Rattle.lists.specs.Cases.{by_eqb}
use Rattle.lists.specs.TestLaws.{reflects_lt, reflects_within, by_reflects}
use Rattle.decimal.specs.Trusted.Number.{Number, digits, natural, unsigned, negated, signed, number, in_word, upright, word_number}
use Rattle.decimal.specs.NumberLaws.{natural_digits}
use Rattle.decimal.specs.Trusted.Columns.{field_of}
use Rattle.decimal.specs.FieldLaws.{plain_field, number_field}
use Rattle.decimal.specs.FieldText.{no_some, room_is, number_text}

-- ---- below 2^64

pub below_word : (n : ℕ) → n < 2 ^ 64 → in_word (some n) ≡ some n
below_word n l = ap (λ b. cond b (some n) none) (lt-ltb n (2 ^ 64) l)

pub whole_word : (o : Option ℕ) → ((n : ℕ) → o ≡ some n → n < 2 ^ 64) → in_word o ≡ o
whole_word none h = refl
whole_word (some n) h = below_word n (h n refl)

-- digits that follow make no number smaller
pub past_word : (n : ℕ) (bs : List ℕ) → 2 ^ 64 ≤ n → in_word (digits n bs) ≡ none
past_word n [] h = ap (λ b. cond b (some n) none) (le-ltb n (2 ^ 64) h)
past_word n (b ∷ bs) h =
    by_reflects (λ t. in_word (cond t (digits (10 * n + (b - 48)) bs) none) ≡ none) (reflects_within 48 57 b)
    (λ l. past_word (10 * n + (b - 48)) bs (omega arith))
    (λ l. refl)

-- ---- what is written of a number is read as it

pub word_field : (width n : ℕ) → 0 < width → n < 10 ^ width → n < 2 ^ 64 → word_number (field_of width n) ≡ some n
word_field width n p h l = ap (λ o. in_word (upright o)) (number_field width n p h) ∙ below_word n l

-- ---- without a minus sign

unsigned_upright : (o : Option ℕ) → upright (unsigned o) ≡ o
unsigned_upright none = refl
unsigned_upright (some n) = refl

negated_upright : (o : Option ℕ) → upright (negated o) ≡ none
negated_upright none = refl
negated_upright (some n) = by_eqb (λ t. upright (cond t none (some (record { negative = true; magnitude = n }))) ≡ none) n 0 (λ e. refl) (λ e. refl)

no_digit : (b : ℕ) (bs : List ℕ) → b < 48 → natural (b ∷ bs) ≡ none
no_digit b bs l = natural_digits b bs (λ e. omega arith) ∙ rw (lt-leb 48 b l)

-- a minus sign is no digit
pub signed_upright : (bs : List ℕ) → upright (signed bs) ≡ natural bs
signed_upright [] = refl
signed_upright (b ∷ bs) =
    by_eqb (λ t. upright (cond t (negated (natural bs)) (unsigned (natural (b ∷ bs)))) ≡ natural (b ∷ bs)) b 45
    (λ e. negated_upright (natural bs) ∙ sym (no_digit b bs (omega arith)))
    (λ e. unsigned_upright (natural (b ∷ bs)))

-- ---- nothing else is read as a number

in_word_lem : (o : Option ℕ) {n : ℕ} → in_word o ≡ some n → (o ≡ some n) × (n < 2 ^ 64)
in_word_lem none = λ e. no_some e
in_word_lem (some m) {n} =
    by_reflects (λ t. cond t (some m) none ≡ some n → (some m ≡ some n) × (n < 2 ^ 64)) (reflects_lt m (2 ^ 64))
    (λ l e. let same : m ≡ n = cc in (e, omega arith))
    (λ l e. no_some e)

upright_some : (o : Option Number) {n : ℕ} → upright o ≡ some n → o ≡ some (record { negative = false; magnitude = n })
upright_some none = λ e. no_some e
upright_some (some x) {n} = of x.negative x.magnitude
  where
    of : (b : Bool) (m : ℕ) → cond b none (some m) ≡ some n → ◌≡◌ {A = Option Number} (some (record { negative = b; magnitude = m })) (some (record { negative = false; magnitude = n }))
    of true m e = no_some e
    of false m e = cc

pub word_bytes : (bs : List ℕ) {n : ℕ} → word_number bs ≡ some n → (0 < length bs) × (n < 10 ^ length bs) × (n < 2 ^ 64) × (bs ≡ field_of (length bs) n)
word_bytes bs {n} e =
    let w = in_word_lem (upright (number bs)) e in
    let t = number_text bs (upright_some (number bs) w.0) in
    let r = room_is (length bs) n t.whole in
    (r.0, r.1, w.1, t.text ∙ plain_field (length bs) n)
