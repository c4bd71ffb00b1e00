-- Reading a number byte by byte: what one byte at an index makes of it.
use Prim.Native.Nat.{ℕ, suc, ◌+◌, ◌*◌, ◌-◌, ◌^◌, ◌≤◌, ◌<◌}
use native.Mathlib.Nat.{pow-le-pow_right}
use native.Mathlib.Omega.{arith}
use mathlib.Core.Path.{◌≡◌, refl, sym, ap, ◌∙◌}
use mathlib.Core.Bool.{Bool, not, cond}
use lib.Dec.{eqb}
use Rattle.std.specs.List.{position_or_len}
use Rattle.lists.specs.Cases.{by_test, by_leb}
use mathlib.Core.Option.{none, some}
use mathlib.Core.List.{List, [], ◌∷◌}
use lib.IntN.{pos}
use lib.ListN.{length, get_or, take, drop, length-drop, drop_of_length-le}
use lib.Seq.{drop-cons}
use Rattle.std.proofs.Math.Seq.{take-length}
use mir.Syntax.{w32}
use mir.Val.{SFits}
use borrow.Author.Tests.{eq-eqb}
use Rattle.decimal.specs.Trusted.Number.{is_digit, digits, natural, negated, signed, number, field_number, in_word, upright, word_number}
use Rattle.decimal.specs.NumberLaws.{natural_digits, natural_below}
use Rattle.decimal.specs.WordLaws.{whole_word, past_word, signed_upright}
use Rattle.decimal.specs.Inside.{Skipped}
use Rattle.decimal.specs.Trusted.Reading.{parsed}
use Rattle.decimal.specs.ReadingLaws.{parsed_some}
use Rattle.std.specs.Prelude.{Some, None, MatchOption, position, ◌==◌}
use Rattle.std.proofs.lemmas.Option.{MatchOption-at_some, MatchOption-at_none}
use Rattle.lists.specs.TestLaws.{by_reflects, reflects_lt}

-- a slice from a place to the end
rest_is : (bs : List ℕ) (i : ℕ) → take (length bs - i) (drop i bs) ≡ drop i bs
rest_is bs i = ap (λ n. take n (drop i bs)) (sym (length-drop i bs)) ∙ take-length (drop i bs)

-- ---- blanks

-- so many blanks stand before the first byte that is none
first_other : (bs : List ℕ) → Skipped bs (position_or_len (λ b. not (b == 32)) bs)
first_other [] = record { within = omega arith; same = refl }
first_other (b ∷ bs) =
    let rest = position_or_len (λ (c : ℕ). not (c == 32)) bs in
    let h = first_other bs in
    let place = λ (t : Bool). cond (not (not t)) (1 + rest) 0 in
    let both : (place (eqb b 32) ≤ length (b ∷ bs)) × (number (b ∷ bs) ≡ signed (drop (place (eqb b 32)) (b ∷ bs))) =
    by_test (λ t. (place t ≤ length (b ∷ bs)) × (cond t (number bs) (signed (b ∷ bs)) ≡ signed (drop (place t) (b ∷ bs)))) (eqb b 32)
    (λ e. let w = h.within in let next : 1 + rest ≡ suc rest = omega arith in (omega arith, rw next h.same))
    (λ e. (omega arith, refl)) in
    record { within = both.0; same = both.1 }

-- the number is what stands from that byte on, and blanks alone are none
number_from : (bs : List ℕ) →
    MatchOption (position (λ b. not (b == 32)) bs) (number bs ≡ none) (λ i. (i < length bs) × (number bs ≡ signed (drop i bs)))
number_from bs =
    let at = position_or_len (λ (b : ℕ). not (b == 32)) bs in
    let h = first_other bs in
    by_reflects (λ t. MatchOption (cond t (Some at) None) (number bs ≡ none) (λ i. (i < length bs) × (number bs ≡ signed (drop i bs)))) (reflects_lt at (length bs))
    (λ l. (l, h.same))
    (λ n. h.same ∙ rw (drop_of_length-le bs {i = at} (by_leb (λ b. length bs ≤ at) (length bs) at (λ l. l) (λ l. absurd (n l)))))

pub number_none : (bs : List ℕ) → position (λ b. not (b == 32)) bs ≡ None → number bs ≡ none
number_none bs e = MatchOption-at_none (number bs ≡ none) (λ i. (i < length bs) × (number bs ≡ signed (drop i bs))) e (number_from bs)

pub number_after_blanks : (bs : List ℕ) {i : ℕ} → position (λ b. not (b == 32)) bs ≡ Some i → number bs ≡ signed (take (length bs - i) (drop i bs))
number_after_blanks bs {i} e =
    let h = MatchOption-at_some (number bs ≡ none) (λ i. (i < length bs) × (number bs ≡ signed (drop i bs))) i e (number_from bs) in
    h.1 ∙ ap signed (sym (rest_is bs i))

pub word_there : (bs : List ℕ) {i : ℕ} → position (λ b. not (b == 32)) bs ≡ Some i → word_number bs ≡ in_word (natural (take (length bs - i) (drop i bs)))
word_there bs {i} e = ap (λ o. in_word (upright o)) (number_after_blanks bs e) ∙ ap in_word (signed_upright (take (length bs - i) (drop i bs)))

-- ---- digits

-- a digit more, or another byte, makes no number smaller
pub past_digit : (bs : List ℕ) (i n : ℕ) → i < length bs → 2 ^ 64 ≤ 10 * n + (get_or bs i 0 - 48) → in_word (digits n (drop i bs)) ≡ none
past_digit bs i n h l =
    rw (drop-cons bs i 0)
    (by_test (λ t. in_word (cond t (digits (10 * n + (get_or bs i 0 - 48)) (drop (suc i) bs)) none) ≡ none) (is_digit (get_or bs i 0))
    (λ d. past_word (10 * n + (get_or bs i 0 - 48)) (drop (suc i) bs) l)
    (λ d. refl))

pub natural_first : (bs : List ℕ) → 0 < length bs → (get_or bs 0 0 ≡ 48 → ⊥) → natural bs ≡ digits 0 bs
natural_first [] h n = absurd (omega arith)
natural_first (b ∷ bs) h n = natural_digits b bs n

-- ---- with a sign

pub signed_minus : (bs : List ℕ) → 0 < length bs → get_or bs 0 0 ≡ 45 → signed bs ≡ negated (natural (take (length bs - 1) (drop 1 bs)))
signed_minus [] h e = absurd (omega arith)
signed_minus (b ∷ bs) h e =
    rw (eq-eqb b 45 e) (ap (λ l. negated (natural l)) (sym (rest_is (b ∷ bs) 1)))

-- ---- a field

pub field_full : (bs : List ℕ) → length bs ≡ 6 → field_number bs ≡ number bs
field_full bs e = rw (eq-eqb (length bs) 6 e)

-- so many digits as these are below 2^64, and six columns fit 32 bits
pub below_short : (n k : ℕ) → n < 10 ^ k → k ≤ 18 → n < 10 ^ 18
below_short n k h l = omega (arith, pow-le-pow_right {n = 10} (omega arith) {i = k} {j = 18} l)

natural_short : (bs : List ℕ) (k n : ℕ) → length bs ≤ k → natural bs ≡ some n → n < 10 ^ k
natural_short bs k n h e = omega (arith, natural_below bs e, pow-le-pow_right {n = 10} (omega arith) {i = length bs} {j = k} h)

pub short_word : (bs : List ℕ) → length bs ≤ 19 → in_word (natural bs) ≡ natural bs
short_word bs h = whole_word (natural bs) (λ n e. let l = natural_short bs 19 n h e in omega (arith, l))

pub natural_fits : (bs : List ℕ) {n : ℕ} → length bs ≤ 6 → parsed (natural bs) ≡ Some n → SFits w32 (pos n)
natural_fits bs {n} h e = let l = natural_short bs 6 n h (parsed_some (natural bs) e) in record { sfits = omega (arith, l) }
