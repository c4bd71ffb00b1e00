-- What a number in columns can be: it is below the power of ten that its columns give, a minus sign takes one of them, and there is no "-0".
use Rattle.std.specs.Prelude.{ℕ, suc, ◌+◌, ◌*◌, ◌-◌, ◌^◌, ◌≤◌, ◌<◌, ◌≡◌, refl, true, cond, List, [], ◌∷◌, length}
use Rattle.std.proofs.Common.{pow-suc, add-suc, suc-add, add-zero, zero-add, arith, subst, ne_eqb}
use Rattle.std.proofs.Math.Option.{Option, none, some}
use Rattle.lists.specs.Cases.{by_eqb}
use Rattle.lists.specs.TestLaws.{reflects_within, by_reflects}
use Rattle.decimal.specs.Trusted.Number.{Number, digits, natural, unsigned, negated, signed, number, columns, field_number}
use Rattle.decimal.specs.Inside.{Within}

-- what holds of the value, where there is one
abbrev pub Given : {A : Type 0} → (A → Type 0) → Option A → Type 0
Given P none = Unit {0}
Given P (some a) = P a

pub given_map : {A : Type 0} {P Q : A → Type 0} → ((a : A) → P a → Q a) → (o : Option A) → Given P o → Given Q o
given_map f none h = tt
given_map f (some a) h = f a h

pub given_some : {A : Type 0} (P : A → Type 0) {a : A} {o : Option A} → Given P o → o ≡ some a → P a
given_some P h e = subst (Given P) e h

-- ---- digits

-- one digit more is a factor of ten more
pub digit_fits : (n d k : ℕ) → n < 10 ^ k → d ≤ 9 → 10 * n + d < 10 ^ suc k
digit_fits n d k h l = rw pow-suc (omega arith)

digits_given : (bs : List ℕ) (n k : ℕ) → n < 10 ^ k → Given (λ m. m < 10 ^ (k + length bs)) (digits n bs)
digits_given [] n k h = rw add-zero h
digits_given (b ∷ bs) n k h =
    by_reflects (λ t. Given (λ m. m < 10 ^ (k + suc (length bs))) (cond t (digits (10 * n + (b - 48)) bs) none))
    (reflects_within 48 57 b)
    (λ l. rw (add-suc, ← suc-add) (digits_given bs (10 * n + (b - 48)) (suc k) (digit_fits n (b - 48) k h (omega arith))))
    (λ l. tt)

digits_all : (bs : List ℕ) → Given (λ m. m < 10 ^ length bs) (digits 0 bs)
digits_all bs = rw zero-add at (digits_given bs 0 0 (omega arith))

-- where the first digit is not "0"
pub natural_digits : (b : ℕ) (bs : List ℕ) → (b ≡ 48 → ⊥) → natural (b ∷ bs) ≡ digits 0 (b ∷ bs)
natural_digits b [] h = refl
natural_digits b (d ∷ bs) h = rw (ne_eqb b 48 h)

natural_given : (bs : List ℕ) → Given (λ m. m < 10 ^ length bs) (natural bs)
natural_given [] = tt
natural_given (b ∷ []) = digits_all (b ∷ [])
natural_given (b ∷ d ∷ bs) =
    by_eqb (λ t. Given (λ m. m < 10 ^ length (b ∷ d ∷ bs)) (cond t none (digits 0 (b ∷ d ∷ bs)))) b 48 (λ e. tt) (λ e. digits_all (b ∷ d ∷ bs))

pub natural_below : (bs : List ℕ) {m : ℕ} → natural bs ≡ some m → m < 10 ^ length bs
natural_below bs = given_some (λ m. m < 10 ^ length bs) (natural_given bs)

-- ---- with a sign, after blanks

pub negated_more : (n : ℕ) → (n ≡ 0 → ⊥) → negated (some n) ≡ some (record { negative = true; magnitude = n })
negated_more n h = rw (ne_eqb n 0 h)

minus_one : (k : ℕ) → suc k - 1 ≡ k
minus_one k = omega arith

within_more : (width : ℕ) (n : Number) → Within width n → Within (suc width) n
within_more width n h = record { size = rw pow-suc (omega arith); sign = λ e. ((h.sign e).0, rw (minus_one width) h.size) }

unsigned_given : (o : Option ℕ) (width : ℕ) → Given (λ m. m < 10 ^ width) o → Given (Within width) (unsigned o)
unsigned_given none width h = tt
unsigned_given (some n) width h = record { size = h; sign = λ e. let no : ◌≡◌ {A = ℕ} 0 1 = cc in absurd (omega arith) }

negated_given : (o : Option ℕ) (width : ℕ) → Given (λ m. m < 10 ^ width) o → Given (Within (suc width)) (negated o)
negated_given none width h = tt
negated_given (some n) width h =
    by_eqb (λ t. Given (Within (suc width)) (cond t none (some (record { negative = true; magnitude = n })))) n 0
    (λ e. tt)
    (λ e. record { size = rw pow-suc (omega arith); sign = λ s. (omega arith, rw (minus_one width) h) })

signed_given : (bs : List ℕ) → Given (Within (length bs)) (signed bs)
signed_given [] = tt
signed_given (b ∷ bs) =
    by_eqb (λ t. Given (Within (suc (length bs))) (cond t (negated (natural bs)) (unsigned (natural (b ∷ bs))))) b 45
    (λ e. negated_given (natural bs) (length bs) (natural_given bs))
    (λ e. unsigned_given (natural (b ∷ bs)) (suc (length bs)) (natural_given (b ∷ bs)))

number_given : (bs : List ℕ) → Given (Within (length bs)) (number bs)
number_given [] = tt
number_given (b ∷ bs) =
    by_eqb (λ t. Given (Within (suc (length bs))) (cond t (number bs) (signed (b ∷ bs)))) b 32
    (λ e. given_map (within_more (length bs)) (number bs) (number_given bs))
    (λ e. signed_given (b ∷ bs))

pub field_given : (bs : List ℕ) → Given (Within columns) (field_number bs)
field_given bs =
    by_eqb (λ t. Given (Within columns) (cond t (number bs) none)) (length bs) columns
    (λ e. subst (λ k. Given (Within k) (number bs)) e (number_given bs))
    (λ e. tt)

pub field_within : (bs : List ℕ) {n : Number} → field_number bs ≡ some n → Within columns n
field_within bs = given_some (Within columns) (field_given bs)
