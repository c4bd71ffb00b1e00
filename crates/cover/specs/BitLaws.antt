-- Laws of rows of bits: a truth table has the bits that it was made of, and is the only number that has them; the index made of some
-- values gives each value back; and an operation on two words works bit by bit.
use Rattle.std.specs.Prelude.{ℕ, zero, suc, ◌+◌, ◌*◌, ◌/◌, ◌%◌, ◌^◌, ◌<◌, min, max, ◌≡◌, refl, Bool, true, false, cond, List, [], ◌∷◌, map, eqb, length}
use Rattle.std.proofs.Common.{div-one, one-add, arith, sym, ap, ap₂, ◌∙◌, shr-shr}
use Rattle.std.specs.Int.Bits.{bit_and, bit_or, bit_xor, differ, and_step, or_step, xor_step}
use Rattle.lists.specs.Cases.{by_eqb}
use Rattle.lists.specs.Trusted.Lists.{◌∈◌}
use Rattle.lists.specs.ListLaws.{not_first}
use Rattle.tree.specs.declared.Kind.TheVariants.{And as and, Or as or}
use Rattle.tree.specs.Trusted.Tree.{turned, meet}
use Rattle.cover.specs.Trusted.Bits.{bit, digit, truth_of, index, place}

low : (b : Bool) (n : ℕ) → bit (digit b n) 0 ≡ b
low true n =
    let e : (1 + 2 * n) % 2 ≡ 1 = omega arith in
    rw e
low false n =
    let e : (2 * n) % 2 ≡ 0 = omega arith in
    rw e

high : (b : Bool) (n : ℕ) → digit b n / 2 ≡ n
high true n = omega arith
high false n = omega arith

high_bit : (b : Bool) (n i : ℕ) → bit (digit b n) (suc i) ≡ bit n i
high_bit b n i = ap (λ m. bit m i) (high b n)

-- by a shift
pub bit_shift : (n i : ℕ) → bit n i ≡ eqb (n / 2 ^ i % 2) 1
bit_shift n zero = ap (λ m. eqb (m % 2) 1) (sym (div-one n))
bit_shift n (suc i) = bit_shift (n / 2) i ∙ ap (λ m. eqb (m % 2) 1) (shr-shr n 1 i ∙ ap (λ k. n / 2 ^ k) (one-add i))

double : (b : Bool) (n k : ℕ) → n < 2 ^ k → digit b n < 2 ^ suc k
double true n k h = omega arith
double false n k h = omega arith

pub bit_truth_of : (f : ℕ → Bool) (n i : ℕ) → i < n → bit (truth_of f n) i ≡ f i
bit_truth_of f zero i h = absurd (omega arith)
bit_truth_of f (suc n) zero h = low (f 0) (truth_of (λ i. f (suc i)) n)
bit_truth_of f (suc n) (suc i) h = high_bit (f 0) (truth_of (λ j. f (suc j)) n) i ∙ bit_truth_of (λ j. f (suc j)) n i (omega arith)

-- it has no bit from n up
pub truth_of_lt : (f : ℕ → Bool) (n : ℕ) → truth_of f n < 2 ^ n
truth_of_lt f zero = omega arith
truth_of_lt f (suc n) = double (f 0) (truth_of (λ i. f (suc i)) n) n (truth_of_lt (λ i. f (suc i)) n)

-- a number is made of its lowest bit and the others
parts : (x : ℕ) → digit (bit x 0) (x / 2) ≡ x
parts x = by_eqb (λ b. digit b (x / 2) ≡ x) (x % 2) 1 (λ e. omega arith) (λ e. omega arith)

-- and it is the only number of n bits with those bits
pub truth_of_only : (f : ℕ → Bool) (n x : ℕ) → x < 2 ^ n → ((i : ℕ) → i < n → bit x i ≡ f i) → truth_of f n ≡ x
truth_of_only f zero x h g = omega arith
truth_of_only f (suc n) x h g =
    ap₂ digit (sym (g 0 (omega arith))) (truth_of_only (λ i. f (suc i)) n (x / 2) (omega arith) (λ i l. g (suc i) (omega arith))) ∙ parts x

pub index_lt : (bs : List Bool) → index bs < 2 ^ length bs
index_lt [] = omega arith
index_lt (b ∷ bs) = double b (index bs) (length bs) (index_lt bs)

-- the index made of the values of the codes `xs` gives each its value back
pub bit_index : (e : ℕ → Bool) (c : ℕ) (xs : List ℕ) → c ∈ xs → bit (index (map e xs)) (place c xs) ≡ e c
bit_index e c [] m = elim m [ ]
bit_index e c (x ∷ xs) m =
    by_eqb (λ b. bit (index (map e (x ∷ xs))) (cond b 0 (suc (place c xs))) ≡ e c) c x (λ q. low (e x) (index (map e xs)) ∙ ap e (sym q))
    (λ n. high_bit (e x) (index (map e xs)) (place c xs) ∙ bit_index e c xs (not_first n m))

-- ---- two words, bit by bit

two_digits : (P : ℕ → ℕ → Type 0) → P 0 0 → P 0 1 → P 1 0 → P 1 1 → (x y : ℕ) → x < 2 → y < 2 → P x y
two_digits P a b c d zero zero l m = a
two_digits P a b c d zero (suc zero) l m = b
two_digits P a b c d (suc zero) zero l m = c
two_digits P a b c d (suc zero) (suc zero) l m = d
two_digits P a b c d zero (suc (suc y)) l m = absurd (omega arith)
two_digits P a b c d (suc zero) (suc (suc y)) l m = absurd (omega arith)
two_digits P a b c d (suc (suc x)) y l m = absurd (omega arith)

-- `f` does on digits what `g` does on bits
abbrev Agree : (ℕ → ℕ → ℕ) → (Bool → Bool → Bool) → ℕ → ℕ → Type 0
Agree f g x y = (f x y < 2) × (eqb (f x y) 1 ≡ g (eqb x 1) (eqb y 1))

-- an operation on words that goes digit by digit
module _ (op f : ℕ → ℕ → ℕ) (g : Bool → Bool → Bool) (step : (a b : ℕ) → op a b ≡ op (a / 2) (b / 2) * 2 + f (a % 2) (b % 2))
    (agree : (x y : ℕ) → x < 2 → y < 2 → Agree f g x y) where
  bit_op : (a b i : ℕ) → bit (op a b) i ≡ g (bit a i) (bit b i)
  bit_op a b zero =
      let h = agree (a % 2) (b % 2) (omega arith) (omega arith) in
      let e : op a b % 2 ≡ f (a % 2) (b % 2) = omega (arith, step a b) in
      ap (λ k. eqb k 1) e ∙ h.1
  bit_op a b (suc i) =
      let h = agree (a % 2) (b % 2) (omega arith) (omega arith) in
      let e : op a b / 2 ≡ op (a / 2) (b / 2) = omega (arith, step a b) in
      ap (λ k. bit k i) e ∙ bit_op (a / 2) (b / 2) i

pub bit_and_lem : (a b i : ℕ) → bit (bit_and a b) i ≡ meet and (bit a i) (bit b i)
bit_and_lem =
    bit_op bit_and min (meet and) and_step
    (two_digits (Agree min (meet and)) (omega arith, refl) (omega arith, refl) (omega arith, refl) (omega arith, refl))

pub bit_or_lem : (a b i : ℕ) → bit (bit_or a b) i ≡ meet or (bit a i) (bit b i)
bit_or_lem =
    bit_op bit_or max (meet or) or_step
    (two_digits (Agree max (meet or)) (omega arith, refl) (omega arith, refl) (omega arith, refl) (omega arith, refl))

pub bit_xor_lem : (a b i : ℕ) → bit (bit_xor a b) i ≡ turned (bit a i) (bit b i)
bit_xor_lem =
    bit_op bit_xor differ turned xor_step
    (two_digits (Agree differ turned) (omega arith, refl) (omega arith, refl) (omega arith, refl) (omega arith, refl))

pub bit_zero : (i : ℕ) → bit 0 i ≡ false
bit_zero zero = refl
bit_zero (suc i) = bit_zero i
