-- A number can be read off its field: two different numbers have different fields.
use Rattle.std.specs.Prelude.{ℕ, zero, suc, ◌+◌, ◌*◌, ◌-◌, ◌/◌, ◌%◌, ◌^◌, ◌≤◌, ◌<◌, ◌≡◌, refl, cond, List, [], ◌∷◌, ◌++◌, eqb, length, take, drop}
use Rattle.std.proofs.Common.{mod-lt, mod-eq_of_lt, pow-suc, mul-le-mul_left, arith, sym, ap, ap₂, ◌∙◌}
use Rattle.std.proofs.Math.Nat.{mod-add-div, div-eq_of_lt, div-div-eq-div-mul, add-mul-mod_self_left, one-le-pow}
use Rattle.std.proofs.Math.Seq.{take-append_seam, drop-append_seam}
use Rattle.lists.specs.Cases.{by_eqb}
use Rattle.lists.specs.Trusted.Lists.{Every}
use Rattle.lists.specs.ListLaws.{every_head, every_tail}
use Rattle.lists.specs.TestLaws.{reflects_lt, reflects_and, by_reflects}
use Rattle.lists.specs.Trusted.Tests.{Reflects}
use Rattle.decimal.specs.Trusted.Columns.{room, column, field_of, fields_of}

pub reflects_room : (width n : ℕ) → Reflects (room width n) ((0 < width) × (n < 10 ^ width))
reflects_room width n = reflects_and (reflects_lt 0 width) (reflects_lt n (10 ^ width))

pub ten_pos : (k : ℕ) → 0 < 10 ^ k
ten_pos k = one-le-pow k 10 (omega arith)

pub div_more : (n k : ℕ) → n / 10 ^ k / 10 ≡ n / 10 ^ suc k
div_more n k = rw (div-div-eq-div-mul, pow-suc)

-- ---- a number in its field

-- the digit that a column shows
abbrev shown : ℕ → ℕ
shown c = cond (eqb c 32) 0 (c - 48)

shown_digit : (d : ℕ) → shown (48 + d) ≡ d
shown_digit d = by_eqb (λ b. cond b 0 (48 + d - 48) ≡ d) (48 + d) 32 (λ e. absurd (omega arith)) (λ n. omega arith)

shown_column : (n j : ℕ) → shown (column n j) ≡ (n / 10 ^ j) % 10
shown_column n j =
    by_reflects (λ b. shown (cond b 32 (48 + (n / 10 ^ j) % 10)) ≡ (n / 10 ^ j) % 10)
    (reflects_room j n)
    (λ h. sym (ap (λ m. m % 10) (div-eq_of_lt h.1)))
    (λ h. shown_digit ((n / 10 ^ j) % 10))

-- the lowest digits of a number, and one more
mod_more : (n b : ℕ) → 0 < b → n % (b * 10) ≡ n % b + b * ((n / b) % 10)
mod_more n b h = ap (λ m. m % (b * 10)) whole ∙ add-mul-mod_self_left low (b * 10) (n / b / 10) ∙ mod-eq_of_lt small
  where
    low : ℕ
    low = n % b + b * ((n / b) % 10)

    whole : n ≡ low + b * 10 * (n / b / 10)
    whole = omega (arith, mod-add-div n b, ap (λ q. b * q) (mod-add-div (n / b) 10))

    small : low < b * 10
    small =
        let l : (n / b) % 10 ≤ 9 = omega arith in
        omega (arith, mod-lt n h, mul-le-mul_left b l)

field_mod : (w n m : ℕ) → field_of w n ≡ field_of w m → n % (10 ^ w) ≡ m % (10 ^ w)
field_mod zero n m e = omega arith
field_mod (suc w) n m e =
    let c : column n w ≡ column m w = cc in
    let d : (n / 10 ^ w) % 10 ≡ (m / 10 ^ w) % 10 = sym (shown_column n w) ∙ ap shown c ∙ shown_column m w in
    let t : n % (10 ^ w) ≡ m % (10 ^ w) = field_mod w n m (cc) in
    let l = ten_pos w in
    rw pow-suc (mod_more n (10 ^ w) l ∙ ap₂ (λ x y. x + 10 ^ w * y) t d ∙ sym (mod_more m (10 ^ w) l))

pub field_length : (w n : ℕ) → length (field_of w n) ≡ w
field_length zero n = refl
field_length (suc w) n = ap suc (field_length w n)

parts : {A : Type 0} (a b c d : List A) → length a ≡ length c → a ++ b ≡ c ++ d → (a ≡ c) × (b ≡ d)
parts a b c d l e = (
  sym (take-append_seam a b) ∙ ap₂ take l e ∙ take-append_seam c d,
  sym (drop-append_seam a b) ∙ ap₂ drop l e ∙ drop-append_seam c d,
)

-- a number is read off its field, and what follows is the same
pub field_only : (w n m : ℕ) (xs ys : List ℕ) → n < 10 ^ w → m < 10 ^ w → field_of w n ++ xs ≡ field_of w m ++ ys → (n ≡ m) × (xs ≡ ys)
field_only w n m xs ys ln lm e =
    let p = parts (field_of w n) xs (field_of w m) ys (field_length w n ∙ sym (field_length w m)) e in
    (sym (mod-eq_of_lt ln) ∙ field_mod w n m p.0 ∙ mod-eq_of_lt lm, p.1)

-- and several
pub fields_only : (ns ms : List ℕ) (xs ys : List ℕ) → length ns ≡ length ms → Every (λ n. n < 10 ^ 6) ns → Every (λ n. n < 10 ^ 6) ms →
    fields_of ns ++ xs ≡ fields_of ms ++ ys → (ns ≡ ms) × (xs ≡ ys)
fields_only [] [] xs ys l f g e = (refl, e)
fields_only [] (m ∷ ms) xs ys l f g e = absurd (omega arith)
fields_only (n ∷ ns) [] xs ys l f g e = absurd (omega arith)
fields_only (n ∷ ns) (m ∷ ms) xs ys l f g e =
    let a = field_only 6 n m (fields_of ns ++ xs) (fields_of ms ++ ys) (every_head f) (every_head g) e in
    let b = fields_only ns ms xs ys (omega arith) (every_tail f) (every_tail g) a.1 in
    (ap₂ ◌∷◌ a.0 b.0, b.1)
