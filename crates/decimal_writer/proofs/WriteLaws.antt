-- Writing a number column by column: what division by ten leaves, and the digits that a number has.
use Rattle.std.specs.Prelude.{Ok}
use Prim.Native.Nat.{max, ℕ, zero, suc, ◌+◌, ◌*◌, ◌-◌, ◌/◌, ◌%◌, ◌^◌, ◌≤◌, ◌<◌}
use native.Mathlib.Nat.{pow-suc, pow-le-pow_right, mod-lt, mod-add-div, div-eq_of_lt}
use native.Mathlib.Omega.{arith}
use mathlib.Core.Path.{◌≡◌, refl, sym, ap, ap₂, ◌∙◌}
use mathlib.Core.Bool.{true, false, not, cond, ◌&&◌}
use mathlib.Core.List.{List, ◌∷◌}
use lib.Dec.{eqb}
use lib.ListN.{length, drop, set, length-set}
use lib.Seq.{drop-cons, drop-set-lt, get_or-set_same}
use Rattle.lists.specs.Cases.{by_eqb}
use Rattle.lists.specs.TestLaws.{reflects_eq, reflects_not, reflects_and, reflects_same, reflects_true, by_reflects}
use Rattle.decimal.specs.Trusted.Columns.{room, column, field_of, signed_field_of}
use Rattle.decimal.specs.Trusted.Number.{Number}
use Rattle.decimal.specs.ColumnLaws.{reflects_room, ten_pos}
use Rattle.decimal.specs.FieldLaws.{plain_field, minus_digits}
use Rattle.decimal.specs.Trusted.Writing.{write_if, field_written, signed_written}
use Rattle.decimal.specs.Inside.{digit_of, DigitCount}

-- nothing is left of a number below the divisor, and only of such a number
pub div_none : (n b : ℕ) → 0 < b → n / b ≡ 0 → n < b
div_none n b h e = omega (arith, mod-lt n h, mod-add-div n b, ap (λ q. b * q) e)

column_digit : (n j : ℕ) → column n j ≡ digit_of (n / 10 ^ j) (eqb j 0)
column_digit n j =
    ap (λ b. cond b 32 (48 + (n / 10 ^ j) % 10))
    (reflects_same
    (reflects_room j n)
    (reflects_and (reflects_eq (n / 10 ^ j) 0) (reflects_not (reflects_eq j 0)))
    (λ h. (div-eq_of_lt h.1, λ e. omega arith))
    (λ h. (positive h.1, div_none n (10 ^ j) (ten_pos j) h.0)))
  where
    positive : (j ≡ 0 → ⊥) → 0 < j
    positive h = by_eqb (λ b. 0 < j) j 0 (λ e. absurd (h e)) (λ e. omega arith)

drop_set : (l : List ℕ) (i b : ℕ) → i < length l → drop i (set l i b) ≡ b ∷ drop (suc i) l
drop_set l i b h =
    let m : i < length (set l i b) = simp length-set h in
    drop-cons (set l i b) i 0 m ∙ rw (get_or-set_same l i b 0 h, drop-set-lt (suc i) l i b (omega arith))

-- the column with k columns to its right, after those; `left` is what stands there and further left
pub column_more : (dst : List ℕ) (n k width left b : ℕ) → k < width → length dst ≡ width → left ≡ n / 10 ^ k → b ≡ digit_of left (eqb k 0) →
    drop (width - k) dst ≡ field_of k n → drop (width - (k + 1)) (set dst (width - k - 1) b) ≡ field_of (k + 1) n
column_more dst n k width left b s h l d e =
    let here : width - (k + 1) ≡ width - k - 1 = omega arith in
    let right : suc (width - k - 1) ≡ width - k = omega arith in
    let more : k + 1 ≡ suc k = omega arith in
    rw (here, more)
    (drop_set dst (width - k - 1) b (omega arith)
    ∙ ap₂ ◌∷◌ (d ∙ ap (λ m. digit_of m (eqb k 0)) l ∙ sym (column_digit n k)) (ap (λ m. drop m dst) right ∙ e))

-- ---- digits

pub count_from_log : (n m r : ℕ) → m ≡ max n 1 → 10 ^ r ≤ m → m < 10 * 10 ^ r → DigitCount n (r + 1)
count_from_log n m r e l h =
    let more : r + 1 ≡ suc r = omega arith in
    let back : r + 1 - 1 ≡ r = omega arith in record {
      some = omega arith;
      enough = rw (more, pow-suc 10 r) (omega arith);
      least = λ p. rw back (omega (arith, pow-le-pow_right {n = 10} (omega arith) {i = 1} {j = r} (omega arith)));
    }

pub plain_written : (old : List ℕ) (n : ℕ) → field_written old n ≡ signed_written old (record { negative = false; magnitude = n })
plain_written old n = ap (λ l. write_if (room (length old) n) l old) (sym (plain_field (length old) n))

module _ {n count : ℕ} (d : DigitCount n count) where
  pub has_room : (width : ℕ) → count ≤ width → room width n ≡ true
  has_room width h =
      reflects_true (reflects_room width n) (omega (arith, d.some), omega (arith, d.enough, pow-le-pow_right {n = 10} (omega arith) {i = count} {j = width} h))

  pub no_room : (width : ℕ) → width < count → room width n ≡ false
  no_room width h =
      by_reflects (λ b. b ≡ false) (reflects_room width n)
      (λ r. let more : 1 < count = omega (arith, r.0) in
      absurd (omega (arith, r.1, d.least more, pow-le-pow_right {n = 10} (omega arith) {i = width} {j = count - 1} (omega arith))))
      (λ r. refl)

  -- ---- with a minus sign

  minus : Number
  minus = record { negative = true; magnitude = n }

  minus_field : (k width : ℕ) → width ≡ k + count → signed_field_of (suc width) minus ≡ set (field_of (suc width) n) k 45
  unfolding minus
  minus_field zero width e =
      ap₂ ◌∷◌
      (ap₂ (λ b c. cond (b && not c) 45 (column n width)) (has_room width (omega arith)) (no_room (width - 1) (omega (arith, d.some))))
      (minus_digits width n (λ j h. no_room j (omega arith)))
  minus_field (suc k) zero e = absurd (omega arith)
  minus_field (suc k) (suc width) e =
      ap₂ ◌∷◌
      (ap₂ (λ b c. cond (b && not c) 45 (column n (suc width))) (has_room (suc width) (omega arith)) (has_room (suc width - 1) (omega arith)))
      (minus_field k width (omega arith))

  -- the minus sign stands before the digits
  pub minus_written : (old : List ℕ) → count < length old →
      record { answer = Ok tt; bytes = set (field_of (length old) n) (length old - count - 1) 45 } ≡ signed_written old (record { negative = true; magnitude = n })
  unfolding minus
  minus_written old h = sym (ap₂ (λ b l. write_if b l old) (has_room (length old - 1) (omega arith)) (whole (length old) h))
    where
      whole : (width : ℕ) → count < width → signed_field_of width minus ≡ set (field_of width n) (width - count - 1) 45
      whole zero h = absurd (omega arith)
      whole (suc width) h =
          let same : suc width - count - 1 ≡ width - count = omega arith in
          rw same (minus_field (width - count) width (omega arith))

  pub minus_wide : (old : List ℕ) → length old ≤ count → write_if false old old ≡ signed_written old (record { negative = true; magnitude = n })
  unfolding minus
  minus_wide old h = sym (ap (λ b. write_if b (signed_field_of (length old) minus) old) (no_room (length old - 1) (omega (arith, d.some))))
