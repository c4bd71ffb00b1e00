-- Reading what was written gives the number back, with its sign.
use Rattle.std.specs.Prelude.{ℕ, zero, suc, ◌+◌, ◌*◌, ◌-◌, ◌/◌, ◌%◌, ◌^◌, ◌≤◌, ◌<◌, ◌≡◌, refl, Bool, true, false, not, cond, ◌&&◌, List, ◌∷◌, length}
use Rattle.std.proofs.Common.{pow-suc, div-one, le-div_iff_mul-le, div-lt_iff_lt-mul, arith, sym, ap, ap₂, ◌∙◌, ne_eqb, le-leb}
use Rattle.std.proofs.Math.Nat.{pow-le-pow_right, div-eq_of_lt}
use Rattle.std.proofs.Math.Option.{some}
use Rattle.lists.specs.Cases.{by_leb}
use Rattle.lists.specs.TestLaws.{reflects_true, by_reflects}
use Rattle.decimal.specs.Trusted.Number.{Number, digits, natural, unsigned, negated, number, columns, field_number}
use Rattle.decimal.specs.Inside.{Within}
use Rattle.decimal.specs.NumberLaws.{natural_digits, negated_more}
use Rattle.decimal.specs.Trusted.Columns.{room, column, field_of, signed_column, signed_field_of}
use Rattle.decimal.specs.ColumnLaws.{reflects_room, ten_pos, div_more}

-- ---- columns with a sign

pub plain_field : (width n : ℕ) → signed_field_of width (record { negative = false; magnitude = n }) ≡ field_of width n
plain_field zero n = refl
plain_field (suc width) n = ap (◌∷◌ (column n width)) (plain_field width n)

pub signed_length : (width : ℕ) (n : Number) → length (signed_field_of width n) ≡ width
signed_length zero n = refl
signed_length (suc width) n = ap suc (signed_length width n)

-- no column of the digits would be blank
pub minus_digits : (width n : ℕ) → ((j : ℕ) → j < width → room j n ≡ false) → signed_field_of width (record { negative = true; magnitude = n }) ≡ field_of width n
minus_digits zero n h = refl
minus_digits (suc width) n h =
    ap₂ ◌∷◌ (ap (λ b. cond (b && not (room (width - 1) n)) 45 (column n width)) (h width (omega arith))) (minus_digits width n (λ j l. h j (omega arith)))

-- ---- digits

by_room : {P : Type 0} (j n : ℕ) → ((0 < j) × (n < 10 ^ j) → room j n ≡ true → P) → (room j n ≡ false → P) → P
by_room {P} j n f g = by_reflects (λ b. room j n ≡ b → P) (reflects_room j n) f (λ h. g) refl

no_room : (j n : ℕ) → 0 < j → room j n ≡ false → 10 ^ j ≤ n
no_room j n h e = by_leb (λ b. 10 ^ j ≤ n) (10 ^ j) n (λ l. l) (λ l. let no : true ≡ false = sym (reflects_true (reflects_room j n) (h, l)) ∙ e in absurd (differ no))
  where
    differ : true ≡ false → ⊥
    differ e = let no : ◌≡◌ {A = ℕ} 0 1 = cc in omega arith

-- a column that would not be blank has a digit
column_shows : (n j : ℕ) → room j n ≡ false → column n j ≡ 48 + (n / 10 ^ j) % 10
column_shows n j e = ap (λ b. cond b 32 (48 + (n / 10 ^ j) % 10)) e

blank_column : (n j : ℕ) → room j n ≡ true → column n j ≡ 32
blank_column n j e = ap (λ b. cond b 32 (48 + (n / 10 ^ j) % 10)) e

-- fewer columns have no more room
room_less : (n j k : ℕ) → j ≤ k → room k n ≡ false → room j n ≡ false
room_less n j k h e =
    by_reflects (λ b. b ≡ false) (reflects_room j n)
    (λ r. sym (reflects_true (reflects_room k n) (omega arith, omega (arith, r.1, pow-le-pow_right {n = 10} (omega arith) {i = j} {j = k} h))) ∙ e)
    (λ r. refl)

digit_more : (q d : ℕ) (bs : List ℕ) → d ≤ 9 → digits q ((48 + d) ∷ bs) ≡ digits (10 * q + d) bs
digit_more q d bs h = rw (le-leb 48 (48 + d) (omega arith), le-leb (48 + d) 57 (omega arith)) (ap (λ m. digits (10 * q + m) bs) (omega arith))

-- all columns of the digits, after what stands further left
digits_field : (width n : ℕ) → ((j : ℕ) → j < width → room j n ≡ false) → digits (n / 10 ^ width) (field_of width n) ≡ some n
digits_field zero n h = ap some (div-one n)
digits_field (suc width) n h =
    let d = (n / 10 ^ width) % 10 in
    let joined : 10 * (n / 10 ^ suc width) + d ≡ n / 10 ^ width = omega (arith, div_more n width) in
    ap (λ c. digits (n / 10 ^ suc width) (c ∷ field_of width n)) (column_shows n width (h width (omega arith)))
    ∙ digit_more (n / 10 ^ suc width) d (field_of width n) (omega arith)
    ∙ ap (λ m. digits m (field_of width n)) joined
    ∙ digits_field width n (λ j l. h j (omega arith))

digits_whole : (width n : ℕ) → room width n ≡ false → n < 10 ^ suc width → digits 0 (field_of (suc width) n) ≡ some n
digits_whole width n e h =
    ap (λ m. digits m (field_of (suc width) n)) (sym (div-eq_of_lt h)) ∙ digits_field (suc width) n (λ j l. room_less n j width (omega arith) e)

-- a number that fills its columns has no leading zero
first_digit : (width n : ℕ) → 10 ^ width ≤ n → n < 10 ^ suc width → 0 < (n / 10 ^ width) % 10
first_digit width n l h =
    let some_digit : 1 ≤ n / 10 ^ width = (le-div_iff_mul-le {k = 10 ^ width} {x = 1} {y = n} (ten_pos width)).1 (omega arith) in
    let one-digit : n / 10 ^ width < 10 = (div-lt_iff_lt-mul {k = 10 ^ width} {x = n} {y = 10} (ten_pos width)).1 (omega (arith, pow-suc 10 width)) in
    omega arith

natural_field : (width n : ℕ) → room width n ≡ false → n < 10 ^ suc width → natural (field_of (suc width) n) ≡ some n
natural_field zero n e h = digits_whole zero n e h
natural_field (suc width) n e h =
    let shows = column_shows n (suc width) e in
    let first = first_digit (suc width) n (no_room (suc width) n (omega arith) e) h in
    let other : column n (suc width) ≡ 48 → ⊥ = λ f. omega arith in
    natural_digits (column n (suc width)) (field_of (suc width) n) other ∙ digits_whole (suc width) n e h

-- ---- a number after blanks

digit_number : (d : ℕ) (bs : List ℕ) → number ((48 + d) ∷ bs) ≡ unsigned (natural ((48 + d) ∷ bs))
digit_number d bs = rw (ne_eqb (48 + d) 32 (λ e. omega arith), ne_eqb (48 + d) 45 (λ e. omega arith))

pub number_field : (width n : ℕ) → 0 < width → n < 10 ^ width → number (field_of width n) ≡ some (record { negative = false; magnitude = n })
number_field zero n p h = absurd (omega arith)
number_field (suc width) n p h =
    by_room width n
    (λ r e. ap (λ c. number (c ∷ field_of width n)) (blank_column n width e) ∙ number_field width n r.0 r.1)
    (λ e. ap (λ c. number (c ∷ field_of width n)) (column_shows n width e)
    ∙ digit_number ((n / 10 ^ width) % 10) (field_of width n)
    ∙ ap (λ c. unsigned (natural (c ∷ field_of width n))) (sym (column_shows n width e))
    ∙ ap unsigned (natural_field width n e h))

-- what the column left of a number, and one further left, hold before a number below zero
sign_column : (n j : ℕ) (b : Bool) → n < 10 ^ suc j → room j n ≡ b → signed_column (record { negative = true; magnitude = n }) (suc j) ≡ cond b 32 45
sign_column n j b h e = ap₂ (λ b c. cond (b && not c) 45 (cond b 32 (48 + (n / 10 ^ suc j) % 10))) full (ap (λ k. room k n) back ∙ e) ∙ pick b
  where
    full : room (suc j) n ≡ true
    full = reflects_true (reflects_room (suc j) n) (omega arith, h)

    back : suc j - 1 ≡ j
    back = omega arith

    pick : (b : Bool) → ◌≡◌ {A = ℕ} (cond (true && not b) 45 32) (cond b 32 45)
    pick true = refl
    pick false = refl

number_minus : (width n : ℕ) → 0 < n → n < 10 ^ width →
    number (signed_field_of (suc width) (record { negative = true; magnitude = n })) ≡ some (record { negative = true; magnitude = n })
number_minus zero n p h = absurd (omega arith)
number_minus (suc width) n p h =
    let field = signed_field_of (suc width) (record { negative = true; magnitude = n }) in
    by_room width n
    (λ r e. ap (λ c. number (c ∷ field)) (sign_column n width true h e) ∙ number_minus width n p r.1)
    (λ e. ap (λ c. number (c ∷ field)) (sign_column n width false h e)
    ∙ ap (λ l. negated (natural l)) (minus_digits (suc width) n (λ j l. room_less n j width (omega arith) e))
    ∙ ap negated (natural_field width n e h)
    ∙ negated_more n (λ z. omega arith))

-- ---- six columns

pub field_read_lem : (n : ℕ) → n < 10 ^ columns → field_number (field_of columns n) ≡ some (record { negative = false; magnitude = n })
field_read_lem n h = number_field columns n (omega arith) h

pub signed_read : (n : Number) → Within columns n → field_number (signed_field_of columns n) ≡ some n
signed_read n h = by_sign n.negative n.magnitude h.size h.sign
  where
    by_sign : (b : Bool) (m : ℕ) → m < 10 ^ columns → (b ≡ true → (0 < m) × (m < 10 ^ (columns - 1))) →
        field_number (signed_field_of columns (record { negative = b; magnitude = m })) ≡ some (record { negative = b; magnitude = m })
    by_sign false m l s = field_read_lem m l
    by_sign true m l s = number_minus 5 m (s refl).0 (s refl).1
