-- A number has one writing: the columns in which a number is read are those that it is written as.
use Rattle.std.specs.Prelude.{ℕ, zero, suc, ◌+◌, ◌*◌, ◌-◌, ◌/◌, ◌%◌, ◌^◌, ◌≤◌, ◌<◌, ◌≡◌, refl, Bool, true, false, not, cond, ◌&&◌, List, [], ◌∷◌, T, length}
use Rattle.std.proofs.Common.{pow-suc, arith, sym, ap, ap₂, ◌∙◌, subst}
use Rattle.std.proofs.Math.Nat.{pow-le-pow_right, div-eq_of_lt}
use Rattle.std.proofs.Math.Option.{Option, none, some}
use Rattle.lists.specs.Cases.{by_eqb, by_leb}
use Rattle.lists.specs.TestLaws.{reflects_within, reflects_true, by_reflects}
use Rattle.decimal.specs.Trusted.Number.{Number, digits, natural, unsigned, negated, signed, number, columns, field_number}
use Rattle.decimal.specs.NumberLaws.{natural_below}
use Rattle.decimal.specs.Trusted.Columns.{room, column, field_of, signed_column, signed_field_of}
use Rattle.decimal.specs.ColumnLaws.{reflects_room, div_more}
use Rattle.decimal.specs.FieldLaws.{plain_field, minus_digits}

pub no_some : {A : Type 0} {a : A} {C : Type 0} → ◌≡◌ {A = Option A} none (some a) → C
no_some e = let z : ◌≡◌ {A = ℕ} 0 1 = cc in absurd (omega arith)

-- ---- room

pub room_is : (w n : ℕ) → room w n ≡ true → (0 < w) × (n < 10 ^ w)
room_is w n e = (reflects_room w n).to (subst T (sym e) tt)

room_more : (w n : ℕ) → room w n ≡ true → room (suc w) n ≡ true
room_more w n e = let h = room_is w n e in reflects_true (reflects_room (suc w) n) (omega arith, rw pow-suc (omega arith))

no_room : (j k n : ℕ) → j ≤ k → 10 ^ k ≤ n → room j n ≡ false
no_room j k n l h =
    by_reflects (λ b. b ≡ false) (reflects_room j n)
    (λ r. absurd (omega (arith, r.1, pow-le-pow_right {n = 10} (omega arith) {i = j} {j = k} l)))
    (λ r. refl)

-- no column of n would be blank
abbrev Filled : (width n : ℕ) → Type 0
Filled width n = (j : ℕ) → j < width → room j n ≡ false

-- ---- digits

digit_is : (n b : ℕ) (bs : List ℕ) {m : ℕ} → digits n (b ∷ bs) ≡ some m → (48 ≤ b) × (b ≤ 57) × (digits (10 * n + (b - 48)) bs ≡ some m)
digit_is n b bs {m} =
    by_reflects (λ t. cond t (digits (10 * n + (b - 48)) bs) none ≡ some m → (48 ≤ b) × (b ≤ 57) × (digits (10 * n + (b - 48)) bs ≡ some m))
    (reflects_within 48 57 b)
    (λ l e. (l.0, l.1, e))
    (λ l e. no_some e)

module _ (n m b k : ℕ) (l : 48 ≤ b) (u : b ≤ 57) (q : m / 10 ^ k ≡ 10 * n + (b - 48)) where
  digit_before : m / 10 ^ suc k ≡ n
  digit_before = sym (div_more m k) ∙ omega arith

  digit_column : room k m ≡ false → b ≡ column m k
  digit_column e = sym (ap (λ c. cond c 32 (48 + (m / 10 ^ k) % 10)) e ∙ omega arith)

-- the digits before them make n, and where none would be blank they are the columns of the whole number
digits_text : (bs : List ℕ) (n m : ℕ) → digits n bs ≡ some m → (m / 10 ^ length bs ≡ n) × (Filled (length bs) m → bs ≡ field_of (length bs) m)
digits_text [] n m e = (let h : n ≡ m = cc in omega arith, λ f. refl)
digits_text (b ∷ bs) n m e =
    let d = digit_is n b bs e in
    let r = digits_text bs (10 * n + (b - 48)) m d.2 in (
      digit_before n m b (length bs) d.0 d.1 r.0,
      λ f. ap₂ ◌∷◌ (digit_column n m b (length bs) d.0 d.1 r.0 (f (length bs) (omega arith))) (r.1 (λ j h. f j (omega arith))),
    )

-- ---- a number without a sign

record Digits (bs : List ℕ) (m : ℕ) : Type 0 where
  some_digit : 0 < length bs
  filled : Filled (length bs) m
  text : bs ≡ field_of (length bs) m

digits_given : (bs : List ℕ) (m : ℕ) → 0 < length bs → digits 0 bs ≡ some m → Filled (length bs) m → Digits bs m
digits_given bs m l e f = record { some_digit = l; filled = f; text = (digits_text bs 0 m e).1 f }

one_filled : (m : ℕ) → Filled 1 m
one_filled m zero l = refl
one_filled m (suc j) l = absurd (omega arith)

-- the first digit is not "0"
first_filled : (k m d : ℕ) → 0 < d → m / 10 ^ k ≡ d → Filled (suc k) m
first_filled k m d p q j l =
    no_room j k m (omega arith) (by_leb (λ b. 10 ^ k ≤ m) (10 ^ k) m (λ h. h) (λ h. absurd (omega (arith, div-eq_of_lt h))))

natural_text : (bs : List ℕ) (m : ℕ) → natural bs ≡ some m → Digits bs m
natural_text [] m e = no_some e
natural_text (b ∷ []) m e = digits_given (b ∷ []) m (omega arith) e (one_filled m)
natural_text (b ∷ c ∷ bs) m e =
    by_eqb (λ t. cond t none (digits 0 (b ∷ c ∷ bs)) ≡ some m → Digits (b ∷ c ∷ bs) m) b 48
    (λ z f. no_some f)
    (λ z f.
    let d = digit_is 0 b (c ∷ bs) f in
    let l = d.0 in
    let p : 0 < 10 * 0 + (b - 48) = omega arith in
    digits_given (b ∷ c ∷ bs) m (omega arith) f (first_filled (length (c ∷ bs)) m (10 * 0 + (b - 48)) p (digits_text (c ∷ bs) (10 * 0 + (b - 48)) m d.2).0))
    e

digits_room : (bs : List ℕ) (m : ℕ) → natural bs ≡ some m → room (length bs) m ≡ true
digits_room bs m e = reflects_true (reflects_room (length bs) m) ((natural_text bs m e).some_digit, natural_below bs e)

-- ---- with a sign, after blanks

-- `bs` is the writing of x, for which one column more would be blank
pub record Text (bs : List ℕ) (x : Number) : Type 0 where
  pub text : bs ≡ signed_field_of (length bs) x
  pub whole : room (length bs) x.magnitude ≡ true
  pub minus : x.negative ≡ true → room (length bs - 1) x.magnitude ≡ true

minus_one : (k : ℕ) → suc k - 1 ≡ k
minus_one k = omega arith

plain_text : (bs : List ℕ) {x : Number} → unsigned (natural bs) ≡ some x → Text bs x
plain_text bs {x} e = of (natural bs) refl e
  where
    of : (o : Option ℕ) → natural bs ≡ o → unsigned o ≡ some x → Text bs x
    of none d f = no_some f
    of (some m) d f =
        let q : record { negative = false; magnitude = m } ≡ x = cc in
        subst (Text bs) q (record {
          text = (natural_text bs m d).text ∙ sym (plain_field (length bs) m);
          whole = digits_room bs m d;
          minus = λ z. let no : ◌≡◌ {A = ℕ} 0 1 = cc in absurd (omega arith);
        })

sign_column : (m w : ℕ) → room w m ≡ true → room (w - 1) m ≡ false → signed_column (record { negative = true; magnitude = m }) w ≡ 45
sign_column m w e f = ap₂ (λ r q. cond (true && r && not q) 45 (cond r 32 (48 + (m / 10 ^ w) % 10))) e f

minus_text : (bs : List ℕ) {x : Number} → negated (natural bs) ≡ some x → Text (45 ∷ bs) x
minus_text bs {x} e = of (natural bs) refl e
  where
    given : (m : ℕ) → natural bs ≡ some m → Text (45 ∷ bs) (record { negative = true; magnitude = m })
    given m d =
        let r = natural_text bs m d in
        let l = r.some_digit in record {
          text = sym (ap₂ ◌∷◌ (sign_column m (length bs) (digits_room bs m d) (r.filled (length bs - 1) (omega arith))) (minus_digits (length bs) m r.filled ∙ sym r.text));
          whole = room_more (length bs) m (digits_room bs m d);
          minus = λ z. ap (λ k. room k m) (minus_one (length bs)) ∙ digits_room bs m d;
        }

    of : (o : Option ℕ) → natural bs ≡ o → negated o ≡ some x → Text (45 ∷ bs) x
    of none d f = no_some f
    of (some m) d f =
        by_eqb (λ t. cond t none (some (record { negative = true; magnitude = m })) ≡ some x → Text (45 ∷ bs) x) m 0
        (λ z g. no_some g)
        (λ z g. let q : record { negative = true; magnitude = m } ≡ x = cc in subst (Text (45 ∷ bs)) q (given m d))
        f

signed_text : (bs : List ℕ) {x : Number} → signed bs ≡ some x → Text bs x
signed_text [] e = no_some e
signed_text (b ∷ bs) {x} e =
    by_eqb (λ t. cond t (negated (natural bs)) (unsigned (natural (b ∷ bs))) ≡ some x → Text (b ∷ bs) x) b 45
    (λ z f. subst (λ c. Text (c ∷ bs) x) (sym z) (minus_text bs f))
    (λ z f. plain_text (b ∷ bs) f)
    e

blank_column : (x : Number) (w : ℕ) → room w x.magnitude ≡ true → (x.negative ≡ true → room (w - 1) x.magnitude ≡ true) → signed_column x w ≡ 32
blank_column x w e f = of x.negative f
  where
    shown : (r q b : Bool) → ℕ
    shown r q b = cond (b && r && not q) 45 (cond r 32 (48 + (x.magnitude / 10 ^ w) % 10))

    of : (b : Bool) → (b ≡ true → room (w - 1) x.magnitude ≡ true) → shown (room w x.magnitude) (room (w - 1) x.magnitude) b ≡ 32
    of false f = ap (λ r. shown r (room (w - 1) x.magnitude) false) e
    of true f = ap₂ (λ r q. shown r q true) e (f refl)

pub number_text : (bs : List ℕ) {x : Number} → number bs ≡ some x → Text bs x
number_text [] e = no_some e
number_text (b ∷ bs) {x} e =
    by_eqb (λ t. cond t (number bs) (signed (b ∷ bs)) ≡ some x → Text (b ∷ bs) x) b 32
    (λ z f. let r = number_text bs f in record {
      text = ap₂ ◌∷◌ (z ∙ sym (blank_column x (length bs) r.whole r.minus)) r.text;
      whole = room_more (length bs) x.magnitude r.whole;
      minus = λ s. ap (λ k. room k x.magnitude) (minus_one (length bs)) ∙ r.whole;
    })
    (λ z f. signed_text (b ∷ bs) f)
    e

pub field_text : (bs : List ℕ) {x : Number} → field_number bs ≡ some x → bs ≡ signed_field_of columns x
field_text bs {x} e =
    by_eqb (λ t. cond t (number bs) none ≡ some x → bs ≡ signed_field_of columns x) (length bs) columns
    (λ l f. (number_text bs f).text ∙ ap (λ w. signed_field_of w x) l)
    (λ l f. no_some f)
    e
