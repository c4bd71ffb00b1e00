-- A number, several numbers and a line feed are taken off a text exactly as they are written.
use Rattle.std.specs.Prelude.{ℕ, zero, suc, ◌^◌, ◌<◌, ◌≡◌, refl, Bool, false, cond, List, [], ◌∷◌, ◌++◌, eqb, length, take, drop}
use Rattle.std.proofs.Common.{arith, sym, ap, ◌∙◌, subst, append_assoc, take-append-drop, length-take-le}
use Rattle.std.proofs.Math.Bool.{true}
use Rattle.std.proofs.Math.Option.{Option, none, some, bind}
use borrow.Author.Tests.{le-leb}
use Rattle.std.proofs.Math.Dec.{leb}
use Rattle.std.proofs.Math.ListN.{length-append}
use Rattle.std.proofs.Math.Seq.{take_at, drop_at}
use Rattle.lists.specs.Trusted.Lists.{Every}
use Rattle.lists.specs.ListLaws.{every_none, every_cons, every_head, every_tail}
use Rattle.lists.specs.TestLaws.{reflects_le, reflects_eq}
use Rattle.decimal.specs.Trusted.Number.{columns, word_number}
use Rattle.decimal.specs.Trusted.Columns.{field_of, fields_of}
use Rattle.decimal.specs.ColumnLaws.{field_length}
use Rattle.decimal.specs.NumberLaws.{Given}
use Rattle.table.specs.ResultLaws.{says_true}
use Rattle.decimal.specs.WordLaws.{word_field, word_bytes}
use Rattle.list_layout.specs.Trusted.Layout.{take_number, take_numbers, take_line_feed}
use Rattle.list_layout.specs.Trusted.LineSays.{FieldFits}

-- ---- steps one after the other

-- a step that gives something goes on with it
pub bind_some : {A B : Type 0} (o : Option A) (g : A → Option B) {a : A} → o ≡ some a → bind o g ≡ g a
unfolding bind
bind_some o g e = ap (λ p. bind p g) e

-- what holds of the first step's result gives what holds of the last one's
pub given_bind : {A B : Type 0} {Q : A → Type 0} (P : B → Type 0) (o : Option A) (g : A → Option B) → Given Q o → ((a : A) → Q a → Given P (g a)) → Given P (bind o g)
unfolding bind
given_bind P none g q h = tt
given_bind P (some a) g q h = h a q

pub given_cond : {A : Type 0} (P : A → Type 0) (b : Bool) (o : Option A) → (b ≡ true → Given P o) → Given P (cond b o none)
given_cond P true o h = h refl
given_cond P false o h = tt

pub given_self : {A : Type 0} (o : Option A) → Given (λ a. o ≡ some a) o
given_self none = tt
given_self (some a) = refl

-- ---- a number

module _ (width : ℕ) where
  pub number_taken : (n : ℕ) (rest : List ℕ) → 0 < width → n < 10 ^ width → n < 2 ^ 64 → take_number width (field_of width n ++ rest) ≡ some (n, rest)
  unfolding bind
  number_taken n rest p h l =
      let f = field_of width n in
      let room : leb width (length (f ++ rest)) ≡ true = le-leb width (length (f ++ rest)) (simp length-append (omega (arith, field_length width n))) in
      rw (room, take_at f rest width (field_length width n), drop_at f rest width (field_length width n), word_field width n p h l)

  -- the number has room in the columns and is below 2^64, and the text begins as the writer writes it
  pub record NumberText (text : List ℕ) (q : ℕ × List ℕ) : Type 0 where
    pub fits : q.0 < 10 ^ width
    pub word : q.0 < 2 ^ 64
    pub same : text ≡ field_of width q.0 ++ q.1

  pub number_found : (text : List ℕ) → Given (NumberText text) (take_number width text)
  number_found text =
      given_bind (NumberText text) (cond (leb width (length text)) (word_number (take width text)) none) (λ n. some (n, drop width text))
      (given_cond (λ n. NumberText text (n, drop width text)) (leb width (length text)) (word_number (take width text)) (λ room. found room (word_number (take width text)) (given_self (word_number (take width text)))))
      (λ n h. h)
    where
      one : (n : ℕ) → leb width (length text) ≡ true → word_number (take width text) ≡ some n → NumberText text (n, drop width text)
      one n room e =
          let long = length-take-le width text (says_true (reflects_le width (length text)) room) in
          let w = word_bytes (take width text) e in
          record {
            fits = subst (λ k. n < 10 ^ k) long w.1;
            word = w.2;
            same = sym (take-append-drop width text) ∙ ap (λ a. a ++ drop width text) (w.3 ∙ ap (λ k. field_of k n) long);
          }

      found : leb width (length text) ≡ true → (o : Option ℕ) → Given (λ n. word_number (take width text) ≡ some n) o → Given (λ n. NumberText text (n, drop width text)) o
      found room none h = tt
      found room (some n) h = one n room h

-- a number in a field is below 2^64
pub field_word : (n : ℕ) → FieldFits n → n < 2 ^ 64
field_word n h = omega arith

-- ---- several numbers

pub numbers_taken : (ns : List ℕ) (rest : List ℕ) → Every FieldFits ns → take_numbers (length ns) (fields_of ns ++ rest) ≡ some (ns, rest)
numbers_taken [] rest h = refl
numbers_taken (n ∷ ns) rest h =
    ap (take_numbers (suc (length ns))) (append_assoc (field_of columns n) (fields_of ns) rest)
    ∙ bind_some _ _ (number_taken columns n (fields_of ns ++ rest) (omega arith) (every_head h) (field_word n (every_head h)))
    ∙ bind_some _ _ (numbers_taken ns rest (every_tail h))

pub record NumbersText (n : ℕ) (text : List ℕ) (q : List ℕ × List ℕ) : Type 0 where
  pub count : length q.0 ≡ n
  pub fits : Every FieldFits q.0
  pub same : text ≡ fields_of q.0 ++ q.1

pub numbers_text : (count : ℕ) (text : List ℕ) → Given (NumbersText count text) (take_numbers count text)
numbers_text zero text = record { count = refl; fits = every_none _; same = refl }
numbers_text (suc count) text =
    given_bind (NumbersText (suc count) text) _ _ (number_found columns text)
    (λ x h. given_bind (NumbersText (suc count) text) _ _ (numbers_text count x.1)
    (λ xs g. record {
      count = ap suc g.count;
      fits = every_cons h.fits g.fits;
      same = h.same ∙ ap (λ l. field_of columns x.0 ++ l) g.same ∙ sym (append_assoc (field_of columns x.0) (fields_of xs.0) xs.1);
    }))

-- ---- a line feed

pub line_feed_text : (text : List ℕ) → Given (λ rest. text ≡ 10 ∷ rest) (take_line_feed text)
line_feed_text [] = tt
line_feed_text (b ∷ bs) = given_cond (λ rest. b ∷ bs ≡ 10 ∷ rest) (eqb b 10) (some bs) (λ e. ap (λ c. c ∷ bs) (says_true (reflects_eq b 10) e))
