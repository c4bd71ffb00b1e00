-- Numbers taken one after the other, as a loop takes them.
use Rattle.std.specs.Prelude.{ℕ, zero, suc, ◌+◌, ◌-◌, ◌*◌, ◌≤◌, ◌<◌, ◌≡◌, true, false, cond, List, [], ◌∷◌, ◌++◌, length, take, drop, set, replicate, Some}
use Rattle.std.proofs.Common.{add-one, arith, sym, ◌∙◌, le-leb, length-drop, length-set, drop-drop, drop-set-lt, take-suc-set}
use Rattle.std.proofs.Math.Path.{refl, ap}
use Rattle.std.proofs.Math.Option.{Option, none, some, bind, none-ne-some}
use Rattle.lists.specs.Cases.{by_leb}
use Rattle.decimal.specs.Trusted.Number.{columns, word_number}
use Rattle.decimal.specs.NumberLaws.{given_some}
use Rattle.table.specs.Trusted.Limits.{input_room}
use Rattle.list_layout.specs.Trusted.Layout.{first_number, take_number, take_numbers}
use Rattle.list_layout.specs.FieldLaws.{bind_some, NumberText, number_found}
use Rattle.list_layout.specs.Trusted.LineSays.{FieldFits}
use Rattle.list_layout.specs.Taken.{NumbersTaken}

pub not_both : false ≡ true → ⊥
not_both f = let z : ◌≡◌ {A = ℕ} 0 1 = cc in omega (arith, z)

module _ {A B : Type 0} where
  pub bind_cong : (o : Option A) {f g : A → Option B} → ((a : A) → f a ≡ g a) → bind o f ≡ bind o g
  unfolding bind
  bind_cong none h = refl
  bind_cong (some a) h = h a

  pub bind_none : (o : Option A) (f : A → Option B) → o ≡ none → bind o f ≡ none
  unfolding bind
  bind_none o f e = ap (λ p. bind p f) e

  pub bind_assoc : {C : Type 0} (o : Option A) (f : A → Option B) (g : B → Option C) → bind (bind o f) g ≡ bind o (λ a. bind (f a) g)
  unfolding bind
  bind_assoc none f g = refl
  bind_assoc (some a) f g = refl

-- one number more, after those before it
abbrev one_number_more : List ℕ × List ℕ → Option (List ℕ × List ℕ)
one_number_more q = bind (take_number columns q.1) (λ x. some (q.0 ++ x.0 ∷ [], x.1))

numbers_next : (n : ℕ) (text : List ℕ) → take_numbers (suc n) text ≡ bind (take_numbers n text) one_number_more
unfolding bind
numbers_next zero text = refl
numbers_next (suc n) text =
    bind_cong (take_number columns text) (λ x.
    ap (λ o. bind o (λ q. some (x.0 ∷ q.0, q.1))) (numbers_next n x.1)
    ∙ bind_assoc (take_numbers n x.1) one_number_more (λ q. some (x.0 ∷ q.0, q.1))
    ∙ bind_cong (take_numbers n x.1) (λ q. bind_assoc (take_number columns q.1) (λ y. some (q.0 ++ y.0 ∷ [], y.1)) (λ p. some (x.0 ∷ p.0, p.1)))
    ∙ sym (bind_assoc (take_numbers n x.1) (λ q. some (x.0 ∷ q.0, q.1)) one_number_more))
    ∙ sym (bind_assoc (take_number columns text) (λ x. bind (take_numbers n x.1) (λ q. some (x.0 ∷ q.0, q.1))) one_number_more)

module _ (n : ℕ) (text : List ℕ) {xs rest : List ℕ} (e : take_numbers n text ≡ some (xs, rest)) where
  pub one_more : {x : ℕ} {more : List ℕ} → take_number columns rest ≡ some (x, more) → take_numbers (suc n) text ≡ some (xs ++ x ∷ [], more)
  one_more f = numbers_next n text ∙ bind_some _ _ e ∙ bind_some _ _ f

  one_missing : take_number columns rest ≡ none → take_numbers (suc n) text ≡ none
  one_missing f = numbers_next n text ∙ bind_some _ _ e ∙ bind_none _ _ f

-- where a number is missing, no more are taken
pub none_more : (n m : ℕ) (text : List ℕ) {xs rest : List ℕ} → take_numbers n text ≡ some (xs, rest) → take_number columns rest ≡ none → n < m → take_numbers m text ≡ none
none_more n zero text e f h = absurd (omega arith)
none_more n (suc m) text e f h =
    by_leb (λ b. take_numbers (suc m) text ≡ none) (suc n) m
    (λ l. numbers_next m text ∙ bind_none _ _ (none_more n m text e f l))
    (λ l. let d : m ≡ n = omega arith in ap (λ k. take_numbers (suc k) text) d ∙ one_missing n text e f)

-- ---- the number from a place on

module _ (width at : ℕ) (text : List ℕ) where
  pub first_short : length text < at + width → first_number width (drop at text) ≡ none
  first_short h =
      by_leb (λ b. cond b (word_number (take width (drop at text))) none ≡ none) width (length (drop at text))
      (λ l. let z : width ≡ 0 = omega (arith, length-drop at text) in rw z refl)
      (λ l. refl)

  pub first_there : at + width ≤ length text → first_number width (drop at text) ≡ word_number (take width (drop at text))
  first_there h = rw (le-leb width (length (drop at text)) (simp length-drop (omega arith)))

  pub first_ends : {n : ℕ} → 0 < width → first_number width (drop at text) ≡ some n → at + width ≤ length text
  first_ends {n} p e =
      by_leb (λ b. at + width ≤ length text) (at + width) (length text) (λ l. l)
      (λ l. absurd (none-ne-some n (sym (first_short l) ∙ e)))

  pub number_there : {n : ℕ} → first_number width (drop at text) ≡ some n → take_number width (drop at text) ≡ some (n, drop (at + width) text)
  number_there {n} e = bind_some _ _ e ∙ ap (λ l. some (n, l)) (drop-drop width at text)

  pub number_missing : first_number width (drop at text) ≡ none → take_number width (drop at text) ≡ none
  number_missing e = bind_none _ _ e

-- a number in a field is below 10^6
pub first_fits : (text : List ℕ) {n : ℕ} → first_number columns text ≡ some n → FieldFits n
first_fits text {n} e = (given_some (NumberText columns text) (number_found columns text) (bind_some _ _ e)).fits

-- ---- the numbers of fields, in a loop

-- after i of them: what is held of them, and the place after them
pub record NumbersSoFar (text : List ℕ) (at i : ℕ) (numbers : List ℕ) (place : ℕ) : Type 0 where
  pub next : place ≡ at + columns * i
  pub taken : take_numbers i (drop at text) ≡ some (take i numbers, drop place text)
  pub zeros : drop i numbers ≡ replicate (input_room - i) 0
  pub whole : length numbers ≡ input_room
  pub ends : 0 < i → place ≤ length text

module _ (text : List ℕ) (at : ℕ) where
  pub numbers_none : NumbersSoFar text at 0 (replicate input_room 0) at
  numbers_none = record { next = omega arith; taken = refl; zeros = refl; whole = refl; ends = λ h. absurd (omega arith) }

  module _ {i : ℕ} {numbers : List ℕ} {place : ℕ} (h : NumbersSoFar text at i numbers place) where
    pub numbers_more : {x : ℕ} → i < input_room → first_number columns (drop place text) ≡ some x → NumbersSoFar text at (i + 1) (set numbers i x) (place + columns)
    numbers_more {x} l e = record {
      next = omega (arith, h.next);
      taken = ap (λ n. take_numbers n (drop at text)) (add-one i) ∙ one_more i (drop at text) h.taken (number_there columns place text e)
          ∙ ap (λ xs. some (xs, drop (place + columns) text)) (sym (ap (λ n. take n (set numbers i x)) (add-one i) ∙ take-suc-set numbers i x (rw h.whole l)));
      zeros = drop-set-lt (i + 1) numbers i x (omega arith) ∙ sym (drop-drop 1 i numbers) ∙ ap (drop 1) h.zeros ∙ rest (input_room - i) (omega arith) ∙ ap (λ n. replicate n 0) (let d : input_room - i - 1 ≡ input_room - (i + 1) = omega arith in d);
      whole = length-set numbers i x ∙ h.whole;
      ends = λ p. first_ends columns place text (omega arith) e;
    }
      where
        rest : (n : ℕ) → 0 < n → drop {A = ℕ} 1 (replicate n 0) ≡ replicate (n - 1) 0
        rest zero p = absurd (omega arith)
        rest (suc n) p = let e : suc n - 1 ≡ n = omega arith in rw e

    pub numbers_all : NumbersTaken text at i (Some numbers)
    numbers_all = record {
      same = h.taken ∙ ap (λ p. some (take i numbers, drop p text)) h.next;
      padded = h.zeros;
      ends = λ p. let l = h.ends p in omega (arith, l, h.next);
    }

    pub numbers_missing : (n : ℕ) → i < n → first_number columns (drop place text) ≡ none → take_numbers n (drop at text) ≡ none
    numbers_missing n l e = none_more i n (drop at text) h.taken (number_missing columns place text e) l
