-- Tests of a list as a loop makes them: of the elements from an index on, one after the other. The index after i is the code's i + 1.
-- For each test: where it stops at the element, where it goes on, and where nothing is left.
use Rattle.std.specs.Prelude.{ℕ, ◌+◌, ◌≤◌, ◌<◌, ◌≡◌, refl, Bool, true, false, ◌&&◌, ◌||◌, List, [], ◌∷◌, ltb, length, get_or, take, drop}
use Rattle.std.proofs.Common.{add-one, arith, sym, ap, ◌∙◌, length-drop, drop_of_length-le, drop-cons, get_or-take, length-take-le}
use Rattle.lists.specs.ListLaws.{every_cons, every_head}
use Rattle.lists.specs.Trusted.Tests.{all, any, pairwise}
use Rattle.lists.specs.TestLaws.{reflects_lt, reflects_and, reflects_pairwise, reflects_same}

pub drop_next : {A : Type 0} (xs : List A) (i : ℕ) (z : A) → i < length xs → drop i xs ≡ get_or xs i z ∷ drop (i + 1) xs
drop_next xs i z h = rw (add-one, drop-cons xs i z)

-- ---- of the whole list

module _ {A : Type 0} (f : A → Bool) (xs : List A) (i : ℕ) (z : A) where
  pub all_stops : i < length xs → f (get_or xs i z) ≡ false → all f (drop i xs) ≡ false
  all_stops h e = ap (all f) (drop_next xs i z h) ∙ ap (λ b. b && all f (drop (i + 1) xs)) e

  pub all_goes : i < length xs → f (get_or xs i z) ≡ true → all f (drop i xs) ≡ all f (drop (i + 1) xs)
  all_goes h e = ap (all f) (drop_next xs i z h) ∙ ap (λ b. b && all f (drop (i + 1) xs)) e

  pub all_ends : length xs ≤ i → all f (drop i xs) ≡ true
  all_ends h = ap (all f) (drop_of_length-le xs h)

-- ---- of its first n elements

pub take_next : {A : Type 0} (xs : List A) (n i : ℕ) (z : A) → n ≤ length xs → i < n → drop i (take n xs) ≡ get_or xs i z ∷ drop (i + 1) (take n xs)
take_next xs n i z room h =
    let l : i < length (take n xs) = rw (length-take-le n xs room) h in
    drop_next (take n xs) i z l ∙ ap (λ x. x ∷ drop (i + 1) (take n xs)) (get_or-take n xs i z h)

pub take_none : {A : Type 0} (xs : List A) (n i : ℕ) → n ≤ length xs → n ≤ i → drop i (take n xs) ≡ []
take_none xs n i room h =
    let l : length (take n xs) ≤ i = rw (length-take-le n xs room) h in
    drop_of_length-le (take n xs) l

module _ {A : Type 0} (f : A → Bool) (xs : List A) (n i : ℕ) (z : A) (room : n ≤ length xs) where
  abbrev rest : List A
  rest = drop (i + 1) (take n xs)

  pub all_take_stops : i < n → f (get_or xs i z) ≡ false → all f (drop i (take n xs)) ≡ false
  all_take_stops h e = ap (all f) (take_next xs n i z room h) ∙ ap (λ b. b && all f rest) e

  pub all_take_goes : i < n → f (get_or xs i z) ≡ true → all f (drop i (take n xs)) ≡ all f rest
  all_take_goes h e = ap (all f) (take_next xs n i z room h) ∙ ap (λ b. b && all f rest) e

  pub all_take_ends : n ≤ i → all f (drop i (take n xs)) ≡ true
  all_take_ends h = ap (all f) (take_none xs n i room h)

  pub any_take_stops : i < n → f (get_or xs i z) ≡ true → any f (drop i (take n xs)) ≡ true
  any_take_stops h e = ap (any f) (take_next xs n i z room h) ∙ ap (λ b. b || any f rest) e

  pub any_take_goes : i < n → f (get_or xs i z) ≡ false → any f (drop i (take n xs)) ≡ any f rest
  any_take_goes h e = ap (any f) (take_next xs n i z room h) ∙ ap (λ b. b || any f rest) e

  pub any_take_ends : n ≤ i → any f (drop i (take n xs)) ≡ false
  any_take_ends h = ap (any f) (take_none xs n i room h)

-- ---- numbers that rise strictly: each is above the one just before it

pub rising_two : (x y : ℕ) (ys : List ℕ) → pairwise ltb (x ∷ y ∷ ys) ≡ ltb x y && pairwise ltb (y ∷ ys)
rising_two x y ys =
    reflects_same (reflects_pairwise ltb reflects_lt (x ∷ y ∷ ys))
    (reflects_and (reflects_lt x y) (reflects_pairwise ltb reflects_lt (y ∷ ys)))
    (λ h. (every_head h.0, h.1))
    (λ h. (every_cons h.0 (λ z m. omega (arith, h.0, h.1.0 z m)), h.1))

rising_short : (ys : List ℕ) → length ys ≤ 1 → pairwise ltb ys ≡ true
rising_short [] l = refl
rising_short (y ∷ []) l = refl
rising_short (y ∷ z ∷ ys) l = absurd (omega arith)

module _ (xs : List ℕ) (n i : ℕ) (room : n ≤ length xs) where
  rising_next : i + 1 < n → pairwise ltb (drop i (take n xs)) ≡ ltb (get_or xs i 0) (get_or xs (i + 1) 0) && pairwise ltb (drop (i + 1) (take n xs))
  rising_next h =
      let e = take_next xs n (i + 1) 0 room h in
      ap (pairwise ltb) (take_next xs n i 0 room (omega arith) ∙ ap (◌∷◌ (get_or xs i 0)) e)
      ∙ rising_two (get_or xs i 0) (get_or xs (i + 1) 0) (drop (i + 1 + 1) (take n xs))
      ∙ ap (λ ys. ltb (get_or xs i 0) (get_or xs (i + 1) 0) && pairwise ltb ys) (sym e)

  pub rising_stops : i + 1 < n → ltb (get_or xs i 0) (get_or xs (i + 1) 0) ≡ false → pairwise ltb (drop i (take n xs)) ≡ false
  rising_stops h e = rising_next h ∙ ap (λ b. b && pairwise ltb (drop (i + 1) (take n xs))) e

  pub rising_goes : i + 1 < n → ltb (get_or xs i 0) (get_or xs (i + 1) 0) ≡ true → pairwise ltb (drop i (take n xs)) ≡ pairwise ltb (drop (i + 1) (take n xs))
  rising_goes h e = rising_next h ∙ ap (λ b. b && pairwise ltb (drop (i + 1) (take n xs))) e

  pub rising_ends : n ≤ i + 1 → pairwise ltb (drop i (take n xs)) ≡ true
  rising_ends h = rising_short (drop i (take n xs)) (simp (length-drop, length-take-le n xs room) (omega arith))
