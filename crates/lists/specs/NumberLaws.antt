-- Laws of lists of numbers: sums, the numbers below n or from g on, and numbers put in order, of which the result has the same numbers, is
-- sorted, and is the only such list; a sorted list in which no number stands twice is strictly rising.
use Rattle.std.specs.Prelude.{ℕ, zero, suc, ◌+◌, ◌≤◌, ◌<◌, ◌≡◌, refl, ◌≢◌, Bool, true, false, List, [], ◌∷◌, ◌++◌, map, eqb, length, get_or}
use Rattle.std.proofs.Common.{arith, sym, ap, ◌∙◌}
use mathlib.Core.List.Memᴰ
use Rattle.std.proofs.lemmas.List.{length-map}
use Rattle.lists.specs.Cases.{by_eqb, if_leb}
use Rattle.lists.specs.Trusted.Lists.{◌∈◌, first, later, Every, Rising, Distinct, Inserted, here, there, Permuted, empty, more, insert, sorted, from, sum}
use Rattle.lists.specs.Sequences.{Sorted, Mix, neither, left, right, upto}
use Rattle.lists.specs.ListLaws.{every_none, every_cons, every_head, every_tail, inserted_to, inserted_from}

-- ---- sums

module _ {A : Type 0} (f : A → ℕ) where
  pub sum_append : (ys zs : List A) → sum f (ys ++ zs) ≡ sum f ys + sum f zs
  sum_append [] zs = omega arith
  sum_append (y ∷ ys) zs = omega (arith, sum_append ys zs)

  pub sum_inserted : {y : A} {ys zs : List A} → Inserted y ys zs → sum f ys ≡ sum f (y ∷ zs)
  sum_inserted here = refl
  sum_inserted (there i) = omega (arith, sum_inserted i)

  pub sum_permuted : {ys zs : List A} → Permuted ys zs → sum f ys ≡ sum f zs
  sum_permuted empty = refl
  sum_permuted (more i p) = omega (arith, sum_inserted i, sum_permuted p)

  pub sum_mix : {xs ys zs : List A} → Mix xs ys zs → sum f zs ≡ sum f xs + sum f ys
  sum_mix neither = refl
  sum_mix (left m) = omega (arith, sum_mix m)
  sum_mix (right m) = omega (arith, sum_mix m)

pub sum_same : {A : Type 0} (f g : A → ℕ) (xs : List A) → Every (λ x. f x ≡ g x) xs → sum f xs ≡ sum g xs
sum_same f g [] h = refl
sum_same f g (x ∷ xs) h = omega (arith, every_head h, sum_same f g xs (every_tail h))

pub sum_none : {A : Type 0} (xs : List A) → sum (λ x. 0) xs ≡ 0
sum_none [] = refl
sum_none (x ∷ xs) = omega (arith, sum_none xs)

pub sum_le : {A : Type 0} (f g : A → ℕ) (xs : List A) → Every (λ x. f x ≤ g x) xs → sum f xs ≤ sum g xs
sum_le f g [] h = omega arith
sum_le f g (x ∷ xs) h = omega (arith, every_head h, sum_le f g xs (every_tail h))

-- ---- the numbers below n

pub upto_length : (n : ℕ) → length (upto n) ≡ n
upto_length zero = refl
upto_length (suc n) = ap suc (simp length-map (upto_length n))

up_at : (xs : List ℕ) (i z : ℕ) → i < length xs → get_or (map suc xs) i z ≡ suc (get_or xs i z)
up_at [] i z h = absurd (omega arith)
up_at (x ∷ xs) zero z h = refl
up_at (x ∷ xs) (suc i) z h = up_at xs i z (omega arith)

pub upto_at : (n i z : ℕ) → i < n → get_or (upto n) i z ≡ i
upto_at zero i z h = absurd (omega arith)
upto_at (suc n) zero z h = refl
upto_at (suc n) (suc i) z h = up_at (upto n) i z (omega (arith, upto_length n)) ∙ ap suc (upto_at n i z (omega arith))

-- ---- the numbers from 1 on, or from another

pub from_length : (g n : ℕ) → length (from g n) ≡ n
from_length g zero = refl
from_length g (suc n) = ap suc (from_length (suc g) n)

from_up : (g n : ℕ) → from (suc g) n ≡ map suc (from g n)
from_up g zero = refl
from_up g (suc n) = ap (◌∷◌ (suc g)) (from_up (suc g) n)

pub from_one : (n : ℕ) → from 1 n ≡ map suc (upto n)
from_one zero = refl
from_one (suc n) = ap (◌∷◌ 1) (from_up 1 n ∙ ap (map suc) (from_one n))

-- ---- numbers put in order

pub insert_inserted : (x : ℕ) (ys : List ℕ) → Inserted x (insert x ys) ys
insert_inserted x [] = here
insert_inserted x (y ∷ ys) = if_leb (λ zs. Inserted x zs (y ∷ ys)) x y (λ l. here) (λ l. there (insert_inserted x ys))

pub sorted_permuted : (xs : List ℕ) → Permuted xs (sorted xs)
sorted_permuted [] = empty
sorted_permuted (x ∷ xs) = more (insert_inserted x (sorted xs)) (sorted_permuted xs)

insert_sorted : (x : ℕ) (ys : List ℕ) → Sorted ys → Sorted (insert x ys)
insert_sorted x [] s = (every_none _, tt)
insert_sorted x (y ∷ ys) s =
    if_leb Sorted x y
    (λ l. (every_cons l (λ z m. omega (arith, s.0 z m)), s))
    (λ l. (inserted_to (insert_inserted x ys) (every_cons (omega arith) s.0), insert_sorted x ys s.1))

pub sorted_sorted : (xs : List ℕ) → Sorted (sorted xs)
sorted_sorted [] = tt
sorted_sorted (x ∷ xs) = insert_sorted x (sorted xs) (sorted_sorted xs)

pub insert_first : (x : ℕ) (ys : List ℕ) → Every (λ y. x ≤ y) ys → insert x ys ≡ x ∷ ys
insert_first x [] h = refl
insert_first x (y ∷ ys) h =
    if_leb (λ zs. zs ≡ x ∷ y ∷ ys) x y (λ l. refl) (λ l. absurd (omega (arith, every_head h)))

insert_only : {x : ℕ} {ys zs : List ℕ} → Inserted x ys zs → Sorted ys → (insert x zs ≡ ys) × Sorted zs
insert_only {x} (here {ys = zs}) s = (insert_first x zs s.0, s.1)
insert_only {x} (there {y = y} {xs = ys} {ys = zs} i) s =
    let h = insert_only i s.1 in
    let f = inserted_from i s.0 in (
      if_leb (λ ws. ws ≡ y ∷ ys) x y
          (λ l. let e : x ≡ y = omega (arith, every_head f) in cc (h.0, insert_first x zs (λ z m. omega (arith, every_tail f z m, e))))
          (λ l. ap (◌∷◌ y) h.0),
      (every_tail f, h.1),
    )

pub sorted_only : {xs ys : List ℕ} → Permuted xs ys → Sorted ys → sorted xs ≡ ys
sorted_only empty s = refl
sorted_only (more {x = x} i p) s =
    let h = insert_only i s in
    ap (insert x) (sorted_only p h.1) ∙ h.0

-- ---- how often a number stands in a list

-- one where the two are the same
abbrev pub one_if : Bool → ℕ
one_if true = 1
one_if false = 0

abbrev pub is : ℕ → ℕ → ℕ
is x y = one_if (eqb x y)

abbrev pub times : ℕ → List ℕ → ℕ
times x = sum (is x)

is_same : (x y : ℕ) → x ≡ y → is x y ≡ 1
is_same x y e = by_eqb (λ b. one_if b ≡ 1) x y (λ e. refl) (λ n. absurd (n e))

is_other_lem : (x y : ℕ) → x ≢ y → is x y ≡ 0
is_other_lem x y n = by_eqb (λ b. one_if b ≡ 0) x y (λ e. absurd (n e)) (λ n. refl)

in_times : (x : ℕ) (ys : List ℕ) → x ∈ ys → 1 ≤ times x ys
in_times x [] m = elim m [ ]
in_times x (y ∷ ys) (first e) = omega (arith, is_same x y e)
in_times x (y ∷ ys) (later m) = omega (arith, in_times x ys m)

pub no_times : (x : ℕ) (ys : List ℕ) → Every (λ y. x ≢ y) ys → times x ys ≡ 0
no_times x [] h = refl
no_times x (y ∷ ys) h = omega (arith, is_other_lem x y (every_head h), no_times x ys (every_tail h))

pub distinct_times : (x : ℕ) (ys : List ℕ) → Distinct ys → times x ys ≤ 1
distinct_times x [] d = omega arith
distinct_times x (y ∷ ys) d =
    by_eqb (λ b. one_if b + times x ys ≤ 1) x y
    (λ e. omega (arith, no_times x ys (λ z m f. d.0 z m (sym e ∙ f))))
    (λ n. omega (arith, distinct_times x ys d.1))

pub sorted_rising : (xs : List ℕ) → Sorted xs → ((x : ℕ) → times x xs ≤ 1) → Rising xs
sorted_rising [] s d = tt
sorted_rising (x ∷ xs) s d = (
  λ y m. by_eqb (λ b. x < y) x y (λ e. absurd (omega (arith, d x, is_same x x refl, in_times x xs (Memᴰ.cast e m)))) (λ n. omega (arith, s.0 y m)),
  sorted_rising xs s.1 (λ y. omega (arith, d y)),
)
