-- Numbers with some gone: those that stay, and what each of them is numbered anew.
use Rattle.std.specs.Prelude.{ℕ, zero, suc, ◌+◌, ◌-◌, ◌≤◌, ◌<◌, ◌≡◌, refl, ◌≢◌, not, cond, List, [], ◌∷◌, ◌++◌, map, T, length, get_or}
use Rattle.std.proofs.Common.{arith, ap, ap₂, ◌∙◌, subst, append_assoc, append-nil, length-append}
use Rattle.std.proofs.Math.Dec.{not_T}
use Rattle.std.proofs.Math.Seq.{get_or-append_seam}
use Rattle.lists.specs.Trusted.Lists.{Every, Distinct, Permuted, from}
use Rattle.lists.specs.ListLaws.{every_none, every_cons, every_head, every_tail, every_append, gather_append, gather_permuted}
use Rattle.lists.specs.Trusted.Tests.{elem}
use Rattle.lists.specs.TestLaws.{reflects_elem}
use Rattle.lists.specs.Cases.{by_test}
use Rattle.sheet.specs.NumberLaws.{distinct_apart, distinct_permuted}
use Rattle.sheet.specs.TreeLaws.{from_end}
use Rattle.joined.specs.JoinedSheet.{stay, staying, new_number}

-- ---- the numbers from g on

from_parts : (g m n : ℕ) → from g (m + n) ≡ from g m ++ from (g + m) n
from_parts g zero n =
    let a : 0 + n ≡ n = omega arith in
    let b : g ≡ g + 0 = omega arith in
    ap₂ from b a
from_parts g (suc m) n =
    let a : suc m + n ≡ suc (m + n) = omega arith in
    let b : suc g + m ≡ g + suc m = omega arith in
    ap (from g) a ∙ ap (◌∷◌ g) (from_parts (suc g) m n ∙ ap (λ k. from (suc g) m ++ from k n) b)

pub from_last : (n : ℕ) → from 1 (suc n) ≡ from 1 n ++ (suc n ∷ [])
from_last n = let a : 1 + n ≡ suc n = omega arith in from_end 1 n ∙ ap (λ k. from 1 n ++ (k ∷ [])) a

pub from_below : (g n : ℕ) → Every (λ j. j < g + n) (from g n)
from_below g zero = every_none _
from_below g (suc n) = every_cons (omega arith) (λ j m. let h = from_below (suc g) n j m in omega arith)

-- ---- numbers that stay

module _ (gone : List ℕ) where
  abbrev pub Stays : ℕ → Type 0
  Stays g = T (not (elem g gone))

  pub not_gone : (y : ℕ) → Every (λ x. y ≢ x) gone → Stays y
  not_gone y h = not_T (elem y gone) (λ t. h y ((reflects_elem y gone).to t) refl)

  pub stay_one : (g : ℕ) → Stays g → stay gone g ≡ g ∷ []
  stay_one g = by_test (λ b. T (not b) → cond b [] (g ∷ []) ≡ g ∷ []) (elem g gone) (λ t u. absurd u) (λ t u. refl)

  staying_all : (xs : List ℕ) → Every Stays xs → staying gone xs ≡ xs
  staying_all [] h = refl
  staying_all (x ∷ xs) h = ap₂ ◌++◌ (stay_one x (every_head h)) (staying_all xs (every_tail h))

  staying_none : (xs : List ℕ) → Every (λ x. T (elem x gone)) xs → staying gone xs ≡ []
  staying_none [] h = refl
  staying_none (x ∷ xs) h =
      ap₂ ◌++◌ (by_test (λ b. T b → cond b [] (x ∷ []) ≡ []) (elem x gone) (λ t u. refl) (λ t u. absurd u) (every_head h)) (staying_none xs (every_tail h))

  pub staying_every : {P : ℕ → Type 0} (xs : List ℕ) → Every (λ x. Stays x → P x) xs → Every P (staying gone xs)
  staying_every [] h = every_none _
  staying_every {P} (x ∷ xs) h =
      every_append (stay gone x) (staying gone xs)
      (by_test (λ b. (T (not b) → P x) → Every P (cond b [] (x ∷ []))) (elem x gone) (λ t p. every_none _) (λ t p. every_cons (p tt) (every_none _)) (every_head h))
      (staying_every xs (every_tail h))

  pub staying_length : (xs : List ℕ) → length (staying gone xs) ≤ length xs
  staying_length [] = omega arith
  staying_length (x ∷ xs) =
      by_test (λ b. length (cond b [] (x ∷ []) ++ staying gone xs) ≤ suc (length xs)) (elem x gone)
      (λ t. omega (arith, staying_length xs)) (λ t. omega (arith, staying_length xs))

  -- those that are not gone
  pub staying_rest : {ns : List ℕ} (rest : List ℕ) → Permuted ns (gone ++ rest) → Distinct ns → Permuted (staying gone ns) rest × Every Stays rest
  staying_rest {ns} rest p d =
      let apart = distinct_apart gone rest (distinct_permuted p d) in
      let stays : Every Stays rest = λ y m. not_gone y (apart y m) in
      let same : staying gone (gone ++ rest) ≡ rest =
      gather_append (stay gone) gone rest ∙ ap₂ ◌++◌ (staying_none gone (λ x m. (reflects_elem x gone).from m)) (staying_all rest stays) in
      (subst (Permuted (staying gone ns)) same (gather_permuted (stay gone) p), stays)

  -- ---- the new numbers

  pub staying_last : (n : ℕ) → staying gone (from 1 (suc n)) ≡ staying gone (from 1 n) ++ stay gone (suc n)
  staying_last n =
      ap (staying gone) (from_last n) ∙ (gather_append (stay gone) (from 1 n) (suc n ∷ []) ∙ ap (◌++◌ (staying gone (from 1 n))) (append-nil (stay gone (suc n))))

  number_next : (n : ℕ) → new_number gone (suc n) ≡ new_number gone n + length (stay gone (suc n))
  number_next n = ap length (staying_last n) ∙ length-append (staying gone (from 1 n)) (stay gone (suc n))

  pub number_up : (n : ℕ) → Stays (suc n) → new_number gone (suc n) ≡ suc (new_number gone n)
  number_up n h = let e = ap length (stay_one (suc n) h) in omega (arith, number_next n, e)

  pub number_same : (n : ℕ) → T (elem (suc n) gone) → new_number gone (suc n) ≡ new_number gone n
  number_same n =
      by_test (λ b. new_number gone (suc n) ≡ new_number gone n + length (cond b [] (suc n ∷ [])) → T b → new_number gone (suc n) ≡ new_number gone n)
      (elem (suc n) gone) (λ t e u. omega arith) (λ t e u. absurd u) (number_next n)

  pub number_positive : (g : ℕ) → 1 ≤ g → Stays g → 1 ≤ new_number gone g
  number_positive zero l h = absurd (omega arith)
  number_positive (suc g) l h = omega (arith, number_up g h)

  pub staying_parts : (m n : ℕ) → m ≤ n → staying gone (from 1 n) ≡ staying gone (from 1 m) ++ staying gone (from (1 + m) (n - m))
  staying_parts m n l =
      let e : n ≡ m + (n - m) = omega arith in
      ap (λ k. staying gone (from 1 k)) e ∙ (ap (staying gone) (from_parts 1 m (n - m)) ∙ gather_append (stay gone) (from 1 m) (from (1 + m) (n - m)))

  pub numbers_rise : (m n : ℕ) → m ≤ n → new_number gone m ≤ new_number gone n
  numbers_rise m n l = omega (arith, ap length (staying_parts m n l), length-append (staying gone (from 1 m)) (staying gone (from (1 + m) (n - m))))

  -- the gate that gets a number stands there
  pub number_at : (g n : ℕ) → 1 ≤ g → g ≤ n → Stays g → get_or (staying gone (from 1 n)) (new_number gone g - 1) 0 ≡ g
  number_at zero n p l h = absurd (omega arith)
  number_at (suc g) n p l h =
      let xs = staying gone (from 1 g) in
      let rest = staying gone (from (1 + suc g) (n - suc g)) in
      let e : new_number gone (suc g) - 1 ≡ length xs = omega (arith, number_up g h) in
      ap₂ (λ l i. get_or l i 0)
      (staying_parts (suc g) n l ∙ (ap (λ l. l ++ rest) (staying_last g ∙ ap (◌++◌ xs) (stay_one (suc g) h)) ∙ append_assoc xs (suc g ∷ []) rest))
      e
      ∙ get_or-append_seam xs (suc g) rest 0

  -- those that stay are numbered in order
  pub numbered_anew : (m n : ℕ) →
      map (new_number gone) (staying gone (from (suc m) n)) ≡ from (suc (new_number gone m)) (length (staying gone (from (suc m) n)))
  numbered_anew m zero = refl
  numbered_anew m (suc n) =
      let rest = staying gone (from (suc (suc m)) n) in
      let later = numbered_anew (suc m) n in
      by_test
      (λ b. new_number gone (suc m) ≡ new_number gone m + length (cond b [] (suc m ∷ [])) →
      map (new_number gone) (cond b [] (suc m ∷ []) ++ rest) ≡ from (suc (new_number gone m)) (length (cond b [] (suc m ∷ []) ++ rest)))
      (elem (suc m) gone)
      (λ t e. let f : new_number gone (suc m) ≡ new_number gone m = omega arith in later ∙ ap (λ k. from (suc k) (length rest)) f)
      (λ t e. let f : new_number gone (suc m) ≡ suc (new_number gone m) = omega arith in ap₂ ◌∷◌ f (later ∙ ap (λ k. from (suc k) (length rest)) f))
      (number_next m)
