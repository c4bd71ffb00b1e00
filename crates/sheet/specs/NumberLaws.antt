-- Laws of lists of numbers and of tests on them.
use Rattle.std.specs.Prelude.{ℕ, zero, suc, ◌+◌, ◌≤◌, ◌<◌, ◌≢◌, not, ◌||◌, List, [], ◌∷◌, ◌++◌, T, eqb}
use Rattle.std.proofs.Common.{arith, sym, subst}
use mathlib.Core.List.Memᴰ
use Rattle.lists.specs.Trusted.Lists.{◌∈◌, first, later, Every, Distinct, Inserted, here, there, Permuted, empty, more, from}
use Rattle.lists.specs.ListLaws.{not_first, every_none, every_cons, every_head, every_tail, every_append, every_left, every_right, inserted_to, inserted_from, permuted_to}
use Rattle.lists.specs.Cases.{by_eqb, and_split}
use Rattle.lists.specs.Trusted.Tests.{within, elem}
use Rattle.lists.specs.TestLaws.{reflects_within}
use Rattle.decimal.specs.Trusted.Number.{Number}
use Rattle.sheet.specs.Trusted.Read.{counts}

-- ---- tests

pub counts_holds : (low high : ℕ) (x : Number) → T (counts low high x) → (low ≤ x.magnitude) × (x.magnitude ≤ high)
counts_holds low high x t = (reflects_within low high x.magnitude).to (and_split (not x.negative) (within low high x.magnitude) t).1

pub not_eqb : (m n : ℕ) → T (not (eqb m n)) → m ≢ n
not_eqb m n = by_eqb (λ b. T (not b) → m ≢ n) m n (λ e t. absurd t) (λ d t. d)

pub not_elem : (n : ℕ) (ms : List ℕ) → T (not (elem n ms)) → Every (λ m. n ≢ m) ms
not_elem n [] t = every_none _
not_elem n (m ∷ ms) t =
    by_eqb (λ b. T (not (b || elem n ms)) → Every (λ m. n ≢ m) (m ∷ ms)) n m (λ e u. absurd u) (λ d u. every_cons d (not_elem n ms u)) t

-- ---- numbers that stand once

pub distinct_end : (xs : List ℕ) (x : ℕ) → Distinct xs → Every (λ y. x ≢ y) xs → Distinct (xs ++ (x ∷ []))
distinct_end [] x d f = (every_none _, tt)
distinct_end (y ∷ ys) x d f =
    (every_append ys (x ∷ []) d.0 (every_cons (λ e. every_head f (sym e)) (every_none _)), distinct_end ys x d.1 (every_tail f))

pub distinct_left : (xs ys : List ℕ) → Distinct (xs ++ ys) → Distinct xs
distinct_left [] ys d = tt
distinct_left (x ∷ xs) ys d = (every_left xs ys d.0, distinct_left xs ys d.1)

pub distinct_right : (xs ys : List ℕ) → Distinct (xs ++ ys) → Distinct ys
distinct_right [] ys d = d
distinct_right (x ∷ xs) ys d = distinct_right xs ys d.1

pub distinct_apart : (xs ys : List ℕ) → Distinct (xs ++ ys) → Every (λ y. Every (λ x. y ≢ x) xs) ys
distinct_apart [] ys d = λ y m. every_none _
distinct_apart (x ∷ xs) ys d =
    λ y m. every_cons (λ e. every_right xs ys d.0 y m (sym e)) (distinct_apart xs ys d.1 y m)

pub distinct_inserted : {x : ℕ} {xs ys : List ℕ} → Inserted x xs ys → Distinct xs → Every (λ y. x ≢ y) ys × Distinct ys
distinct_inserted here d = d
distinct_inserted (there i) d =
    let r = distinct_inserted i d.1 in
    let f = inserted_from i d.0 in
    (every_cons (λ e. every_head f (sym e)) r.0, (every_tail f, r.1))

distinct_insert : {x : ℕ} {xs ys : List ℕ} → Inserted x xs ys → Every (λ y. x ≢ y) ys → Distinct ys → Distinct xs
distinct_insert here f d = (f, d)
distinct_insert (there i) f d =
    (inserted_to i (every_cons (λ e. every_head f (sym e)) d.0), distinct_insert i (every_tail f) d.1)

pub distinct_permuted : {xs ys : List ℕ} → Permuted xs ys → Distinct xs → Distinct ys
distinct_permuted empty d = d
distinct_permuted (more i p) d = distinct_insert i (permuted_to p d.0) (distinct_permuted p d.1)

pub drawn_out : {x : ℕ} {xs : List ℕ} → x ∈ xs → (ys : List ℕ) × Inserted x xs ys
drawn_out {x} (first {xs = l} e) = (l, subst (λ y. Inserted x (y ∷ l) l) e here)
drawn_out (later m) = let r = drawn_out m in (_, there r.1)

-- two lists of the same numbers, each once
pub same_numbers : (xs ys : List ℕ) → Distinct xs → Distinct ys → Every (λ x. x ∈ ys) xs → Every (λ y. y ∈ xs) ys → Permuted xs ys
same_numbers [] [] c d f g = empty
same_numbers [] (y ∷ ys) c d f g = absurd (Memᴰ.not-nil (every_head g))
same_numbers (x ∷ xs) ys c d f g =
    let (zs, i) = drawn_out (every_head f) in
    let e = distinct_inserted i d in
    more i (same_numbers xs zs c.1 e.1
    (λ y m. not_first (λ q. c.0 y m (sym q)) (inserted_to {P = λ z. z ∈ x ∷ zs} i (λ a n. n) y (every_tail f y m)))
    (λ y m. not_first (λ q. e.0 y m (sym q)) (g y (every_tail (inserted_from {P = λ z. z ∈ ys} i (λ a n. n)) y m))))

-- ---- numbers from g on

pub from_least : (g n : ℕ) → Every (λ j. g ≤ j) (from g n)
from_least g zero = every_none _
from_least g (suc n) = every_cons (omega arith) (λ j m. let h = from_least (suc g) n j m in omega arith)

pub from_once : (g n : ℕ) → Distinct (from g n)
from_once g zero = tt
from_once g (suc n) = (λ j m. let h = from_least (suc g) n j m in omega arith, from_once (suc g) n)

pub in_from : (g n j : ℕ) → g ≤ j → j < g + n → j ∈ from g n
in_from g zero j l u = absurd (omega arith)
in_from g (suc n) j l u =
    by_eqb (λ b. j ∈ from g (suc n)) j g (λ e. first e) (λ d. later (in_from (suc g) n j (omega arith) (omega arith)))
