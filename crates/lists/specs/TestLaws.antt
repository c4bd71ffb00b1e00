-- Tests that say what a statement says, put together as the statements are.
use Rattle.std.specs.Prelude.{ℕ, ◌≤◌, ◌<◌, ◌≡◌, refl, ◌⊎◌, Bool, true, false, not, ◌&&◌, ◌||◌, List, [], ◌∷◌, T, leb, ltb, eqb}
use Rattle.std.proofs.Common.{subst, inl, inr, leb→le, le→leb, eqb→eq, T_not}
use mathlib.Core.List.Memᴰ
use Rattle.std.proofs.Math.Dec.{eqb_refl, not_T}
use Rattle.lists.specs.Trusted.Lists.{◌∈◌, first, later, Every, Pairwise}
use Rattle.lists.specs.ListLaws.{every_none, every_cons, every_head, every_tail}
use Rattle.lists.specs.Trusted.Tests.{all, any, elem, pairwise, within, either, Reflects}

pub reflects_le : (m n : ℕ) → Reflects (leb m n) (m ≤ n)
reflects_le m n = record { to = leb→le m n; from = le→leb m n }

pub reflects_lt : (m n : ℕ) → Reflects (ltb m n) (m < n)
reflects_lt m n = record { to = leb→le _ n; from = le→leb _ n }

pub reflects_eq : (m n : ℕ) → Reflects (eqb m n) (m ≡ n)
reflects_eq m n = record { to = eqb→eq m n; from = λ e. subst (λ k. T (eqb m k)) e (eqb_refl m) }

pub reflects_map : {b : Bool} {P Q : Type 0} → (P → Q) → (Q → P) → Reflects b P → Reflects b Q
reflects_map f g r = record { to = λ t. f (r.to t); from = λ q. r.from (g q) }

pub reflects_not : {b : Bool} {P : Type 0} → Reflects b P → Reflects (not b) (¬ P)
reflects_not {b} r = record { to = λ t h. T_not b t (r.from h); from = λ f. not_T b (λ t. f (r.to t)) }

pub reflects_and : {a b : Bool} {P Q : Type 0} → Reflects a P → Reflects b Q → Reflects (a && b) (P × Q)
reflects_and {a} {b} {P} {Q} r s = record { to = to a r.to; from = from a r.from }
  where
    to : (c : Bool) → (T c → P) → T (c && b) → P × Q
    to true f t = (f tt, s.to t)
    to false f t = absurd t

    from : (c : Bool) → (P → T c) → P × Q → T (c && b)
    from true f h = s.from h.1
    from false f h = f h.0

pub reflects_or : {a b : Bool} {P Q : Type 0} → Reflects a P → Reflects b Q → Reflects (a || b) (P ⊎ Q)
reflects_or {a} {b} {P} {Q} r s = record { to = to a r.to; from = from a r.from }
  where
    to : (c : Bool) → (T c → P) → T (c || b) → P ⊎ Q
    to true f t = inl (f tt)
    to false f t = inr (s.to t)

    from : (c : Bool) → (P → T c) → P ⊎ Q → T (c || b)
    from true f h = tt
    from false f (inl h) = absurd (f h)
    from false f (inr h) = s.from h

module _ {A : Type 0} where
  pub reflects_all : (f : A → Bool) {P : A → Type 0} → ((x : A) → Reflects (f x) (P x)) → (xs : List A) → Reflects (all f xs) (Every P xs)
  reflects_all f r [] = record { to = λ t. every_none _; from = λ h. tt }
  reflects_all f r (x ∷ xs) =
      reflects_map (λ h. every_cons h.0 h.1) (λ h. (every_head h, every_tail h)) (reflects_and (r x) (reflects_all f r xs))

  pub reflects_any : (f : A → Bool) {P : A → Type 0} → ((x : A) → Reflects (f x) (P x)) → (xs : List A) →
      Reflects (any f xs) ((a : A) × (a ∈ xs) × P a)
  reflects_any f {P} r [] = record { to = λ t. absurd t; from = λ h. absurd (every_none (λ x. ⊥) h.0 h.1) }
  reflects_any f {P} r (x ∷ xs) = reflects_map to from (reflects_or (r x) (reflects_any f r xs))
    where
      to : P x ⊎ ((a : A) × (a ∈ xs) × P a) → (a : A) × (a ∈ x ∷ xs) × P a
      to (inl h) = (x, first refl, h)
      to (inr h) = (h.0, later h.1, h.2)

      one : (a : A) → a ∈ x ∷ xs → P a → P x ⊎ ((a : A) × (a ∈ xs) × P a)
      one a (first e) h = inl (subst P e h)
      one a (later m) h = inr (a, m, h)

      from : (a : A) × (a ∈ x ∷ xs) × P a → P x ⊎ ((a : A) × (a ∈ xs) × P a)
      from h = one h.0 h.1 h.2

  pub reflects_pairwise : (f : A → A → Bool) {R : A → A → Type 0} → ((x y : A) → Reflects (f x y) (R x y)) → (xs : List A) →
      Reflects (pairwise f xs) (Pairwise R xs)
  reflects_pairwise f r [] = record { to = λ t. tt; from = λ h. tt }
  reflects_pairwise f r (x ∷ xs) = reflects_and (reflects_all (f x) (r x) xs) (reflects_pairwise f r xs)

pub reflects_elem : (n : ℕ) (xs : List ℕ) → Reflects (elem n xs) (n ∈ xs)
reflects_elem n xs = reflects_map (λ h. Memᴰ.cast h.2 h.1) (λ m. (n, m, refl)) (reflects_any (eqb n) (reflects_eq n) xs)

pub reflects_within : (l m n : ℕ) → Reflects (within l m n) ((l ≤ n) × (n ≤ m))
reflects_within l m n = reflects_and (reflects_le l n) (reflects_le n m)

-- a property of a test's result, by what the test says
pub by_reflects : {b : Bool} {P : Type 0} (Q : Bool → Type 0) → Reflects b P → (P → Q true) → (¬ P → Q false) → Q b
by_reflects {b} {P} Q r f g = go b r.to r.from
  where
    go : (c : Bool) → (T c → P) → (P → T c) → Q c
    go true to from = f (to tt)
    go false to from = g from

-- what is promised by a test's result, by what the test says
pub by_either : {b : Bool} {P X Y : Type 0} {Z : Type 0} → Reflects b P → (P → X → Z) → (¬ P → Y → Z) → either b X Y → Z
by_either {b} {P} {X} {Y} {Z} r f g = by_reflects (λ c. either c X Y → Z) r f g

-- two tests that say the same have one result
pub reflects_same : {a b : Bool} {P Q : Type 0} → Reflects a P → Reflects b Q → (P → Q) → (Q → P) → a ≡ b
reflects_same {a} {b} r s f g = go a b (λ t. s.from (f (r.to t))) (λ t. r.from (g (s.to t)))
  where
    go : (c d : Bool) → (T c → T d) → (T d → T c) → c ≡ d
    go true true h i = refl
    go true false h i = absurd (h tt)
    go false true h i = absurd (i tt)
    go false false h i = refl

pub reflects_true : {b : Bool} {P : Type 0} → Reflects b P → P → b ≡ true
reflects_true r h = by_reflects (λ c. c ≡ true) r (λ x. refl) (λ n. absurd (n h))
