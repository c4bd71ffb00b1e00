-- Lists in order, mixed and paired, and the numbers below n. Internal definitions: the laws are in ListLaws, MixLaws and NumberLaws.
use Rattle.std.specs.Prelude.{ℕ, zero, suc, ◌≤◌, List, [], ◌∷◌, map}
use Rattle.lists.specs.Trusted.Lists.{Pairwise}

-- no number is below one that stands before it
abbrev pub Sorted : List ℕ → Type 0
Sorted = Pairwise (λ x y. x ≤ y)

-- the third list has the elements of the first two, those of each in their order
pub data Mix {A : Type 0} : List A → List A → List A → Type 0 where
  neither : Mix [] [] []
  left : {x : A} {xs ys zs : List A} → Mix xs ys zs → Mix (x ∷ xs) ys (x ∷ zs)
  right : {y : A} {xs ys zs : List A} → Mix xs ys zs → Mix xs (y ∷ ys) (y ∷ zs)

-- the two are of one length, and each element of the first has the relation to the one that stands in its place in the second
pub data Paired {A B : Type 0} (R : A → B → Type 0) : List A → List B → Type 0 where
  no_pair : Paired R [] []
  pair : {x : A} {y : B} {xs : List A} {ys : List B} → R x y → Paired R xs ys → Paired R (x ∷ xs) (y ∷ ys)

-- the numbers below n
abbrev pub upto : ℕ → List ℕ
upto zero = []
upto (suc n) = 0 ∷ map suc (upto n)
