-- A test of all elements is the library's, under another name.
use Rattle.std.proofs.Common.{◌≡◌, refl, ap, Bool, List, [], ◌∷◌, ◌&&◌}
use Rattle.std.specs.List.{list_all}
use Rattle.lists.specs.Trusted.Tests.{all}

module _ {A : Type 0} (f : A → Bool) where
  pub list_all_is_all : (xs : List A) → list_all f xs ≡ all f xs
  list_all_is_all [] = refl
  list_all_is_all (x ∷ xs) = ap (λ b. f x && b) (list_all_is_all xs)
