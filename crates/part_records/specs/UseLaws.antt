-- Of a record whose unused inputs are zero, those in use are looked for among all.
use Rattle.std.specs.Prelude.{ℕ, zero, suc, ◌<◌, ◌≡◌, refl, false, ◌||◌, List, [], ◌∷◌, eqb, take, drop}
use Rattle.std.proofs.Common.{arith, ap, ap₂, ne_eqb}
use Rattle.lists.specs.ListLaws.{every_head, every_tail}
use Rattle.lists.specs.Trusted.Tests.{elem}
use Rattle.table.specs.Trusted.Rules.{AllZero}

elem_zeros : (n : ℕ) → 0 < n → (xs : List ℕ) → AllZero xs → elem n xs ≡ false
elem_zeros n l [] h = refl
elem_zeros n l (x ∷ xs) h = ap₂ (λ a b. a || b) (ne_eqb n x (λ e. omega (arith, every_head h))) (elem_zeros n l xs (every_tail h))

pub elem_padded : (n : ℕ) → 0 < n → (k : ℕ) (xs : List ℕ) → AllZero (drop k xs) → elem n xs ≡ elem n (take k xs)
elem_padded n l zero xs h = elem_zeros n l xs h
elem_padded n l (suc k) [] h = refl
elem_padded n l (suc k) (x ∷ xs) h = ap (λ b. eqb n x || b) (elem_padded n l k xs h)
