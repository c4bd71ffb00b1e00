use Rattle.std.proofs.Common.{rules, tests, ◌≡◌, ◌+◌, ◌<◌, ℕ, zero, suc, Bool, true, false, ◌&&◌, List, [], ◌∷◌, length, get_or, take, ltb, ◌∙◌, refl, subst, sym, ap, ap₂, arith}
use Rattle.std.proofs.lemmas.List.Sorted.{answers_always}
use Rattle.std.specs.List.{IsAllAdjacentAnswer}
use Rattle.lists.specs.Trusted.Tests.{pairwise}
use Rattle.table.specs.LoopLaws.{rising_two}
use Rattle.table_inputs.proofs.rising.Goals as goal

up : (xs : List ℕ) → ((k d : ℕ) → k + 1 < length xs → true ≡ ltb (get_or xs k d) (get_or xs (k + 1) d)) → pairwise ltb xs ≡ true
up [] h = refl
up (x ∷ []) h = refl
up (x ∷ y ∷ ys) h = rising_two x y ys ∙ ap₂ ◌&&◌ (sym (h 0 0 (omega arith))) (up (y ∷ ys) (λ k d l.
    let e : suc k + 1 ≡ suc (k + 1) = omega arith in
    subst (λ m. true ≡ ltb (get_or (y ∷ ys) k d) (get_or (x ∷ y ∷ ys) m d)) e (h (suc k) d (omega arith))))

and_false : (b : Bool) → b && false ≡ false
and_false true = refl
and_false false = refl

down : (xs : List ℕ) (k : ℕ) → k + 1 < length xs → false ≡ ltb (get_or xs k 0) (get_or xs (k + 1) 0) → pairwise ltb xs ≡ false
down [] k l h = absurd (omega arith)
down (x ∷ []) k l h = absurd (omega arith)
down (x ∷ y ∷ ys) zero l h = rising_two x y ys ∙ ap (λ b. b && pairwise ltb (y ∷ ys)) (sym h)
down (x ∷ y ∷ ys) (suc k) l h =
    let e : suc k + 1 ≡ suc (k + 1) = omega arith in
    let i = subst (λ m. false ≡ ltb (get_or (y ∷ ys) k 0) (get_or (x ∷ y ∷ ys) m 0)) e h in
    rising_two x y ys ∙ ap (λ b. ltb x y && b) (down (y ∷ ys) k (omega arith) i) ∙ and_false (ltb x y)

answer : (xs : List ℕ) (r : Bool) → IsAllAdjacentAnswer (λ x y b. b ≡ ltb x y) xs r → r ≡ pairwise ltb xs
answer xs true h = sym (up xs h)
answer xs false h = sym (down xs h.0 h.1 (h.2 0))

pub returns : goal.returns
returns c = answer (take c.args.n c.args.inputs) c.is_sorted_by.result (c.is_sorted_by.ensures.cases ltb (answers_always _ _ _ (λ f a r g k. search (rules, tests))))
