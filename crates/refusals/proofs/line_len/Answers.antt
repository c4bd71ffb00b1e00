-- The first line feed is the first byte that passes the test for one.
use Rattle.std.proofs.Common.{rules, tests, ◌==◌, ◌≡◌, ◌≤◌, ◌+◌, ℕ, not, suc, Some, None, cond, length, refl, ap, ◌∙◌, ltb, arith, Bool, true, false, List, [], ◌∷◌}
use Rattle.std.specs.List.{position_or_len}
use Rattle.std.specs.Option.{unwrap_or}
use Rattle.std.proofs.lemmas.Iterator.{YieldsList-from_slice}
use Rattle.std.proofs.lemmas.Iterator.Search.{position_from_yields_List}
use Rattle.lists.specs.Cases.{by_leb}
use Rattle.refusals.proofs.line_len.Goals as goal

step : (b : Bool) (m n : ℕ) → m ≤ n → cond (not b) (1 + m) 0 ≤ suc n
step true m n l = omega arith
step false m n l = omega arith

within_text : (p : ℕ → Bool) (xs : List ℕ) → position_or_len p xs ≤ length xs
within_text p [] = omega arith
within_text p (x ∷ xs) = step (p x) (position_or_len p xs) (length xs) (within_text p xs)

or_end : (at end : ℕ) → at ≤ end → unwrap_or (cond (ltb at end) (Some at) None) end ≡ at
or_end at end l = by_leb (λ b. unwrap_or (cond b (Some at) None) end ≡ at) (suc at) end (λ m. refl) (λ m. omega arith)

pub returns : goal.returns
returns c =
    let text = c.args.text.now in
    let feed = λ (b : ℕ). b == 10 in
    let found = position_from_yields_List feed _ _ c.position.result c.position.ensures.ran (YieldsList-from_slice text (cc)) (λ x b q k. search (rules, tests)) in
    c.unwrap_or.ensures ∙ ap (λ o. unwrap_or o (length text)) found ∙ or_end (position_or_len feed text) (length text) (within_text feed text)
