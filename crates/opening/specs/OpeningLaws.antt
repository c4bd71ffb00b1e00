-- The opening line by what its bytes are found to be.
use Rattle.std.specs.Prelude.{ℕ, ◌≡◌, refl, Bool, true, false, cond, List, eqb, get_or, take, drop}
use Rattle.std.proofs.Common.{ap, ap₂, ◌∙◌, eq-eqb, ne_eqb}
use Rattle.std.proofs.Math.Option.{Option, none, some}
use Rattle.decimal.specs.Trusted.Number.{Number, columns, field_number}
use Rattle.opening.specs.Trusted.Opening.{both, opening_numbers}

both_none : (x : Option Number) → both x none ≡ none
both_none none = refl
both_none (some x) = refl

cond_none : {A : Type 0} (b : Bool) → ◌≡◌ {A = Option A} (cond b none none) none
cond_none true = refl
cond_none false = refl

module _ (input : List ℕ) where
  abbrev first : Option Number
  first = field_number (take columns input)

  abbrev second : Option Number
  second = field_number (take columns (drop columns input))

  pub no_line_feed : (get_or input 12 0 ≡ 10 → ⊥) → opening_numbers input ≡ none
  no_line_feed d = ap (λ b. cond b (both first second) none) (ne_eqb (get_or input 12 0) 10 d)

  pub no_first : field_number (take columns input) ≡ none → opening_numbers input ≡ none
  no_first e = ap (λ x. cond (eqb (get_or input 12 0) 10) (both x second) none) e ∙ cond_none (eqb (get_or input 12 0) 10)

  pub no_second : field_number (take columns (drop columns input)) ≡ none → opening_numbers input ≡ none
  no_second e = ap (λ x. cond (eqb (get_or input 12 0) 10) x none) (ap (both first) e ∙ both_none first) ∙ cond_none (eqb (get_or input 12 0) 10)

  pub two_numbers : {x y : Number} → get_or input 12 0 ≡ 10 → field_number (take columns input) ≡ some x → field_number (take columns (drop columns input)) ≡ some y →
      opening_numbers input ≡ some (x, y)
  two_numbers z e f = ap (λ b. cond b (both first second) none) (eq-eqb (get_or input 12 0) 10 z) ∙ ap₂ both e f
