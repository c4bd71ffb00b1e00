-- The opening line by what its bytes are found to be, and the wanted level by its tests.
use Rattle.std.specs.Prelude.{ℕ, ◌≤◌, ◌<◌, ◌≡◌, refl, Bool, true, false, cond, not, ◌&&◌, List, leb, eqb, get_or, take, drop}
use Rattle.std.proofs.Common.{sym, ap, ap₂, ◌∙◌, eq-eqb, ne_eqb, le-leb}
use Rattle.std.proofs.Math.Option.{Option, none, some}
use Rattle.std.proofs.lemmas.Bool.{lt-leb}
use Rattle.decimal.specs.Trusted.Number.{Number, columns, field_number}
use Rattle.part.specs.declared.Part.{Part}
use Rattle.part.specs.Trusted.Answers.{accepted}
use Rattle.part.specs.Trusted.Add.{opened}
use Rattle.opening.specs.Trusted.Opening.{count}
use Rattle.fast_opening.specs.Trusted.FastOpening.{all_three, fast_numbers, FastStart, unopened, wanted_after, fast_opened_by}

-- ---- the fields

second_none : (x z : Option Number) → all_three x none z ≡ none
second_none none z = refl
second_none (some x) z = refl

third_none : (x y : Option Number) → all_three x y none ≡ none
third_none none y = refl
third_none (some x) none = refl
third_none (some x) (some y) = refl

cond_none : {A : Type 0} (b : Bool) → ◌≡◌ {A = Option A} (cond b none none) none
cond_none true = refl
cond_none false = refl

module _ (input : List ℕ) where
  abbrev first : Option Number
  first = field_number (take columns input)

  abbrev second : Option Number
  second = field_number (take columns (drop 6 input))

  abbrev third : Option Number
  third = field_number (take columns (drop 12 input))

  abbrev ended : Bool
  ended = eqb (get_or input 18 0) 10

  pub not_ended : (get_or input 18 0 ≡ 10 → ⊥) → fast_numbers input ≡ none
  not_ended d = ap (λ b. cond b (all_three first second third) none) (ne_eqb (get_or input 18 0) 10 d)

  pub no_k : field_number (take columns input) ≡ none → fast_numbers input ≡ none
  no_k e = ap (λ x. cond ended (all_three x second third) none) e ∙ cond_none ended

  pub no_capacity : field_number (take columns (drop 6 input)) ≡ none → fast_numbers input ≡ none
  no_capacity e = ap (λ x. cond ended x none) (ap (λ y. all_three first y third) e ∙ second_none first third) ∙ cond_none ended

  pub no_wanted : field_number (take columns (drop 12 input)) ≡ none → fast_numbers input ≡ none
  no_wanted e = ap (λ x. cond ended x none) (ap (all_three first second) e ∙ third_none first second) ∙ cond_none ended

  pub three_numbers : {x y z : Number} → get_or input 18 0 ≡ 10 → field_number (take columns input) ≡ some x →
      field_number (take columns (drop 6 input)) ≡ some y → field_number (take columns (drop 12 input)) ≡ some z →
      fast_numbers input ≡ some (x, y, z)
  three_numbers l e f g =
      ap (λ b. cond b (all_three first second third) none) (eq-eqb (get_or input 18 0) 10 l)
      ∙ ap₂ (λ x y. all_three x y third) e f
      ∙ ap (all_three (some _) (some _)) g

-- ---- the wanted level

module _ (p : Part) (x : Number) where
  pub below_zero_34 : x.negative ≡ true → wanted_after accepted p x ≡ unopened 34
  below_zero_34 e = ap (λ b. cond (not b && leb x.magnitude 1024) (record { part = p; answer = accepted; wanted = x.magnitude }) (unopened 34)) e

  pub too_high_34 : x.negative ≡ false → 1024 < x.magnitude → wanted_after accepted p x ≡ unopened 34
  too_high_34 e h =
      ap₂ (λ a b. cond (not a && b) (record { part = p; answer = accepted; wanted = x.magnitude }) (unopened 34)) e (lt-leb x.magnitude 1024 h)

  pub in_range : x.negative ≡ false → x.magnitude ≤ 1024 → wanted_after accepted p x ≡ record { part = p; answer = accepted; wanted = x.magnitude }
  in_range e h =
      ap₂ (λ a b. cond (not a && b) (record { part = p; answer = accepted; wanted = x.magnitude }) (unopened 34)) e (le-leb x.magnitude 1024 h)

-- ---- what it opens

pub opened_fast : {n : Option (Number × Number × Number)} {x y z : Number} {s : FastStart} (k capacity : ℕ) → n ≡ some (x, y, z) → k ≡ count x →
    capacity ≡ count y → s ≡ wanted_after (opened k capacity).answer (opened k capacity).part z → s ≡ fast_opened_by n
opened_fast {z = z} k capacity e f g h = h ∙ ap₂ (λ a b. wanted_after (opened a b).answer (opened a b).part z) f g ∙ ap fast_opened_by (sym e)
