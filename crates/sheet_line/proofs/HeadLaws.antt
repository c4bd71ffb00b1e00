-- Laws of the fields of a line as the code holds them, and of what line 1 says.
use Prim.Native.Nat.{ℕ, zero, suc, ◌-◌, ◌≤◌}
use native.Mathlib.Omega.{arith}
use mathlib.Core.Path.{◌≡◌, refl, ap, ◌∙◌}
use mathlib.Core.Bool.{true, false}
use mathlib.Core.Option.{none, some}
use mathlib.Core.List.{List, [], ◌∷◌, map}
use lib.ListN.{length, get_or, take, drop, length-drop, length-map}
use lib.Seq.{length-take-le}
use Rattle.lists.specs.Trusted.Tests.{within}
use Rattle.lists.specs.Trusted.Checked.{passed, refused, ◌>>=◌, require, given}
use Rattle.tree.specs.Trusted.Limits.{greatest_net}
use Rattle.decimal.specs.Trusted.Number.{Number}
use Rattle.sheet_line.specs.declared.FieldValue.{FieldValue}
use Rattle.sheet_line.specs.declared.Fields.{Fields}
use Rattle.sheet.specs.Trusted.Limits.{most_gates}
use Rattle.sheet.specs.Trusted.Read.{counts, head_of}
use Rattle.sheet_line.specs.Inside.{value_of, values_of, FieldsRoom}

-- ---- the fields as a list

abbrev pub zero_value : FieldValue
zero_value = record { sign = 0; magnitude = 0 }

-- the number in field i
abbrev pub field_at : Fields → ℕ → Number
field_at f i = value_of (get_or f.numbers i zero_value)

pub values_count : (f : Fields) → FieldsRoom f → length (values_of f) ≡ f.count
values_count f r =
    length-map (take f.count f.numbers) value_of ∙ length-take-le f.count f.numbers (omega arith)

pub more_count : (f : Fields) → FieldsRoom f → length (drop 2 (values_of f)) ≡ f.count - 2
more_count f r = length-drop 2 (values_of f) ∙ ap (λ n. n - 2) (values_count f r)

first_two : (xs : List FieldValue) (n : ℕ) → 2 ≤ n → 2 ≤ length xs →
    map value_of (take n xs) ≡ value_of (get_or xs 0 zero_value) ∷ value_of (get_or xs 1 zero_value) ∷ drop 2 (map value_of (take n xs))
first_two [] n k l = absurd (omega arith)
first_two (x ∷ []) n k l = absurd (omega arith)
first_two (x ∷ y ∷ xs) zero k l = absurd (omega arith)
first_two (x ∷ y ∷ xs) (suc zero) k l = absurd (omega arith)
first_two (x ∷ y ∷ xs) (suc (suc n)) k l = refl

pub values_two : (f : Fields) → FieldsRoom f → 2 ≤ f.count → values_of f ≡ field_at f 0 ∷ field_at f 1 ∷ drop 2 (values_of f)
values_two f r k = first_two f.numbers f.count k (omega (arith, r.whole))

-- ---- line 1

no_more : (xs : List Number) → length xs ≡ 2 → drop 2 xs ≡ []
no_more [] e = refl
no_more (x ∷ []) e = refl
no_more (x ∷ y ∷ []) e = refl
no_more (x ∷ y ∷ z ∷ xs) e = absurd (omega arith)

pub values_pair : (f : Fields) → FieldsRoom f → f.count ≡ 2 → values_of f ≡ field_at f 0 ∷ field_at f 1 ∷ []
values_pair f r e =
    values_two f r (omega arith)
    ∙ ap (λ l. field_at f 0 ∷ field_at f 1 ∷ l) (no_more (values_of f) (values_count f r ∙ e))

pub head_none : head_of none ≡ refused 1 1
unfolding ◌>>=◌ given
head_none = refl

pub head_other : (xs : List Number) → (length xs ≡ 2 → ⊥) → head_of (some xs) ≡ refused 1 1
unfolding ◌>>=◌ require given
head_other [] d = refl
head_other (x ∷ []) d = refl
head_other (x ∷ y ∷ []) d = absurd (d refl)
head_other (x ∷ y ∷ z ∷ xs) d = refl

module _ (x y : Number) where
  pub head_net : within 1 greatest_net x.magnitude ≡ false → head_of (some (x ∷ y ∷ [])) ≡ refused 4 1
  unfolding ◌>>=◌ require given
  head_net e = rw e

  pub head_count : within 1 greatest_net x.magnitude ≡ true → counts 1 most_gates y ≡ false → head_of (some (x ∷ y ∷ [])) ≡ refused 5 1
  unfolding ◌>>=◌ require given
  head_count e f = rw (e, f)

  pub head_good : within 1 greatest_net x.magnitude ≡ true → counts 1 most_gates y ≡ true →
      head_of (some (x ∷ y ∷ [])) ≡ passed (record { out = x.magnitude; inverted = x.negative; count = y.magnitude })
  unfolding ◌>>=◌ require given
  head_good e f = rw (e, f)
