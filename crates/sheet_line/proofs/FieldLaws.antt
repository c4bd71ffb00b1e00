-- Laws of the fields of a line, read one after the other.
use Prim.Native.Nat.{ℕ, zero, suc, ◌+◌, ◌-◌, ◌*◌, ◌≤◌, ◌<◌}
use native.Mathlib.Omega.{arith}
use native.Mathlib.Numerals.{add-one}
use mathlib.Core.Path.{◌≡◌, refl, sym, ap, ap₂, ◌∙◌}
use mathlib.Core.Bool.{Bool, true, false, cond}
use mathlib.Core.Option.{Option, none, some}
use mathlib.Core.List.{List, [], ◌∷◌, ◌++◌, map, map-append, append_assoc, append-nil}
use lib.ListN.{length, take, drop, set, length-drop, length-set, drop_of_length-le}
use lib.Seq.{take_all, drop-drop, take-suc-set}
use borrow.Author.Tests.{ne_eqb, ltb-true, ltb-false}
use lib.Dec.{ltb}
use Rattle.std.specs.Prelude.{Some, None}
use Rattle.decimal.specs.Trusted.Number.{Number, columns, number, field_number}
use Rattle.sheet_line.specs.declared.FieldValue.{FieldValue}
use Rattle.sheet.specs.Trusted.Limits.{most_fields}
use Rattle.sheet.specs.Trusted.Line.{with, cells, fields}
use Rattle.sheet_line.specs.Inside.{value_of, FieldsRead}

-- numbers before others, where all are there
abbrev pub with_all : List Number → Option (List Number) → Option (List Number)
with_all xs none = none
with_all xs (some ys) = some (xs ++ ys)

with_more : (xs : List Number) (x : Number) (o : Option (List Number)) → with_all xs (with (some x) o) ≡ with_all (xs ++ (x ∷ [])) o
with_more xs x none = refl
with_more xs x (some ys) = ap some (sym (append_assoc xs (x ∷ []) ys))

cells_end : (n : ℕ) → cells n [] ≡ some []
cells_end zero = refl
cells_end (suc n) = refl

-- one field more
cells_step : (n : ℕ) (bs : List ℕ) → 0 < length bs → cells (suc n) bs ≡ with (field_number (take columns bs)) (cells n (drop columns bs))
cells_step n [] l = absurd (omega arith)
cells_step n (b ∷ bs) l = refl

pub short_none : (bs : List ℕ) → length bs < columns → field_number (take columns bs) ≡ none
short_none bs l =
    ap field_number (take_all columns bs (omega arith))
    ∙ ap (λ b. cond b (number bs) none) (ne_eqb (length bs) columns (λ e. omega arith))

-- ---- bytes that are not so many whole fields

with_none : (o : Option Number) → with o none ≡ none
with_none none = refl
with_none (some x) = refl

cells_uneven : (n : ℕ) (bs : List ℕ) → ((k : ℕ) → k ≤ n → length bs ≡ columns * k → ⊥) → cells n bs ≡ none
cells_uneven zero [] d = absurd (d 0 (omega arith) refl)
cells_uneven zero (b ∷ bs) d = refl
cells_uneven (suc n) [] d = absurd (d 0 (omega arith) refl)
cells_uneven (suc n) (b ∷ bs) d =
    of (ltb (length (b ∷ bs)) columns) refl
    (λ l. cells_uneven n (drop columns (b ∷ bs)) (λ k m q. d (suc k) (omega arith) (omega (arith, l, q, length-drop columns (b ∷ bs)))))
  where
    of : (short : Bool) → ltb (length (b ∷ bs)) columns ≡ short → (columns ≤ length (b ∷ bs) → cells n (drop columns (b ∷ bs)) ≡ none) → cells (suc n) (b ∷ bs) ≡ none
    of true e rest = ap (λ o. with o (cells n (drop columns (b ∷ bs)))) (short_none (b ∷ bs) (ltb-true _ _ e))
    of false e rest = ap (with (field_number (take columns (b ∷ bs)))) (rest (ltb-false (length (b ∷ bs)) columns e)) ∙ with_none (field_number (take columns (b ∷ bs)))

-- a line of such bytes is not laid out
pub fields_uneven : (bs : List ℕ) → ((k : ℕ) → 1 ≤ k → k ≤ most_fields → length bs ≡ columns * k → ⊥) → fields bs ≡ none
fields_uneven [] d = refl
fields_uneven (b ∷ bs) d = cells_uneven most_fields (b ∷ bs) (λ k l e. d k (omega arith) l e)

-- ---- what holds while the fields are read

pub record SoFar (bytes : List ℕ) (numbers : List FieldValue) (count : ℕ) : Type 0 where
  pub whole : length numbers ≡ most_fields
  pub inside : columns * count ≤ length bytes
  pub same : fields bytes ≡ with_all (map value_of (take count numbers)) (cells (most_fields - count) (drop (columns * count) bytes))

module _ {bytes : List ℕ} {numbers : List FieldValue} {count : ℕ} (h : SoFar bytes numbers count) where
  pub so_far_all : length bytes ≤ columns * count → (n : ℕ) → count ≡ n → n ≤ most_fields → FieldsRead bytes (Some (record { count = n; numbers = numbers }))
  so_far_all l n e m = record {
    same =
        h.same
        ∙ (ap (λ bs. with_all (map value_of (take count numbers)) (cells (most_fields - count) bs)) (drop_of_length-le bytes l)
        ∙ (ap (with_all (map value_of (take count numbers))) (cells_end (most_fields - count))
        ∙ (ap some (append-nil _) ∙ ap (λ k. some (map value_of (take k numbers))) e)));
    room = record { whole = h.whole; within = m };
  }

  module _ (more : columns * count < length bytes) (room : count < most_fields) where
    left : 0 < length (drop (columns * count) bytes)
    left = simp length-drop (omega arith)

    one_more : cells (most_fields - count) (drop (columns * count) bytes)
        ≡ with (field_number (take columns (drop (columns * count) bytes))) (cells (most_fields - (count + 1)) (drop (columns * count + columns) bytes))
    one_more =
        ap (λ n. cells n (drop (columns * count) bytes)) (let e : most_fields - count ≡ suc (most_fields - (count + 1)) = omega arith in e)
        ∙ (cells_step (most_fields - (count + 1)) (drop (columns * count) bytes) left
        ∙ ap (λ bs. with (field_number (take columns (drop (columns * count) bytes))) (cells (most_fields - (count + 1)) bs)) (drop-drop columns (columns * count) bytes))

    pub so_far_bad : field_number (take columns (drop (columns * count) bytes)) ≡ none → FieldsRead bytes None
    so_far_bad e =
        let n = one_more ∙ ap (λ o. with o (cells (most_fields - (count + 1)) (drop (columns * count + columns) bytes))) e in
        record { same = h.same ∙ ap (with_all (map value_of (take count numbers))) n; room = tt }

    pub so_far_more : (x : FieldValue) → field_number (take columns (drop (columns * count) bytes)) ≡ some (value_of x) → columns * count + columns ≤ length bytes →
        SoFar bytes (set numbers count x) (count + 1)
    so_far_more x e l = record {
      whole = simp length-set h.whole;
      inside = omega arith;
      same =
          h.same
          ∙ (ap (with_all (map value_of (take count numbers))) (one_more ∙ ap (λ o. with o (cells (most_fields - (count + 1)) (drop (columns * count + columns) bytes))) e)
          ∙ (with_more (map value_of (take count numbers)) (value_of x) (cells (most_fields - (count + 1)) (drop (columns * count + columns) bytes))
          ∙ ap₂ (λ l m. with_all l (cells (most_fields - (count + 1)) (drop m bytes)))
          (sym (ap (λ n. map value_of (take n (set numbers count x))) (add-one count)
          ∙ (ap (map value_of) (take-suc-set numbers count x (omega (arith, h.whole))) ∙ map-append value_of (take count numbers) (x ∷ []))))
          (let q : columns * count + columns ≡ columns * (count + 1) = omega arith in q)));
    }
