-- A line of numbers written in fields is cut off at its line feed, and its fields are those numbers.
use Rattle.std.specs.Prelude.{ℕ, zero, suc, ◌+◌, ◌-◌, ◌/◌, ◌%◌, ◌^◌, ◌≤◌, ◌≡◌, refl, ◌≢◌, Bool, true, false, not, cond, ◌&&◌, List, [], ◌∷◌, ◌++◌, length}
use Rattle.std.proofs.Common.{arith, ap, ap₂, ◌∙◌, append_assoc, take_at, drop_at}
use Rattle.std.proofs.Math.Option.{some}
use Rattle.lists.specs.Trusted.Lists.{Every}
use Rattle.lists.specs.ListLaws.{every_none, every_cons, every_head, every_tail, every_append}
use Rattle.decimal.specs.Trusted.Number.{Number, columns, field_number}
use Rattle.decimal.specs.Inside.{Within}
use Rattle.decimal.specs.Trusted.Columns.{room, column, signed_column, signed_field_of}
use Rattle.decimal.specs.FieldLaws.{signed_length, signed_read}
use Rattle.sheet.specs.Trusted.Limits.{most_fields}
use Rattle.sheet.specs.Trusted.Line.{after, line, with, cells, fields}
use Rattle.sheet.specs.CutLaws.{line_step}
use Rattle.drawing.specs.Trusted.Written.{fields_text, line_text}

-- ---- bytes without a line feed

abbrev pub Plain : List ℕ → Type 0
Plain bs = Every (λ b. b ≢ 10) bs

cond_plain : (b : Bool) (m n : ℕ) → m ≢ 10 → n ≢ 10 → cond b m n ≢ 10
cond_plain true m n f g = f
cond_plain false m n f g = g

column_plain : (n : Number) (j : ℕ) → signed_column n j ≢ 10
column_plain n j =
    cond_plain (n.negative && room j n.magnitude && not (room (j - 1) n.magnitude)) 45 (column n.magnitude j) (λ e. omega arith)
    (cond_plain (room j n.magnitude) 32 (48 + (n.magnitude / 10 ^ j) % 10) (λ e. omega arith) (λ e. omega arith))

field_plain : (width : ℕ) (n : Number) → Plain (signed_field_of width n)
field_plain zero n = every_none _
field_plain (suc width) n = every_cons (column_plain n width) (field_plain width n)

fields_plain : (xs : List Number) → Plain (fields_text xs)
fields_plain [] = every_none _
fields_plain (x ∷ xs) = every_append (signed_field_of columns x) (fields_text xs) (field_plain columns x) (fields_plain xs)

pub line_plain : (bs rest : List ℕ) → Plain bs → line (bs ++ (10 ∷ rest)) ≡ some (bs, rest)
line_plain [] rest h = refl
line_plain (b ∷ bs) rest h =
    line_step (λ o. o ≡ some (b ∷ bs, rest)) b (bs ++ (10 ∷ rest)) (λ z. absurd (every_head h z)) (λ z. ap (after b) (line_plain bs rest (every_tail h)))

-- ---- the cells of a line

pub cells_next : (n : ℕ) (a rest : List ℕ) → length a ≡ columns → cells (suc n) (a ++ rest) ≡ with (field_number a) (cells n rest)
cells_next n [] rest l = absurd (omega arith)
cells_next n (c ∷ cs) rest l =
    ap₂ (λ u v. with (field_number u) (cells n v)) (take_at (c ∷ cs) rest columns l) (drop_at (c ∷ cs) rest columns l)

cells_written : (n : ℕ) (xs : List Number) → length xs ≤ n → Every (Within columns) xs → cells n (fields_text xs) ≡ some xs
cells_written zero [] l h = refl
cells_written (suc n) [] l h = refl
cells_written zero (x ∷ xs) l h = absurd (omega arith)
cells_written (suc n) (x ∷ xs) l h =
    cells_next n (signed_field_of columns x) (fields_text xs) (signed_length columns x)
    ∙ ap₂ with (signed_read x (every_head h)) (cells_written n xs (omega arith) (every_tail h))

-- ---- a line

pub line_written_lem : (xs : List Number) (rest : List ℕ) → line (line_text xs ++ rest) ≡ some (fields_text xs, rest)
line_written_lem xs rest = ap line (append_assoc (fields_text xs) (10 ∷ []) rest) ∙ line_plain (fields_text xs) rest (fields_plain xs)

pub fields_written : (x : Number) (xs : List Number) → length (x ∷ xs) ≤ most_fields → Every (Within columns) (x ∷ xs) → fields (fields_text (x ∷ xs)) ≡ some (x ∷ xs)
fields_written x xs l h = cells_written most_fields (x ∷ xs) l h
