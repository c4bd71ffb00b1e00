-- A text's first line, and the fields of a line. Definitions only.
use Rattle.std.specs.Prelude.{ℕ, zero, suc, true, false, List, [], ◌∷◌, eqb, take, drop}
use Rattle.std.proofs.Math.Option.{Option, none, some}
use Rattle.decimal.specs.Trusted.Number.{Number, columns, field_number}
use Rattle.sheet.specs.Trusted.Limits.{most_fields}

-- one more byte before the first of two texts
abbrev pub after : ℕ → Option (List ℕ × List ℕ) → Option (List ℕ × List ℕ)
after b none = none
after b (some p) = some (b ∷ p.0, p.1)

-- the bytes before the first line feed, which is the byte 10, and the bytes after it
abbrev pub line : List ℕ → Option (List ℕ × List ℕ)
line [] = none
line (b ∷ bs) = elim (eqb b 10) [ true ↦ some ([], bs) | false ↦ after b (line bs) ]

-- one more number before the others, where all are there
abbrev pub with : Option Number → Option (List Number) → Option (List Number)
with none xs = none
with (some x) none = none
with (some x) (some xs) = some (x ∷ xs)

-- the bytes as fields one after the other, n at most
abbrev pub cells : ℕ → List ℕ → Option (List Number)
cells zero [] = some []
cells zero (b ∷ bs) = none
cells (suc n) [] = some []
cells (suc n) (b ∷ bs) = with (field_number (take columns (b ∷ bs))) (cells n (drop columns (b ∷ bs)))

-- a line has one field or more
abbrev pub fields : List ℕ → Option (List Number)
fields [] = none
fields (b ∷ bs) = cells most_fields (b ∷ bs)
