-- A number written right-justified after blanks, in decimal, into the columns of a field (01, "List").
-- Definitions only: the laws are in ColumnLaws and FieldLaws.
use Rattle.std.specs.Prelude.{ℕ, zero, suc, ◌+◌, ◌-◌, ◌/◌, ◌%◌, ◌^◌, Bool, not, cond, ◌&&◌, List, [], ◌∷◌, ◌++◌, ltb, take, drop}
use Rattle.lists.specs.Trusted.Lists.{gather}
use Rattle.decimal.specs.Trusted.Number.{Number, columns}

-- so many columns have room for n; a number takes one or more
abbrev pub room : ℕ → ℕ → Bool
room width n = ltb 0 width && ltb n (10 ^ width)

-- the byte of n in the column that has j columns to its right: a digit or, where those have room for the number, a blank
abbrev pub column : ℕ → ℕ → ℕ
column n j = cond (room j n) 32 (48 + (n / 10 ^ j) % 10)

-- n in so many columns
abbrev pub field_of : ℕ → ℕ → List ℕ
field_of zero n = []
field_of (suc width) n = column n width ∷ field_of width n

abbrev pub fields_of : List ℕ → List ℕ
fields_of = gather (field_of columns)

-- ---- with a sign, for which a number below zero takes one column more

abbrev pub signed_room : ℕ → Number → Bool
signed_room width n = cond n.negative (room (width - 1) n.magnitude) (room width n.magnitude)

-- the minus sign stands in the last column that would be blank
abbrev pub signed_column : Number → ℕ → ℕ
signed_column n j = cond (n.negative && room j n.magnitude && not (room (j - 1) n.magnitude)) 45 (column n.magnitude j)

abbrev pub signed_field_of : ℕ → Number → List ℕ
signed_field_of zero n = []
signed_field_of (suc width) n = signed_column n width ∷ signed_field_of width n

-- ---- in a longer line

-- the line with the field of so many columns that starts at a place
abbrev pub with_field : List ℕ → ℕ → ℕ → List ℕ → List ℕ
with_field old at width field = take at old ++ (field ++ drop (at + width) old)
