-- Line 0 by its three numbers, and how many bytes a table's line has. Internal definitions: the laws are in FieldLaws.
use Rattle.std.specs.Prelude.{ℕ, ◌+◌, ◌*◌, List, [], ◌∷◌, ◌++◌, length}
use Rattle.decimal.specs.Trusted.Columns.{fields_of}
use Rattle.table.specs.Trusted.Records.{reads}
use Rattle.table.specs.declared.Table.{Table}

-- line 0 of a part with this K, this capacity and this used count
abbrev pub top_line : ℕ → ℕ → ℕ → List ℕ
top_line k capacity used = fields_of (k ∷ capacity ∷ used ∷ []) ++ 10 ∷ []

-- the bytes of a table's line: three fields, a field an input, the truth table's columns and the line feed
abbrev pub table_width : Table → ℕ
table_width r = 40 + 6 * length (reads r)
