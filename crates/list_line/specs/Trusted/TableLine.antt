-- The line of a table, as bytes: 01, "List". Definitions only.
use Rattle.std.specs.Prelude.{ℕ, List, [], ◌∷◌, ◌++◌}
use Rattle.decimal.specs.Trusted.Columns.{field_of, fields_of}
use Rattle.table.specs.Trusted.Records.{reads}
use Rattle.table.specs.declared.Table.{Table}

-- the line of table t
abbrev pub table_line : ℕ → Table → List ℕ
table_line t r = fields_of (t ∷ r.net ∷ r.count ∷ reads r) ++ (field_of 21 r.truth ++ 10 ∷ [])
