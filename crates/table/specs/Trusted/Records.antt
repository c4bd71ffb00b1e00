-- How a record reads as a lookup table, and the records of tables with their levels.
-- Definitions only.
use Rattle.std.specs.Prelude.{ℕ, ◌-◌, List, [], ◌∷◌, ◌++◌, map, length, take, replicate}
use Rattle.tree.specs.Trusted.Limits.{code_base}
use Rattle.cover.specs.Trusted.Tables.{LookupTable, table_level, code_levels, levels_after}
use Rattle.table.specs.Trusted.Limits.{input_room}
use Rattle.table.specs.declared.Table.{Table}

-- the inputs in use: the first u
abbrev pub reads : Table → List ℕ
reads r = take r.count r.inputs

abbrev pub table_of : Table → LookupTable
table_of r = record { drives = r.net; inputs = reads r; truth = r.truth }

-- the record of a table of this level, its unused inputs zero
abbrev pub record_of : ℕ → LookupTable → Table
record_of level t = record {
  net = t.drives;
  count = length t.inputs;
  inputs = t.inputs ++ replicate (input_room - length t.inputs) 0;
  truth = t.truth;
  level = level;
}

-- the records of tables that have these levels
abbrev pub records_of : List ℕ → List LookupTable → List Table
records_of [] ts = []
records_of (l ∷ ls) [] = []
records_of (l ∷ ls) (t ∷ ts) = record_of l t ∷ records_of ls ts

-- the records of the tables `new`, which follow the tables `old`, with the levels that they have there
abbrev pub records_after : (old new : List LookupTable) → List Table
records_after old new = records_of (levels_after code_base old new) new

-- the level of a record that follows the records `before`
abbrev pub level_after : List Table → Table → ℕ
level_after before r = table_level (table_of r) (code_levels code_base (map table_of before))

-- the record with that level
abbrev pub levelled : List Table → Table → Table
levelled before r = record { net = r.net; count = r.count; inputs = r.inputs; truth = r.truth; level = level_after before r }

-- a record of zeros
abbrev pub blank : Table
blank = record { net = 0; count = 0; inputs = replicate input_room 0; truth = 0; level = 0 }
