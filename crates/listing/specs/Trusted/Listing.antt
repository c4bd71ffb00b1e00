-- The list of a part, as bytes: 01, "List". Definitions only.
use Rattle.std.specs.Prelude.{ℕ, zero, suc, List, [], ◌∷◌, ◌++◌, get_or}
use Rattle.lists.specs.Trusted.Lists.{gather, from}
use Rattle.decimal.specs.Trusted.Columns.{fields_of}
use Rattle.table.specs.Trusted.Records.{blank}
use Rattle.part.specs.declared.Part.{Part}
use Rattle.list_line.specs.Trusted.TableLine.{table_line}

abbrev pub line_of : Part → ℕ → List ℕ
line_of p zero = fields_of (p.k ∷ p.capacity ∷ p.used ∷ []) ++ 10 ∷ []
line_of p (suc t) = table_line (suc t) (get_or p.tables t blank)

-- the lines 0 to `used`
abbrev pub list_of : Part → List ℕ
list_of p = gather (line_of p) (from 0 (suc p.used))
