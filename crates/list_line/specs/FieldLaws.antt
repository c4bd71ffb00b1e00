-- How long numbers in fields and a table's line are, and the fields of one number more.
use Rattle.std.specs.Prelude.{ℕ, ◌+◌, ◌*◌, ◌<◌, ◌≡◌, refl, List, [], ◌∷◌, ◌++◌, length, get_or, take}
use Rattle.std.proofs.Common.{add-one, arith, ap, ◌∙◌, append-nil, length-append, take-suc}
use Rattle.lists.specs.ListLaws.{gather_append}
use Rattle.decimal.specs.Trusted.Columns.{field_of, fields_of}
use Rattle.decimal.specs.ColumnLaws.{field_length}
use Rattle.table.specs.declared.Table.{Table}
use Rattle.table.specs.Trusted.Records.{reads}
use Rattle.list_line.specs.Trusted.TableLine.{table_line}
use Rattle.list_line.specs.Line.{table_width}

pub fields_length : (ns : List ℕ) → length (fields_of ns) ≡ 6 * length ns
fields_length [] = refl
fields_length (n ∷ ns) = simp (length-append, field_length) (omega (arith, fields_length ns))

pub fields_next : (ns : List ℕ) (i : ℕ) → i < length ns → fields_of (take (i + 1) ns) ≡ fields_of (take i ns) ++ field_of 6 (get_or ns i 0)
fields_next ns i h =
    ap (λ m. fields_of (take m ns)) (add-one i) ∙ ap fields_of (take-suc ns i 0 h)
    ∙ gather_append (field_of 6) (take i ns) (get_or ns i 0 ∷ []) ∙ ap (λ l. fields_of (take i ns) ++ l) (append-nil (field_of 6 (get_or ns i 0)))

-- THE LENGTH OF A TABLE'S LINE
pub table_length : (t : ℕ) (r : Table) → length (table_line t r) ≡ table_width r
table_length t r = simp length-append (omega (arith, fields_length (reads r), field_length 21 r.truth))
