-- A table is read back off its record; the records of tables, and what holds of each of them.
use Rattle.std.specs.Prelude.{ℕ, zero, suc, ◌-◌, ◌<◌, ◌≡◌, refl, List, [], ◌∷◌, ◌++◌, map, length, get_or, take, replicate}
use Rattle.std.proofs.Common.{arith, sym, ap, ap₂, ◌∙◌}
use Rattle.std.proofs.lemmas.List.{length-map}
use Rattle.std.proofs.Math.Seq.{take-append_seam}
use Rattle.lists.specs.Trusted.Lists.{Every}
use Rattle.lists.specs.ListLaws.{every_none, every_cons, every_head, every_tail}
use Rattle.tree.specs.Trusted.Limits.{code_base}
use Rattle.cover.specs.Trusted.Tables.{LookupTable, table_level, code_levels, levels_after}
use Rattle.cover.specs.LevelLaws.{levels_length, levels_at}
use Rattle.table.specs.Trusted.Limits.{input_room}
use Rattle.table.specs.Trusted.Records.{table_of, record_of, records_of, records_after}
use Rattle.table.specs.declared.Table.{Table}

pub read_back : (l : ℕ) (t : LookupTable) → table_of (record_of l t) ≡ t
read_back l t = ap (λ xs. record { drives = t.drives; inputs = xs; truth = t.truth }) (take-append_seam t.inputs (replicate (input_room - length t.inputs) 0))

pub all_back : (ls : List ℕ) (ts : List LookupTable) → length ls ≡ length ts → map table_of (records_of ls ts) ≡ ts
all_back [] [] e = refl
all_back [] (t ∷ ts) e = absurd (omega arith)
all_back (l ∷ ls) [] e = absurd (omega arith)
all_back (l ∷ ls) (t ∷ ts) e = ap₂ ◌∷◌ (read_back l t) (all_back ls ts (omega arith))

pub all_levels : (ls : List ℕ) (ts : List LookupTable) → length ls ≡ length ts → map (λ r. r.level) (records_of ls ts) ≡ ls
all_levels [] [] e = refl
all_levels [] (t ∷ ts) e = absurd (omega arith)
all_levels (l ∷ ls) [] e = absurd (omega arith)
all_levels (l ∷ ls) (t ∷ ts) e = ap (◌∷◌ l) (all_levels ls ts (omega arith))

record_at : (ls : List ℕ) (ts : List LookupTable) (i : ℕ) (r : Table) (z : LookupTable) → length ls ≡ length ts → i < length ts →
    get_or (records_of ls ts) i r ≡ record_of (get_or ls i 0) (get_or ts i z)
record_at [] [] i r z e h = absurd (omega arith)
record_at [] (t ∷ ts) i r z e h = absurd (omega arith)
record_at (l ∷ ls) [] i r z e h = absurd (omega arith)
record_at (l ∷ ls) (t ∷ ts) zero r z e h = refl
record_at (l ∷ ls) (t ∷ ts) (suc i) r z e h = record_at ls ts i r z (omega arith) (omega arith)

-- what holds of a table's record, whatever its level, holds of every record
pub every_record : (P : Table → Type 0) (ls : List ℕ) (ts : List LookupTable) → Every (λ t. (l : ℕ) → P (record_of l t)) ts → Every P (records_of ls ts)
every_record P [] ts h = every_none _
every_record P (l ∷ ls) [] h = every_none _
every_record P (l ∷ ls) (t ∷ ts) h = every_cons (every_head h l) (every_record P ls ts (every_tail h))

-- the records of tables that follow others: as many as the tables, whose tables they are, and whose levels they have
module _ (old new : List LookupTable) where
  levels_count : length (levels_after code_base old new) ≡ length new
  levels_count = levels_length code_base (code_levels code_base old) (length old) new

  pub after_back : map table_of (records_after old new) ≡ new
  after_back = all_back (levels_after code_base old new) new levels_count

  pub after_levels : map (λ r. r.level) (records_after old new) ≡ levels_after code_base old new
  after_levels = all_levels (levels_after code_base old new) new levels_count

  pub after_length : length (records_after old new) ≡ length new
  after_length = sym (length-map (records_after old new) table_of) ∙ ap length after_back

  pub after_at : (i : ℕ) (r : Table) (z : LookupTable) → i < length new →
      get_or (records_after old new) i r ≡ record_of (table_level (get_or new i z) (code_levels code_base (old ++ take i new))) (get_or new i z)
  after_at i r z h =
      record_at (levels_after code_base old new) new i r z levels_count h ∙ ap (λ l. record_of l (get_or new i z)) (levels_at code_base old new i z h)
