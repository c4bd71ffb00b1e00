-- READING A LIST BACK: 02, #101, in its order, #103: the reader works the levels out, and #109: "A list shows no hold; read back, none is
-- open". Lines are counted from 0. Definitions only.
use Rattle.std.specs.Prelude.{ℕ, zero, suc, Bool, true, false, List, [], ◌∷◌, ◌++◌, leb, length, drop}
use Rattle.lists.specs.Trusted.Checked.{Checked, passed, refused, ◌>>=◌, require, given}
use Rattle.lists.specs.Trusted.Tests.{within}
use Rattle.table.specs.Trusted.Limits.{input_room, table_room}
use Rattle.table.specs.Trusted.Records.{levelled}
use Rattle.table.specs.Trusted.RecordTest.{keeps}
use Rattle.table.specs.declared.Table.{Table}
use Rattle.list_layout.specs.Trusted.Layout.{take_top, take_table}
use Rattle.part_records.specs.Trusted.Reservations.{unreserved}
use Rattle.part.specs.Trusted.Parts.{blanks}
use Rattle.part.specs.Trusted.Answers.{Result, empty, accepted, refused as turned_away}
use Rattle.part.specs.declared.Part.{Part}

-- the lines of n tables after those of the records before: on each 31, and last 32, where the record, with the level that it has there,
-- breaks a rule after those before it
abbrev pub read_tables : ℕ → ℕ → List Table → List ℕ → Checked (List Table × List ℕ)
read_tables k zero before text = passed (before, text)
read_tables k (suc n) before text = do
  (r, rest) ← given (take_table (suc (length before)) text) 31 (suc (length before))
  _ ← require (keeps k before (levelled before r)) 32 (suc (length before))
  read_tables k n (before ++ levelled before r ∷ []) rest

abbrev pub is_nil : List ℕ → Bool
is_nil [] = true
is_nil (b ∷ bs) = false

-- line 0: 31, then 2 and 3, then 32 for the used count; the tables' lines; and what is left over after them
unfoldable pub read_list : List ℕ → Checked Part
read_list text = do
  (k, capacity, used, more) ← given (take_top text) 31 0
  _ ← require (within 2 input_room k) 2 0
  _ ← require (within 1 table_room capacity) 3 0
  _ ← require (leb used capacity) 32 0
  (tables, left) ← read_tables k used [] more
  _ ← require (is_nil left) 31 (suc used)
  passed (record { k = k; capacity = capacity; used = used; reservation = unreserved; tables = tables ++ drop used blanks })

-- what a reading hands back: the part, or a part of all zeros
abbrev pub read_result : Checked Part → Result
read_result (passed p) = record { part = p; answer = accepted }
read_result (refused number place) = record { part = empty 0 0; answer = turned_away number place }
