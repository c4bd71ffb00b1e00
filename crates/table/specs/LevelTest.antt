-- The level of a record by an array that holds a level for each code, in place of the records before it.
-- Internal definitions: LevelTestLaws has the proof that the two say the same.
use Rattle.std.specs.Prelude.{ℕ, suc, ◌+◌, ◌≤◌, ◌≡◌, Bool, cond, List, map, eqb, length, get_or, set, replicate}
use Rattle.tree.specs.Trusted.Limits.{code_base}
use Rattle.cover.specs.Trusted.Tables.{LookupTable, greatest, code_levels}
use Rattle.table.specs.Trusted.Limits.{table_room}
use Rattle.table.specs.Trusted.Records.{reads, table_of}
use Rattle.table.specs.PrefixTest.{Stands}
use Rattle.table.specs.declared.Table.{Table}
use Rattle.table.specs.declared.Prefix.{Prefix}

-- the codes of nets and of tables
abbrev pub code_room : ℕ
code_room = code_base + table_room + 1

-- a level for each code, all of them 0
unfoldable pub no_levels : List ℕ
no_levels = replicate code_room 0

-- the level of a table that reads these codes
abbrev pub level_in : List ℕ → List ℕ → ℕ
level_in levels inputs = suc (greatest (map (λ c. get_or levels c 0) inputs))

-- the levels, with this one at the net, if any
abbrev pub drive_noted : List ℕ → ℕ → ℕ → List ℕ
drive_noted levels net level = cond (eqb net 0) levels (set levels net level)

-- the levels, with that of table `at`, counted from 0: at its own code, and at the net that it drives
abbrev pub noted : List ℕ → ℕ → ℕ → ℕ → List ℕ
noted levels at net level = drive_noted (set levels (code_base + at + 1) level) net level

-- the levels, with the one that table `at` has by them, where it drives the net and reads these codes
abbrev pub noted_next : List ℕ → ℕ → ℕ → List ℕ → List ℕ
noted_next levels at net inputs = noted levels at net (level_in levels inputs)

-- the record's level is the one that it has by them
abbrev pub is_levelled_in : List ℕ → Table → Bool
is_levelled_in levels r = eqb (level_in levels (reads r)) r.level

-- the array has the level of each code after the tables
pub record LevelsStand (levels : List ℕ) (ts : List LookupTable) : Type 0 where
  pub room : length ts ≤ table_room
  pub places : length levels ≡ code_room
  pub same : (c : ℕ) → get_or levels c 0 ≡ code_levels code_base ts c

-- both, of records: what 01's points need to know of them, and the levels
pub record PrefixKept (s : Prefix) (levels : List ℕ) (before : List Table) : Type 0 where
  pub points : Stands s before
  pub by_code : LevelsStand levels (map table_of before)
