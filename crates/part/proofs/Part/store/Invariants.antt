use Prim.Native.Nat.{ℕ}
use mathlib.Core.Path.{◌≡◌}
use mathlib.Core.List.{List, ◌++◌}
use lib.ListN.{length, take}
use lib.Seq.{paste}
use Rattle.table.specs.declared.Table.{Table}
use Rattle.table.specs.LevelTest.{LevelsStand}
use Rattle.mapper_laws.specs.declared.Mapping.{Mapping}
use Rattle.part.specs.Trusted.Parts.{tables_of}
use Rattle.part.specs.Storing.{new_tables, new_records}
use Rattle.part.specs.declared.Part.{Part}
use Rattle.part.proofs.Part.store.Given as goal

-- the part with other records, and with the mapping's first n after those in use
abbrev pub holding : Part → List Table → Part
holding p rs = record { k = p.k; capacity = p.capacity; used = p.used; reservation = p.reservation; tables = rs }

abbrev pub records_pasted : Part → Mapping → ℕ → List Table
records_pasted p m n = paste p.tables p.used (new_records p m) n

abbrev pub invariant-loop-n : goal.invariant-loop-n
invariant-loop-n l =
    (l.self ≡ holding l.initial.self (records_pasted l.initial.self l.mapping l.n)) × LevelsStand l.levels (tables_of l.initial.self ++ take l.n (new_tables l.mapping))
    × (length l.levels ≡ length l.initial.levels)
