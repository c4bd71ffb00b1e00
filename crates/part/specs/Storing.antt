-- What an offer asks of a mapping and what it gives; and storing. Internal definitions: the laws are in StoringLaws.
use Rattle.std.specs.Prelude.{ℕ, ◌+◌, ◌≤◌, ◌<◌, ◌≡◌, List, length, get_or}
use Rattle.std.proofs.Math.Seq.{paste}
use Rattle.lists.specs.Trusted.Lists.{Every}
use Rattle.tree.specs.Trusted.Limits.{greatest_net}
use Rattle.cover.specs.Trusted.Tables.{LookupTable}
use Rattle.cover.specs.Trusted.CoverTables.{Circuit}
use Rattle.sheet.specs.declared.Sheet.{Sheet}
use Rattle.table.specs.declared.Table.{Table}
use Rattle.table.specs.Trusted.Records.{records_after}
use Rattle.table.specs.Trusted.Rules.{IsNet}
use Rattle.pending.specs.Pendings.{MergeKept}
use Rattle.mapper_laws.specs.CodeRun.{no_table}
use Rattle.mapper_laws.specs.CodeMap.{most_tables, tables_in}
use Rattle.part.specs.Trusted.Parts.{tables_of}
use Rattle.part.specs.Trusted.Ways.{Way, Chosen}
use Rattle.part.specs.Trusted.Answers.{Answer}
use Rattle.part.specs.Trusted.Add.{Offer}
use Rattle.mapper_laws.specs.declared.Mapping.{Mapping}
use Rattle.joined_mapper.specs.JoinedMap.{circuit_of}
use Rattle.part.specs.declared.Part.{Part}

-- the mapping's tables, and their records after those in use
abbrev pub new_tables : Mapping → List LookupTable
new_tables m = tables_in m.count m.tables

abbrev pub new_records : Part → Mapping → List Table
new_records p m = records_after (tables_of p) (new_tables m)

-- the part with them
abbrev pub stored : Part → Mapping → Part
stored p m = record { k = p.k; capacity = p.capacity; used = p.used + m.count; reservation = p.reservation; tables = paste p.tables p.used (new_records p m) m.count }

-- what is offered: an output net, and tables that a part can hold
pub record Storable (out : ℕ) (m : Mapping) : Type 0 where
  pub net : IsNet out
  pub room : length m.tables ≡ most_tables
  pub few : m.count ≤ most_tables
  pub kept : (i : ℕ) → i < m.count → MergeKept (get_or m.tables i no_table)
  pub drives : Every (λ t. t.drives ≤ greatest_net) (new_tables m)

-- THE PROMISE OF AN OFFER to the part p: of every sheet with that output net and every way in which its tables are chosen so after those of the
-- part, it is 21, 22 and 23 of an add
abbrev pub Offered : Part → ℕ → Mapping → Part → Answer → Type 0
Offered p out m q a = (w : Way) (s : Circuit) → s.out ≡ out → (length (tables_of p) ≡ p.used → Chosen w p s (new_tables m)) → Offer w p s q a

-- THE PROMISE OF MAPPING a sheet for the part p: its tables can be offered, and are chosen in the way after those of the part
pub record MappedBy (w : Way) (p : Part) (s : Sheet) (m : Mapping) : Type 0 where
  pub storable : Storable s.out m
  pub chosen : length (tables_of p) ≡ p.used → Chosen w p (circuit_of s) (new_tables m)
