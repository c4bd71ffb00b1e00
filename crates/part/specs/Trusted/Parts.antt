-- The records that a part has in use, and which tables they are; the number of tables left; and the part with another reservation.
-- Definitions only.
use Rattle.std.specs.Prelude.{ℕ, ◌-◌, ◌≡◌, List, map, length, take, replicate}
use Rattle.lists.specs.Trusted.Lists.{Every}
use Rattle.cover.specs.Trusted.Tables.{LookupTable}
use Rattle.table.specs.declared.Table.{Table}
use Rattle.table.specs.Trusted.Limits.{input_room, table_room}
use Rattle.table.specs.Trusted.Records.{table_of, blank}
use Rattle.part_records.specs.Trusted.Reservations.{unreserved}
use Rattle.part_records.specs.declared.Reservation.{Reservation}
use Rattle.part.specs.declared.Part.{Part}

-- as many records of zeros as a part has room for
unfoldable pub blanks : List Table
blanks = replicate table_room blank

-- the records in use: the first `used`
abbrev pub in_use : Part → List Table
in_use p = take p.used p.tables

abbrev pub tables_of : Part → List LookupTable
tables_of p = map table_of (in_use p)

-- THE NUMBER LEFT for a sheet: "what is neither used nor set aside" (02, #109)
abbrev pub available : Part → ℕ
available p = p.capacity - p.used - p.reservation.count

-- the part with this reservation in place of its own, and with none
abbrev pub with_reservation : Part → Reservation → Part
with_reservation p r = record { k = p.k; capacity = p.capacity; used = p.used; reservation = r; tables = p.tables }

abbrev pub released : Part → Part
released p = with_reservation p unreserved

-- what its type says of every part: it has 800 records, and each has six inputs
pub record Shaped (p : Part) : Type 0 where
  pub records : length p.tables ≡ table_room
  pub inputs : Every (λ r. length r.inputs ≡ input_room) p.tables
