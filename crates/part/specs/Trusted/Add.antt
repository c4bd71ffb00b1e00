-- Opening a part, and what an add promises: 01, "Turned down because of the part", in its order.
-- Definitions only.
use Rattle.std.specs.Prelude.{ℕ, ◌+◌, ◌≡◌, Bool, cond, List, ◌++◌, leb, eqb, length, drop}
use Rattle.lists.specs.Trusted.Tests.{any, elem, within, either}
use Rattle.lists.specs.Trusted.Checked.{Checked, passed, refused as unread}
use Rattle.cover.specs.Trusted.Tables.{LookupTable}
use Rattle.cover.specs.Trusted.CoverTables.{Circuit}
use Rattle.table.specs.Trusted.Limits.{input_room, table_room}
use Rattle.table.specs.Trusted.Records.{records_after}
use Rattle.part.specs.Trusted.Parts.{in_use, tables_of, available}
use Rattle.part.specs.Trusted.SoundTest.{sound}
use Rattle.part.specs.Trusted.Ways.{Way, reading, NumberBy, Chosen}
use Rattle.part.specs.Trusted.Answers.{Answer, accepted, refused, Result, empty}
use Rattle.part.specs.declared.Part.{Part}

-- ---- opening

-- the answer of an opening, and its part: all zeros where it is turned down
abbrev pub opened : ℕ → ℕ → Result
opened k capacity =
    cond (within 2 input_room k)
    (cond (within 1 table_room capacity)
    (record { part = empty k capacity; answer = accepted })
    (record { part = empty 0 0; answer = refused 3 0 }))
    (record { part = empty 0 0; answer = refused 2 0 })

-- ---- adding

-- the part with the tables added after the old ones, each with its level in the whole list, and everything else as it was
abbrev pub extended : Part → List LookupTable → Part
extended p new = record {
  k = p.k;
  capacity = p.capacity;
  used = p.used + length new;
  reservation = p.reservation;
  tables = in_use p ++ records_after (tables_of p) new ++ drop (p.used + length new) p.tables;
}

-- some table drives the net; some table reads it
abbrev pub is_driven : ℕ → List LookupTable → Bool
is_driven n = any (λ t. eqb t.drives n)

abbrev pub net_read : ℕ → List LookupTable → Bool
net_read n = any (λ t. elem n t.inputs)

-- turned down: the part is handed back as it was, with the number and the place
abbrev pub Refused : Part → ℕ → ℕ → Part → Answer → Type 0
Refused p number place q a = (q ≡ p) × (a ≡ refused number place)

-- taken: the tables of some cover that the way allows, in some order, after the old ones
pub record Accepted (w : Way) (p : Part) (s : Circuit) (q : Part) (a : Answer) : Type 0 where
  pub new : List LookupTable
  pub chosen : Chosen w p s new
  pub part : q ≡ extended p new
  pub answer : a ≡ accepted

-- 23, of a sheet whose number is n
abbrev pub Fill : Way → Part → Circuit → ℕ → Part → Answer → Type 0
Fill w p s n q a = either (leb n (available p)) (Accepted w p s q a) (Refused p 23 0 q a)

-- 21 and 22
abbrev pub Offer : Way → Part → Circuit → Part → Answer → Type 0
Offer w p s q a =
    either (is_driven s.out (tables_of p)) (Refused p 21 0 q a)
    (either (net_read s.out (tables_of p)) (Refused p 22 0 q a)
    ((n : ℕ) × NumberBy w p s n × Fill w p s n q a))

-- the sheet's own refusals
abbrev pub Take : Way → Part → Checked Circuit → Part → Answer → Type 0
Take w p (passed s) q a = Offer w p s q a
Take w p (unread number place) q a = Refused p number place q a

-- THE PROMISE OF AN ADD to the part p, of the sheet that is read from the text, its tables chosen in the way w: q is handed back, with
-- the answer a
unfoldable pub Add : Way → Part → List ℕ → Part → Answer → Type 0
Add w p text q a = either (sound p) (Take w p (reading w text) q a) (Refused p 20 0 q a)
