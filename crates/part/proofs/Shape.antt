-- Every part that a function is handed has 800 records of six inputs each: its type says so.
-- A function's proof has it, with p for its parameter: let t = c.well_formed.0.1.1.1.1.1.1.0 in shaped p t.0 t.1.0.1 t.1.1
use mathlib.Core.Path.{◌≡◌}
use mathlib.Core.List.{List, [], ◌∷◌}
use lib.ListN.{length}
use mir.Val.{Val}
use denote.Array.{each}
use denote.Shadow.{shadow}
use Rattle.lists.specs.Trusted.Lists.{Every}
use Rattle.lists.specs.ListLaws.{every_none, every_cons}
use Rattle.table.specs.declared.Table.{Table}
use Rattle.part.specs.declared.Part.{Part}
use Rattle.table.specs.Trusted.Limits.{input_room, table_room}
use Rattle.part.specs.Trusted.Parts.{Shaped}
use Rattle.table.specs.contracts.Table.{the_row}

-- the records are owned, one by one
abbrev pub Owned : List Table → List Val → Type 0
Owned rs us = shadow (each the_row.Denot the_row.own_val rs us)

each_shaped : (rs : List Table) (us : List Val) → Owned rs us → Every (λ r. length r.inputs ≡ input_room) rs
each_shaped [] us h = every_none _
each_shaped (r ∷ rs) [] h = absurd h
each_shaped (r ∷ rs) (u ∷ us) h =
    every_cons h.0.1.1.1.1.0.1.0.1 (each_shaped rs us h.1)

pub shaped : (p : Part) (us : List Val) → length p.tables ≡ table_room → Owned p.tables us → Shaped p
shaped p us l h = record { records = l; inputs = each_shaped p.tables us h }
