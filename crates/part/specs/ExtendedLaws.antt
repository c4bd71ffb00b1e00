-- A part with tables added: which records and tables it has.
use Rattle.std.specs.Prelude.{◌+◌, ◌≡◌, List, ◌++◌, map, length, drop}
use Rattle.std.proofs.Common.{arith, ap, ◌∙◌, length-append, take_at}
use Rattle.cover.specs.Trusted.Tables.{LookupTable}
use Rattle.table.specs.Trusted.Limits.{table_room}
use Rattle.table.specs.Trusted.Records.{table_of, records_after}
use Rattle.table.specs.RecordLaws.{after_back, after_length}
use Rattle.table.specs.RuleLaws.{map_append}
use Rattle.part.specs.Trusted.Parts.{in_use, tables_of}
use Rattle.part.specs.Trusted.Sound.{Sound}
use Rattle.part.specs.SoundLaws.{used_count}
use Rattle.part.specs.Trusted.Add.{extended}
use Rattle.part.specs.declared.Part.{Part}

module _ (p : Part) (room : length p.tables ≡ table_room) (h : Sound p) (new : List LookupTable) where
  pub front_length : length (in_use p ++ records_after (tables_of p) new) ≡ p.used + length new
  front_length = simp length-append (omega (arith, used_count p room h, after_length (tables_of p) new))

  pub extended_in_use : in_use (extended p new) ≡ in_use p ++ records_after (tables_of p) new
  extended_in_use = take_at (in_use p ++ records_after (tables_of p) new) (drop (p.used + length new) p.tables) (p.used + length new) front_length

  -- the new tables stand after the old ones
  pub extended_tables : tables_of (extended p new) ≡ tables_of p ++ new
  extended_tables =
      ap (map table_of) extended_in_use ∙ map_append table_of (in_use p) (records_after (tables_of p) new) ∙ ap (◌++◌ (tables_of p)) (after_back (tables_of p) new)
