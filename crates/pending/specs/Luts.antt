-- How a table that is in no part yet reads as a lookup table: as its record will, but for the level.
-- Internal definitions: the law is in LutLaws.
use Rattle.std.specs.Prelude.{ℕ, ◌-◌, List, ◌++◌, length, take, replicate}
use Rattle.cover.specs.Trusted.Tables.{LookupTable}
use Rattle.table.specs.Trusted.Limits.{input_room}
use Rattle.pending.specs.declared.Lut.{Lut}

-- the inputs in use
abbrev pub lut_reads : Lut → List ℕ
lut_reads r = take r.count r.inputs

abbrev pub lut_table : Lut → LookupTable
lut_table r = record { drives = r.net; inputs = lut_reads r; truth = r.truth }

-- of a table, its unused inputs zero
abbrev pub lut_of : LookupTable → Lut
lut_of t = record {
  net = t.drives;
  count = length t.inputs;
  inputs = t.inputs ++ replicate (input_room - length t.inputs) 0;
  truth = t.truth;
}

abbrev pub zero_lut : Lut
zero_lut = record { net = 0; count = 0; inputs = replicate input_room 0; truth = 0 }
