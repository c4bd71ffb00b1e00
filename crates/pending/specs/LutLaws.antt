-- A table is read back off what the code holds of it.
use Rattle.std.specs.Prelude.{◌-◌, ◌≡◌, length, replicate}
use Rattle.std.proofs.Common.{ap}
use Rattle.std.proofs.Math.Seq.{take-append_seam}
use Rattle.cover.specs.Trusted.Tables.{LookupTable}
use Rattle.table.specs.Trusted.Limits.{input_room}
use Rattle.pending.specs.Luts.{lut_table, lut_of}

pub lut_back : (t : LookupTable) → lut_table (lut_of t) ≡ t
lut_back t = ap (λ xs. record { drives = t.drives; inputs = xs; truth = t.truth }) (take-append_seam t.inputs (replicate (input_room - length t.inputs) 0))
