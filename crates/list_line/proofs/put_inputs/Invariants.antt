use Rattle.std.proofs.Common.{◌≡◌, length, take}
use Rattle.decimal.specs.Trusted.Columns.{fields_of}
use Rattle.list_line.specs.Trusted.Writes.{pasted}
use Rattle.list_line.proofs.put_inputs.Given as goal

abbrev pub invariant-loop-i : goal.invariant-loop-i
invariant-loop-i l = (length l.buf ≡ length l.initial.buf) × (l.buf ≡ pasted l.initial.buf l.at (fields_of (take l.i l.inputs)))
