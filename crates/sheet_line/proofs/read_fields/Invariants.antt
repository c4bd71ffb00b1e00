-- The fields of the line are the numbers read, and then those of the bytes left.
use Rattle.sheet_line.proofs.FieldLaws.{SoFar}
use Rattle.sheet_line.proofs.read_fields.Given as goal

abbrev pub invariant-loop-i : goal.invariant-loop-i
invariant-loop-i l = SoFar l.line l.numbers l.i
