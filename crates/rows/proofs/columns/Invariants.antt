use mathlib.Core.Path.{◌≡◌}
use lib.ListN.{take}
use Rattle.pending.specs.Merging.{padded, columns_of}
use Rattle.rows.proofs.columns.Given as goal

abbrev pub invariant-loop-i : goal.invariant-loop-i
invariant-loop-i l = l.out ≡ padded (columns_of (take l.i l.codes) (take l.count l.inputs))
