-- The code's pending tables as operands of a plan's run. Internal definitions.
use Rattle.std.specs.Prelude.{◌+◌, ◌≤◌, ◌≡◌}
use Rattle.lists.specs.Sequences.{Sorted}
use Rattle.pending.specs.declared.Lut.{Lut}
use Rattle.table.specs.Trusted.Limits.{input_room}
use Rattle.pending.specs.Luts.{lut_reads, lut_table, lut_of}
use Rattle.pending.specs.declared.Pending.{Pending}
use Rattle.pending.specs.Operands.{Operand}

abbrev pub operand_of : Pending → Operand
operand_of x = record { inverted = x.inverted; table = lut_table x.table }

-- the record is that of its table: its unused inputs are zero, and it has no more inputs than there is room for
pub record MergeKept (r : Lut) : Type 0 where
  pub fits : r.count ≤ input_room
  pub padded : r ≡ lut_of (lut_table r)

-- and its inputs are in order
pub record Neat (r : Lut) : Type 0 where
  pub kept : MergeKept r
  pub sorted : Sorted (lut_reads r)

-- two pending tables that fit into one
pub record Mergeable (x y : Pending) : Type 0 where
  pub fits : x.table.count + y.table.count ≤ input_room
  pub kept : MergeKept y.table
  pub sorted : Sorted (lut_reads y.table)
