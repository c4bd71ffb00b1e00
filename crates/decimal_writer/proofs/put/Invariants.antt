use Rattle.std.proofs.Common.{◌≡◌, ◌-◌, ◌/◌, ◌^◌, drop}
use Rattle.decimal.specs.Trusted.Columns.{field_of}
use Rattle.decimal_writer.proofs.put.Given as goal

abbrev pub invariant-loop-right : goal.invariant-loop-right
invariant-loop-right l = (l.left ≡ l.n / 10 ^ l.right) × (drop (l.width - l.right) l.dst ≡ field_of l.right l.n)
