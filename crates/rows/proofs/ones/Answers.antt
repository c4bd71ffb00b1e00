use native.Mathlib.Omega.{arith}
use Rattle.pending.specs.MergeLaws.{rows_low, rows_some, ones_are}
use Rattle.rows.proofs.ones.Goals as goal

pub overflow_sub-result : goal.overflow_sub-result
overflow_sub-result c = rows_low _ c.requires

pub overflow_shr-result : goal.overflow_shr-result
overflow_shr-result c = omega (arith, rows_some c.args.n c.requires)

pub returns : goal.returns
returns c = ones_are c.args.n c.requires
