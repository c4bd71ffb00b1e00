use Rattle.std.proofs.Common.{arith, ◌<◌, ◌^◌}
use Rattle.decimal_reader.proofs.NumberLaws.{below_short}
use Rattle.decimal_reader.proofs.digits.Goals as goal
use Rattle.decimal_reader.proofs.digits.Goals.{In-loop-b}

-- the number so far, in a turn
small : (c : In-loop-b) → c.loop-b.n < 10 ^ 18
small c = below_short c.loop-b.n c.loop-b.b-index c.loop-b.invariant.0 (omega arith)

pub overflow_mul-n : goal.overflow_mul-n
overflow_mul-n c = omega (arith, small (goal.at.overflow_mul-n c).In-loop-b)

pub overflow_add-n : goal.overflow_add-n
overflow_add-n c = omega (arith, small (goal.at.overflow_add-n c).In-loop-b, c.in_ok-n.ensures.value.0)
