use native.Mathlib.Omega.{arith}
use Rattle.list_line.specs.PasteLaws.{paste_one}
use Rattle.list_numbers.proofs.put_number.Goals as goal

pub returns : goal.returns
returns c = paste_one c.args.numbers.now c.args.at c.args.n (omega arith)
