use native.Mathlib.Omega.{arith}
use Rattle.list_line.specs.PasteLaws.{paste_one}
use Rattle.list_line.proofs.put_line_feed.Goals as goal

pub returns : goal.returns
returns c = paste_one c.args.buf.now c.args.at 10 (omega arith)
