use Prim.Native.Nat.{◌+◌}
use native.Mathlib.Omega.{arith}
use mathlib.Core.Path.{ap, ◌∙◌}
use lib.ListN.{length-set}
use Rattle.decimal.specs.Trusted.Writing.{signed_written_at}
use Rattle.slacks.proofs.Slacks.{slack_held, slack_number, slack_line_lem}
use Rattle.slacks.proofs.put_slack.Goals as goal

pub overflow_sub-slack : goal.overflow_sub-slack
overflow_sub-slack c = slack_held c.args.wanted c.args.level (omega arith) (omega arith)

pub shape_of-buf : goal.shape_of-buf
shape_of-buf c =
    length-set c.write_signed_at.new.buf (c.args.at + 12) 10 ∙ c.write_signed_at.auto.buf ∙ c.write_at.auto.buf

pub returns : goal.returns
returns c =
    let a = c.args in
    slack_line_lem a.buf.now a.at a.wanted a.net a.level c.requires (omega arith) (omega arith) (omega arith)
    c.write_at.new.buf c.write_signed_at.new.buf c.write_at.ensures
    (c.write_signed_at.ensures ∙ ap (signed_written_at c.write_at.new.buf (a.at + 6) 6) (slack_number a.wanted a.level (omega arith) (omega arith)))
