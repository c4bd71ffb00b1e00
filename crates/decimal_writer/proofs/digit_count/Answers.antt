use Rattle.decimal_writer.proofs.WriteLaws.{count_from_log}
use Rattle.decimal_writer.proofs.digit_count.Goals as goal

pub returns : goal.returns
returns c = count_from_log c.args.n c.max.result c.ilog10.result c.max.ensures c.ilog10.ensures.power_le c.ilog10.ensures.next_power_gt
