use borrow.Author.Rules.{rules}
use Rattle.level_fans.specs.FanLaws.{greatest_fan_more}
use Rattle.level_fans.proofs.greatest_level.Goals as goal

pub loop-h-preserved : goal.loop-h-preserved
loop-h-preserved c = search (rules, greatest_fan_more)
