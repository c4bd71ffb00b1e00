use Rattle.level_plans.proofs.Seeking.{seek_held}
use Rattle.level_plans.proofs.seek_back.Goals as goal

pub returns-else-e-before : goal.returns-else-e-before
returns-else-e-before c =
    seek_held c.requires c.entry_at-e.ensures.0 c.entry_at-before.ensures.0 c.if-e-before.false
