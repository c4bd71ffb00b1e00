use mathlib.Core.Path.{refl}
use Rattle.level_plans.proofs.Starting.{cleared}
use Rattle.level_plans.proofs.clear_first.Goals as goal

pub returns : goal.returns
returns c = cleared c.requires (c.fill.ensures.after (λ y e. e)) refl
