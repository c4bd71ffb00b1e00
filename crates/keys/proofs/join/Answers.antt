use native.Mathlib.Omega.{arith}
use Rattle.plan.specs.KeyLaws.{is_pack}
use Rattle.keys.proofs.join.Goals as goal

pub returns-then-width-k : goal.returns-then-width-k
returns-then-width-k c = is_pack _ _ _ _ _ (omega arith)

pub returns-then-narrow-k : goal.returns-then-narrow-k
returns-then-narrow-k c = is_pack _ _ _ _ _ (omega arith)

pub returns-else-narrow-k : goal.returns-else-narrow-k
returns-else-narrow-k c = is_pack _ _ _ _ _ (omega arith)
