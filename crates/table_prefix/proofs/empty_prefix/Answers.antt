use mathlib.Core.Path.{refl}
use Rattle.table.specs.PrefixTest.{empty_prefix}
use Rattle.table_prefix.proofs.empty_prefix.Goals as goal

pub returns : goal.returns
unfolding empty_prefix
returns c = refl
