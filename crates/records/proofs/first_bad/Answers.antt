use Rattle.std.proofs.Common.{refl}
use Rattle.table.specs.LevelTest.{no_levels}
use Rattle.records.proofs.first_bad.Goals as goal

pub test_rules-requires-clause-zeros : goal.test_rules-requires-clause-zeros
unfolding no_levels
test_rules-requires-clause-zeros c = refl
