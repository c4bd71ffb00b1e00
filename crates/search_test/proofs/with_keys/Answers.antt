use Rattle.search_test.proofs.Keys.{two_few}
use Rattle.search_test.proofs.with_keys.Goals as goal

pub best_plan-requires : goal.best_plan-requires
best_plan-requires g c = let a = c.args in two_few a.a a.b c.leaf-keys.result a.count c.leaf-keys.ensures c.requires
