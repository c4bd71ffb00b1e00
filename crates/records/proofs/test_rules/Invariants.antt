use Rattle.std.proofs.Common.{◌≡◌, take, drop, []}
use Rattle.table.specs.Trusted.RecordTest.{walk}
use Rattle.table.specs.LevelTest.{PrefixKept}
use Rattle.records.proofs.test_rules.Given as goal

abbrev pub invariant-loop-at : goal.invariant-loop-at
invariant-loop-at l = record {
  kept : PrefixKept l.prefix l.levels (take l.at l.run);
  rest : walk l.k l.capacity [] l.run ≡ walk l.k l.capacity (take l.at l.run) (drop l.at l.run);
}
