use Rattle.std.proofs.Common.{◌≡◌, length, drop}
use Rattle.table.specs.PrefixTest.{claim_all}
use Rattle.table_prefix.proofs.claim_all.Given as goal

abbrev pub invariant-loop-net : goal.invariant-loop-net
invariant-loop-net l = (length l.claimed ≡ length l.initial.claimed) × (claim_all l.initial.claimed l.net-items ≡ claim_all l.claimed (drop l.net-index l.net-items))
