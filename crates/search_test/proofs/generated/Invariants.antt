use Prim.Native.Nat.{◌<◌}
use Rattle.search_test.proofs.generated.Given as goal

abbrev pub invariant-loop : goal.invariant-loop
invariant-loop g l = l.state < 2147483648
