use Prim.Native.Nat.{◌<◌}
use mathlib.Core.Path.{◌≡◌}
use lib.ListN.{length}
use Rattle.lists.specs.Trusted.Lists.{Every}
use Rattle.search_test.proofs.Keys.{Light}
use Rattle.search_test.proofs.draw.Given as goal

abbrev pub invariant-loop-i : goal.invariant-loop-i
invariant-loop-i l = (l.state < 2147483648) × (length l.keys ≡ 10) × Every (Light 25) l.keys
