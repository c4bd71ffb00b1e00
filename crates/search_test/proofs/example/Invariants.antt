use mathlib.Core.Path.{◌≡◌}
use lib.ListN.{length}
use Rattle.lists.specs.Trusted.Lists.{Every}
use Rattle.search_test.proofs.Keys.{Light}
use Rattle.search_test.proofs.example.Given as goal

abbrev pub invariant-loop-i : goal.invariant-loop-i
invariant-loop-i g l = (length l.keys ≡ 10) × Every (Light 25) l.keys
