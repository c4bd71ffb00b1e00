use native.Mathlib.Omega.{arith}
use Prim.Native.Nat.{◌≤◌}
use mathlib.Core.Path.{sym, ap, subst}
use Rattle.lists.specs.Trusted.Lists.{Every}
use Rattle.sheet.specs.Trusted.Limits.{most_gates}
use Rattle.sheet.specs.Trusted.Sheet.{gate_of}
use Rattle.gate_fanins.specs.Fanins.{place_in}
use Rattle.lists.specs.ListLaws.{every_head}
use Rattle.gate_fanins.proofs.place_of.Goals as goal
use Rattle.gate_fanins.proofs.place_of.Goals.{In-Gate}

-- the gate is in the array
inside : (c : In-Gate) → (1 ≤ c.in-Gate.g) × (c.in-Gate.g ≤ most_gates)
inside c = every_head (subst (λ s. Every (λ j. (1 ≤ j) × (j ≤ most_gates)) (gate_of s)) c.in-Gate.is c.requires)

pub overflow_sub-result : goal.overflow_sub-result
overflow_sub-result c = (inside c).0

pub returns-in-Gate : goal.returns-in-Gate
returns-in-Gate c = (ap place_in (sym c.in-Gate.is), omega (arith, (inside c).0, (inside c).1))
