use native.Mathlib.Omega.{arith}
use mathlib.Core.Path.{sym, ◌∙◌}
use Rattle.sheet_gates.proofs.UnreadLaws.{passed_more, passed_first}
use Rattle.sheet_gates.proofs.first_unread.Goals as goal

pub returns-then-not-flag : goal.returns-then-not-flag
returns-then-not-flag c =
    passed_first c.loop-g.invariant (omega arith) (omega (arith, c.ranges)) (sym c.flag.ensures ∙ c.if-not-flag.true)

pub loop-g-preserved : goal.loop-g-preserved
loop-g-preserved c =
    passed_more c.loop-g.invariant (omega arith) (omega (arith, c.ranges)) (sym c.flag.ensures ∙ c.if-not-flag.false)
