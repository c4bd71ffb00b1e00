use native.Mathlib.Omega.{arith}
use mathlib.Core.Path.{◌∙◌}
use Rattle.sheet_line.proofs.LineLaws.{line_more}
use Rattle.sheet_line.proofs.line_end.Goals as goal

pub loop-i-preserved : goal.loop-i-preserved
loop-i-preserved c =
    let a = c.args in
    let l = c.loop-i in
    (omega arith, l.invariant.1 ∙ line_more a.text.now a.start l.i l.invariant.0 (omega arith) c.if-text-i-eq10.false)
