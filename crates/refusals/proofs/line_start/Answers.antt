-- The line starts where no lines are left to pass, or at the text's end.
use Rattle.std.proofs.Common.{sym, ap, ◌∙◌, drop, arith}
use Rattle.refusals.specs.Lines.{after_lines}
use Rattle.refusals.specs.LineLaws.{after_none}
use Rattle.refusals.proofs.line_start.Goals as goal

pub returns-then-left-eq0 : goal.returns-then-left-eq0
returns-then-left-eq0 c =
    let rest = drop c.loop-i.i c.args.text.now in
    (omega arith, sym (c.loop-i.invariant ∙ ap (λ n. after_lines n rest) c.if-left-eq0.true ∙ after_none rest))
