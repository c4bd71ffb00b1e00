use Rattle.tree.specs.Trusted.Tree.{turned}
use Rattle.cover.specs.Trusted.Bits.{bit}
use native.Mathlib.Omega.{arith}
use mathlib.Core.Path.{sym, ap, ◌∙◌}
use Rattle.pending.specs.MergeLaws.{bit_turned}
use Rattle.rows.proofs.turn.Goals as goal

pub returns-then-inverted : goal.returns-then-inverted
returns-then-inverted c =
    let w = c.args.w in
    record { bits = λ row l. bit_turned w row (omega arith) l ∙ sym (ap (λ i. turned i (bit w row)) c.if-inverted.true) }

pub returns-else-inverted : goal.returns-else-inverted
returns-else-inverted c =
    let w = c.args.w in
    record { bits = λ row l. sym (ap (λ i. turned i (bit w row)) c.if-inverted.false) }
