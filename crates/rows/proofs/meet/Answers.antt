use Rattle.tree.specs.Trusted.Tree.{meet}
use Rattle.cover.specs.Trusted.Bits.{bit}
use mathlib.Core.Path.{sym, ap, ◌∙◌}
use Rattle.cover.specs.BitLaws.{bit_and_lem, bit_or_lem}
use Rattle.rows.proofs.meet.Goals as goal

pub returns-in-And : goal.returns-in-And
returns-in-And c =
    let a = c.args in
    record { bits = λ row l. bit_and_lem a.a a.b row ∙ ap (λ k. meet k (bit a.a row) (bit a.b row)) (sym c.in-And.is) }

pub returns-in-Or : goal.returns-in-Or
returns-in-Or c =
    let a = c.args in
    record { bits = λ row l. bit_or_lem a.a a.b row ∙ ap (λ k. meet k (bit a.a row) (bit a.b row)) (sym c.in-Or.is) }
