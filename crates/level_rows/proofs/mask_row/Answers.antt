use native.Mathlib.Omega.{arith}
use mathlib.Core.Logic.{inl, inr}
use Rattle.level_rows.proofs.mask_row.Goals as goal

pub returns-then-t-top : goal.returns-then-t-top
returns-then-t-top c = inl (c.if-t-top.true, λ w l. c.row_at.ensures w (omega (arith, c.requires.0)))

pub best_row-requires : goal.best_row-requires
best_row-requires c = c.requires

pub returns : goal.returns
returns c = inr c.best_row.ensures
