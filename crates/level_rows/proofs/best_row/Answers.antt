use native.Mathlib.Omega.{arith}
use lib.Bits.{and_self}
use Rattle.plan.specs.MaskLaws.{within_le, next_within, next_less}
use Rattle.level_rows.specs.Rows.{even_row}
use Rattle.level_rows.proofs.Lowering.{cell_first, cell_next, cell_last, own_most}
use Rattle.level_rows.proofs.best_row.Goals as goal

pub loop-u-init : goal.loop-u-init
loop-u-init c =
    let a = c.args in
    (and_self a.r, omega arith, λ w l. cell_first (even_row a.own w (omega arith)))

pub loop-u-smaller : goal.loop-u-smaller
loop-u-smaller c =
    next_less c.loop-u.u c.args.r (omega arith)

pub loop-u-preserved : goal.loop-u-preserved
loop-u-preserved c =
    let l = c.loop-u in
    let r = c.args.r in
    let n = next_within l.u r in
    (n, within_le _ r n, λ w h. cell_next (l.invariant.2 w h) (omega arith) l.invariant.0 (c.lowered-row.ensures w h))

pub returns : goal.returns
returns c w h =
    let a = c.args in
    cell_last (c.loop-u.invariant.2 w h) (omega arith) (own_most w a.own (omega arith))
