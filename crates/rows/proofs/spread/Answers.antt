use lib.Pow.{pow_mono}
use Prim.Native.Nat.{◌-◌}
use native.Mathlib.Omega.{arith}
use Rattle.pending.specs.MergeLaws.{level_first, level_next, level_last, rows_low, rows_are}
use Rattle.rows.proofs.spread.Goals as goal

pub overflow_add-n : goal.overflow_add-n
overflow_add-n c = omega (arith, rows_low c.args.n c.requires.fits)

pub pairs-requires : goal.pairs-requires
pairs-requires c = omega (arith, rows_low c.args.n c.requires.fits)

pub loop-i-init : goal.loop-i-init
loop-i-init c =
    let a = c.args in
    (omega arith, level_first a.truth a.n a.columns.now c.requires c.pairs.ensures)

pub bounds-columns-i : goal.bounds-columns-i
bounds-columns-i c = omega (arith, c.requires.fits)

pub fold-requires : goal.fold-requires
fold-requires c =
    let n = c.args.n - c.loop-i.i - 1 in
    omega (arith, rows_are n (omega (arith, c.requires.fits)), pow_mono {i = n} {j = 4} (omega (arith, c.requires.fits)))

pub loop-i-preserved : goal.loop-i-preserved
loop-i-preserved c =
    let a = c.args in
    (omega arith, level_next a.truth a.n a.columns.now c.requires c.loop-i.i (omega arith) c.loop-i.invariant.1 c.fold.ensures)

pub returns : goal.returns
returns c =
    let a = c.args in
    level_last a.truth a.n a.columns.now c.requires c.loop-i.i (omega arith) (omega arith) (omega arith) c.loop-i.invariant.1
