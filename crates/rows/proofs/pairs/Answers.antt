use native.Mathlib.Omega.{arith}
use mathlib.Core.Path.{◌≡◌}
use Rattle.pending.specs.MergeLaws.{words_none, words_next, pair_bit}
use Rattle.rows.proofs.pairs.Goals as goal

pub loop-j-init : goal.loop-j-init
loop-j-init c = words_none c.requires.1

pub loop-j-preserved : goal.loop-j-preserved
loop-j-preserved c =
    let a = c.args in
    words_next (omega arith) c.loop-j.invariant (record { bits = λ row r. pair_bit a.truth c.loop-j.j a.column row (omega arith) r })

pub returns : goal.returns
returns c =
    let e : c.loop-j.j ≡ c.args.size = omega arith in
    rw e at c.loop-j.invariant
