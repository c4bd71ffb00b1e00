use native.Mathlib.Omega.{arith}
use mathlib.Core.Path.{ap}
use native.Mathlib.Numerals.{add-one}
use Rattle.cover.specs.Trusted.Bits.{place}
use Rattle.pending.specs.MergeLaws.{slice_none, place_here, place_later}
use Rattle.rows.proofs.place.Goals as goal

pub loop-i-init : goal.loop-i-init
loop-i-init c = omega arith

pub returns-then-inputs-i : goal.returns-then-inputs-i
returns-then-inputs-i c =
    let a = c.args in
    let e = place_here a.code c.loop-i.i a.count a.inputs.now (omega arith) (omega arith) c.if-inputs-i.true in
    omega arith

pub loop-i-preserved : goal.loop-i-preserved
loop-i-preserved c =
    let a = c.args in
    let e = place_later a.code c.loop-i.i a.count a.inputs.now (omega arith) (omega arith) c.if-inputs-i.false in
    rw add-one (omega arith)

pub returns : goal.returns
returns c =
    let a = c.args in
    let e = ap (place a.code) (slice_none c.loop-i.i a.count a.inputs.now (omega arith)) in
    omega arith
