use Prim.Native.Nat.{◌≤◌}
use native.Mathlib.Omega.{arith}
use mathlib.Core.Path.{◌≡◌, ap, ◌∙◌}
use lib.ListN.{take}
use Rattle.table.specs.Trusted.Limits.{input_room}
use Rattle.pending.specs.Merging.{padded, column_of, columns_of}
use Rattle.pending.specs.MergeLaws.{place_low, column_is, columns_none, columns_next}
use Rattle.rows.proofs.columns.Goals as goal
use Rattle.rows.proofs.columns.Goals.{After-place-p}

pub loop-i-init : goal.loop-i-init
loop-i-init c = columns_none (take c.args.count c.args.inputs.now)

pub place-p-requires : goal.place-p-requires
place-p-requires c = c.requires.1

-- a place is an index of the table
place_fits : (c : After-place-p) → c.place-p.result ≤ input_room
place_fits c =
    let a = c.args in
    rw c.place-p.ensures (place_low _ a.count a.inputs.now c.requires.1.fits)

pub offset_bounds-table-p : goal.offset_bounds-table-p
offset_bounds-table-p c = omega (arith, place_fits c)

pub bounds-table-p : goal.bounds-table-p
bounds-table-p c = omega (arith, place_fits c)

pub loop-i-preserved : goal.loop-i-preserved
loop-i-preserved c =
    let a = c.args in
    columns_next a.codes.now (take a.count a.inputs.now) c.loop-i.out c.loop-i.i _ (omega arith) (omega arith) c.loop-i.invariant (column_is c.place-p.result (place_fits c) ∙ ap column_of c.place-p.ensures)

pub returns : goal.returns
returns c =
    let a = c.args in
    let e : c.loop-i.i ≡ a.n = omega arith in
    c.loop-i.invariant ∙ ap (λ i. padded (columns_of (take i a.codes.now) (take a.count a.inputs.now))) e
