use native.Mathlib.Omega.{arith}
use mathlib.Core.Path.{◌≡◌, refl, sym, ap, ◌∙◌}
use lib.ListN.{length, get_or}
use Rattle.lists.specs.ListLaws.{get_d_any}
use Rattle.table.specs.Trusted.Records.{blank}
use Rattle.table.proofs.Shape.{past}
use Rattle.part.proofs.Shape.{shaped}
use Rattle.list_line.specs.Line.{table_width}
use Rattle.listing.specs.Lines.{table_lines}
use Rattle.listing.proofs.LineLaws.{lines_next_length}
use Rattle.listing.proofs.tables_width.Goals as goal

pub loop-t-init : goal.loop-t-init
loop-t-init c =
    let t = c.well_formed.0.1.1.1.1.1.1.0 in
    (omega arith, (shaped c.args.p t.0 t.1.0.1 t.1.1).records, refl, omega arith)

pub offset_bounds-p-t : goal.offset_bounds-p-t
offset_bounds-p-t c = omega (arith, c.requires)

pub bounds-p-t : goal.bounds-p-t
bounds-p-t c = omega (arith, c.requires)

pub overflow_add-width : goal.overflow_add-width
overflow_add-width c = omega (arith, c.requires, c.table_width-width.ensures.1, c.loop-t.invariant.3)

pub loop-t-preserved : goal.loop-t-preserved
loop-t-preserved c =
    let p = c.args.p in
    let l = c.loop-t in
    let w = c.table_width-width in
    let e : w.result ≡ table_width (get_or p.tables l.t blank) =
    w.ensures.0 ∙ ap table_width (get_d_any p.tables l.t past blank (omega (arith, c.requires))) in
    (omega arith, l.invariant.1, sym (lines_next_length p l.t ∙ (omega (arith, e, l.invariant.2))), omega (arith, w.ensures.1, l.invariant.3))

pub returns : goal.returns
returns c =
    let p = c.args.p in
    let l = c.loop-t in
    let e : l.t ≡ p.used = omega arith in
    (l.invariant.2 ∙ ap (λ t. length (table_lines p t)) e, omega (arith, c.requires))
