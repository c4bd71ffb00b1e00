use Prim.Native.Nat.{◌+◌}
use native.Mathlib.Omega.{arith}
use mathlib.Core.Path.{◌≡◌, refl, sym, ap, ◌∙◌}
use lib.ListN.{get_or}
use Rattle.lists.specs.ListLaws.{get_d_any}
use Rattle.table.specs.Trusted.Records.{blank}
use Rattle.table.proofs.Shape.{past}
use Rattle.part.proofs.Shape.{shaped}
use Rattle.list_line.specs.Trusted.TableLine.{table_line}
use Rattle.list_line.specs.Trusted.Writes.{pasted}
use Rattle.list_line.specs.Line.{table_width}
use Rattle.listing.specs.Lines.{table_lines}
use Rattle.list_line.specs.PasteLaws.{paste_none, paste_next}
use Rattle.list_line.specs.FieldLaws.{table_length}
use Rattle.listing.proofs.LineLaws.{lines_next, lines_next_length, lines_more}
use Rattle.listing.proofs.put_tables.Goals as goal

pub loop-t-init : goal.loop-t-init
loop-t-init c =
    let t = c.well_formed.1.1.0.1.1.1.1.1.1.0 in
    let a = c.args in
    (omega arith, (shaped a.p t.0 t.1.0.1 t.1.1).records, refl, omega arith, sym (paste_none a.buf.now a.at))

pub offset_bounds-p-t : goal.offset_bounds-p-t
offset_bounds-p-t c = omega (arith, c.requires)

pub bounds-p-t : goal.bounds-p-t
bounds-p-t c = omega (arith, c.requires)

pub overflow_add-t : goal.overflow_add-t
overflow_add-t c = omega (arith, c.requires)

pub overflow_cast-t : goal.overflow_cast-t
overflow_cast-t c = omega (arith, c.requires)

pub put_table-requires : goal.put_table-requires
put_table-requires c =
    let a = c.args in
    let p = a.p in
    let l = c.loop-t in
    let e = ap table_width (get_d_any p.tables l.t past blank (omega (arith, c.requires))) in
    omega (arith, e, c.requires, lines_next_length p l.t, lines_more p (l.t + 1) p.used (omega arith))

pub overflow_add-place : goal.overflow_add-place
overflow_add-place c =
    let a = c.args in
    let p = a.p in
    let l = c.loop-t in
    let e = c.table_width-place.ensures.0 ∙ ap table_width (get_d_any p.tables l.t past blank (omega (arith, c.requires))) in
    omega (arith, e, c.requires, l.invariant.3, lines_next_length p l.t, lines_more p (l.t + 1) p.used (omega arith))

pub loop-t-preserved : goal.loop-t-preserved
loop-t-preserved c =
    let a = c.args in
    let p = a.p in
    let l = c.loop-t in
    let r = get_or p.tables l.t blank in
    let g = get_d_any p.tables l.t past blank (omega (arith, c.requires)) in
    let e = c.table_width-place.ensures.0 ∙ ap table_width g in (
      omega arith,
      l.invariant.1,
      c.put_table.auto.buf ∙ l.invariant.2,
      omega (arith, e, l.invariant.3, lines_next_length p l.t),
      paste_next a.buf.now l.buf c.put_table.new.buf a.at l.place (table_lines p l.t) (table_line (l.t + 1) r) l.invariant.4 l.invariant.3
          (omega (arith, c.requires, table_length (l.t + 1) r, lines_next_length p l.t, lines_more p (l.t + 1) p.used (omega arith)))
          (c.put_table.ensures ∙ ap (λ q. pasted l.buf l.place (table_line (l.t + 1) q)) g)
          ∙ ap (pasted a.buf.now a.at) (sym (lines_next p l.t)),
    )

pub shape_of-buf : goal.shape_of-buf
shape_of-buf c = c.loop-t.invariant.2

pub returns : goal.returns
returns c =
    let a = c.args in
    let l = c.loop-t in
    let e : l.t ≡ a.p.used = omega arith in
    l.invariant.4 ∙ ap (λ t. pasted a.buf.now a.at (table_lines a.p t)) e
