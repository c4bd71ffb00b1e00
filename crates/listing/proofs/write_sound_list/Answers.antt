use native.Mathlib.Omega.{arith}
use Prim.Native.Nat.{◌+◌, ◌≤◌}
use mathlib.Core.Path.{◌≡◌, refl, sym, ap, ap₂, ◌∙◌}
use mathlib.Core.List.{◌++◌}
use borrow.Author.Tests.{leb-true}
use lib.Dec.{leb}
use lib.ListN.{length, length-append}
use Rattle.lists.specs.Trusted.Checked.{passed}
use Rattle.list_line.specs.Line.{top_line}
use Rattle.listing.specs.Lines.{table_lines}
use Rattle.list_line.specs.PasteLaws.{paste_next}
use Rattle.listing.proofs.LineLaws.{fitted_out, fitted_in, list_is, list_there, used_room}
use Rattle.listing.proofs.write_sound_list.Goals as goal

pub tables_width-width-requires : goal.tables_width-width-requires
tables_width-width-requires c = used_room c.args.p c.requires

pub returns-then-not-has_room : goal.returns-then-not-has_room
returns-then-not-has_room c =
    let a = c.args in
    let p = a.p in
    let old = a.buf.now in
    let new = top_line p.k p.capacity p.used ++ table_lines p p.used in
    let w : length new ≡ 19 + c.tables_width-width.result = omega (arith, length-append (top_line p.k p.capacity p.used) (table_lines p p.used), c.tables_width-width.ensures.0) in
    sym (list_there p old a.at c.requires
    ∙ fitted_out old a.at (list_is p) (ap (λ n. leb (a.at + n) (length old)) w ∙ sym c.has_room.ensures ∙ c.if-not-has_room.true))

pub put_top-requires : goal.put_top-requires
put_top-requires c =
    let a = c.args in
    omega (arith, leb-true (a.at + (19 + c.tables_width-width.result)) (length a.buf.now) (sym c.has_room.ensures ∙ c.if-not-has_room.false))

pub overflow_add-at : goal.overflow_add-at
overflow_add-at c =
    let a = c.args in
    omega (arith, leb-true (a.at + (19 + c.tables_width-width.result)) (length a.buf.now) (sym c.has_room.ensures ∙ c.if-not-has_room.false))

pub put_tables-requires : goal.put_tables-requires
put_tables-requires c =
    let a = c.args in (
      used_room a.p c.requires,
      omega (arith, leb-true (a.at + (19 + c.tables_width-width.result)) (length a.buf.now) (sym c.has_room.ensures ∙ c.if-not-has_room.false), c.tables_width-width.ensures.0, c.put_top.auto.buf),
    )

pub returns : goal.returns
returns c =
    let a = c.args in
    let p = a.p in
    let old = a.buf.now in
    let top = top_line p.k p.capacity p.used in
    let rest = table_lines p p.used in
    let w : length (top ++ rest) ≡ 19 + c.tables_width-width.result = omega (arith, length-append top rest, c.tables_width-width.ensures.0) in
    let f = sym c.has_room.ensures ∙ c.if-not-has_room.false in
    let l : a.at + length top + length rest ≤ length old = omega (arith, leb-true (a.at + (19 + c.tables_width-width.result)) (length old) f, w, length-append top rest) in
    ap₂ (λ n b. record { result = passed n; bytes = b }) (sym w)
    (paste_next old c.put_top.new.buf c.put_tables.new.buf a.at (a.at + 19) top rest c.put_top.ensures refl l c.put_tables.ensures)
    ∙ sym (list_there p old a.at c.requires
    ∙ fitted_in old a.at (list_is p) (ap (λ n. leb (a.at + n) (length old)) w ∙ f))
