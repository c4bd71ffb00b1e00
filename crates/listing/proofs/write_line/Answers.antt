use native.Mathlib.Omega.{arith}
use Prim.Native.Nat.{◌+◌, ◌-◌, ◌≤◌}
use mathlib.Core.Path.{◌≡◌, sym, ap, ap₂, ◌∙◌}
use borrow.Author.Tests.{le-leb, lt-leb, leb-true}
use lib.Dec.{leb}
use lib.ListN.{length, get_or}
use Rattle.lists.specs.Trusted.Checked.{passed}
use Rattle.lists.specs.ListLaws.{get_d_any}
use Rattle.table.specs.Trusted.Records.{blank}
use mathlib.Core.Bool.{true}
use Rattle.part.specs.Trusted.SoundTest.{sound}
use Rattle.list_line.specs.Trusted.TableLine.{table_line}
use Rattle.listing.specs.Trusted.Listing.{line_of}
use Rattle.table.proofs.Shape.{past}
use Rattle.part.proofs.Shape.{shaped}
use Rattle.list_line.specs.Trusted.Writes.{pasted}
use Rattle.list_line.specs.Line.{table_width}
use Rattle.list_line.specs.FieldLaws.{table_length}
use Rattle.listing.proofs.LineLaws.{fitted_out, fitted_in, line_unsound, line_absent, line_there, line_table, used_room}
use Rattle.listing.proofs.write_line.Goals as goal
use Rattle.listing.proofs.write_line.Goals.{Start}

pub returns-then-not-sound : goal.returns-then-not-sound
returns-then-not-sound c =
    let a = c.args in
    sym (line_unsound a.p a.line a.buf.now a.at (sym c.sound.ensures ∙ c.if-not-sound.true))

pub returns-then-line-p : goal.returns-then-line-p
returns-then-line-p c =
    let a = c.args in
    sym (line_absent a.p a.line a.buf.now a.at (sym c.sound.ensures ∙ c.if-not-sound.false) (lt-leb _ _ c.if-line-p.true))

pub returns-then-not-has_room : goal.returns-then-not-has_room
returns-then-not-has_room c =
    let a = c.args in
    let s = sym c.sound.ensures ∙ c.if-not-sound.false in
    sym (line_there a.p a.line a.buf.now a.at s (le-leb _ _ c.if-line-p.false)
    ∙ fitted_out a.buf.now a.at (ap (line_of a.p) c.if-line-eq0.true) (sym c.has_room.ensures ∙ c.if-not-has_room.true))

pub put_top-requires : goal.put_top-requires
put_top-requires c =
    let a = c.args in
    leb-true (a.at + 19) (length a.buf.now) (sym c.has_room.ensures ∙ c.if-not-has_room.false)

pub returns-then-line-eq0 : goal.returns-then-line-eq0
returns-then-line-eq0 c =
    let a = c.args in
    let s = sym c.sound.ensures ∙ c.if-not-sound.false in
    ap (λ b. record { result = passed 19; bytes = b }) c.put_top.ensures
    ∙ sym (line_there a.p a.line a.buf.now a.at s (le-leb _ _ c.if-line-p.false)
    ∙ fitted_in a.buf.now a.at (ap (line_of a.p) c.if-line-eq0.true) (sym c.has_room.ensures ∙ c.if-not-has_room.false))

pub bounds-p-t : goal.bounds-p-t
bounds-p-t c =
    let a = c.args in
    omega (arith, used_room a.p (sym c.sound.ensures ∙ c.if-not-sound.false), c.if-line-p.false, c.if-line-eq0.false)

-- the record that the code reads is the one of the line
record_at : (k : Start) → k.args.line ≤ k.args.p.used → (k.args.line ≡ 0 → ⊥) → sound k.args.p ≡ true →
    get_or k.args.p.tables (k.args.line - 1) past ≡ get_or k.args.p.tables (k.args.line - 1) blank
record_at k l n s =
    let p = k.args.p in
    let t = k.well_formed.0.1.1.1.1.1.1.0 in
    get_d_any p.tables (k.args.line - 1) past blank
    (omega (arith, l, n, used_room p s, (shaped p t.0 t.1.0.1 t.1.1).records))

pub returns-then-not-has_room-2 : goal.returns-then-not-has_room-2
returns-then-not-has_room-2 c =
    let a = c.args in
    let p = a.p in
    let old = a.buf.now in
    let r = get_or p.tables (a.line - 1) blank in
    let s = sym c.sound.ensures ∙ c.if-not-sound.false in
    let w : length (table_line a.line r) ≡ c.table_width-width.result =
    table_length a.line r ∙ ap table_width (sym (record_at (goal.at.returns-then-not-has_room-2 c).Start c.if-line-p.false c.if-line-eq0.false s)) ∙ sym c.table_width-width.ensures.0 in
    sym (line_there p a.line old a.at s (le-leb _ _ c.if-line-p.false)
    ∙ fitted_out old a.at (line_table p a.line (omega (arith, c.if-line-eq0.false)))
    (ap (λ n. leb (a.at + n) (length old)) w ∙ sym c.has_room-2.ensures ∙ c.if-not-has_room-2.true))

pub put_table-requires : goal.put_table-requires
put_table-requires c =
    let a = c.args in
    omega (arith, leb-true (a.at + c.table_width-width.result) (length a.buf.now) (sym c.has_room-2.ensures ∙ c.if-not-has_room-2.false), c.table_width-width.ensures.0)

pub returns : goal.returns
returns c =
    let a = c.args in
    let p = a.p in
    let old = a.buf.now in
    let r = get_or p.tables (a.line - 1) blank in
    let s = sym c.sound.ensures ∙ c.if-not-sound.false in
    let g = record_at (goal.at.returns c).Start c.if-line-p.false c.if-line-eq0.false s in
    let w : length (table_line a.line r) ≡ c.table_width-width.result =
    table_length a.line r ∙ ap table_width (sym g) ∙ sym c.table_width-width.ensures.0 in
    ap₂ (λ n b. record { result = passed n; bytes = b }) (sym w) (c.put_table.ensures ∙ ap (λ q. pasted old a.at (table_line a.line q)) g)
    ∙ sym (line_there p a.line old a.at s (le-leb _ _ c.if-line-p.false)
    ∙ fitted_in old a.at (line_table p a.line (omega (arith, c.if-line-eq0.false)))
    (ap (λ n. leb (a.at + n) (length old)) w ∙ sym c.has_room-2.ensures ∙ c.if-not-has_room-2.false))
