use Prim.Native.Nat.{◌<◌}
use native.Mathlib.Omega.{arith}
use mathlib.Core.Path.{◌≡◌, refl, sym, ap, ◌∙◌}
use lib.ListN.{length, get_or, take}
use Rattle.table.proofs.Shape.{past}
use Rattle.part.proofs.Shape.{shaped}
use Rattle.list_line.specs.Trusted.Writes.{pasted}
use Rattle.list_line.specs.PasteLaws.{paste_none, paste_next}
use Rattle.slacks.specs.SlackText.{slack_text, driver_line}
use Rattle.slacks.specs.SlackLaws.{text_next, text_next_length, text_room}
use Rattle.slacks.proofs.put_slacks.Goals as goal

pub loop-t-init : goal.loop-t-init
loop-t-init c =
    let t = c.well_formed.1.1.0.1.1.1.1.1.1.0 in
    let a = c.args in
    (omega arith, (shaped a.p t.0 t.1.0.1 t.1.1).records, refl, omega arith, sym (paste_none a.buf.now a.at))

pub offset_bounds-p-t : goal.offset_bounds-p-t
offset_bounds-p-t c = omega (arith, c.requires)

pub bounds-p-t : goal.bounds-p-t
bounds-p-t c = omega (arith, c.requires)

pub put_driver-place-requires : goal.put_driver-place-requires
put_driver-place-requires c =
    let l = c.loop-t in
    let a = c.args in
    let p = a.p in
    let h : l.t < length p.tables = omega (arith, c.requires.0, l.invariant.1) in
    omega (arith, l.invariant.2, l.invariant.3, text_room a.wanted p a.at l.t (length a.buf.now) past (omega arith) h c.requires.1)

pub loop-t-preserved : goal.loop-t-preserved
loop-t-preserved c =
    let w = c.put_driver-place in
    let a = c.args in
    let p = a.p in
    let l = c.loop-t in
    let r = get_or p.tables l.t past in
    let h : l.t < length p.tables = omega (arith, c.requires.0, l.invariant.1) in (
      omega arith,
      l.invariant.1,
      w.auto.buf ∙ l.invariant.2,
      omega (arith, w.ensures.0, l.invariant.3, text_next_length p.tables l.t past h a.wanted),
      paste_next a.buf.now l.buf w.new.buf a.at l.place (slack_text a.wanted (take l.t p.tables)) (driver_line a.wanted r.net r.level)
          l.invariant.4 l.invariant.3 (text_room a.wanted p a.at l.t (length a.buf.now) past (omega arith) h c.requires.1) w.ensures.1
          ∙ ap (pasted a.buf.now a.at) (sym (text_next p.tables l.t past h a.wanted)),
    )

pub shape_of-buf : goal.shape_of-buf
shape_of-buf c = c.loop-t.invariant.2

pub returns : goal.returns
returns c =
    let a = c.args in
    let l = c.loop-t in
    let e : l.t ≡ a.p.used = omega arith in
    l.invariant.4 ∙ ap (λ t. pasted a.buf.now a.at (slack_text a.wanted (take t a.p.tables))) e
