use Prim.Native.Nat.{◌+◌, ◌*◌, ◌<◌}
use native.Mathlib.Omega.{arith}
use mathlib.Core.Path.{◌≡◌, refl, sym, ap, ◌∙◌}
use lib.ListN.{length, get_or, take, length-append}
use Rattle.lists.specs.Trusted.Lists.{gather}
use Rattle.lists.specs.ListLaws.{get_d_any}
use Rattle.table.specs.Trusted.Records.{blank}
use Rattle.table.proofs.Shape.{past}
use Rattle.part.proofs.Shape.{shaped}
use Rattle.list_line.specs.Trusted.Writes.{pasted}
use Rattle.list_line.specs.PasteLaws.{paste_none, paste_next}
use Rattle.list_numbers.specs.Trusted.Numbers.{record_numbers}
use Rattle.list_numbers.specs.NumbersLaws.{tables_numbers, numbers_next}
use Rattle.list_numbers.proofs.put_records.Goals as goal

pub loop-t-init : goal.loop-t-init
loop-t-init c =
    let t = c.well_formed.1.1.0.1.1.1.1.1.1.0 in
    let a = c.args in
    (omega arith, shaped a.p t.0 t.1.0.1 t.1.1, refl, sym (paste_none a.numbers.now a.at))

pub offset_bounds-p-t : goal.offset_bounds-p-t
offset_bounds-p-t c = omega (arith, c.requires)

pub bounds-p-t : goal.bounds-p-t
bounds-p-t c = omega (arith, c.requires)

pub overflow_mul-t : goal.overflow_mul-t
overflow_mul-t c = omega (arith, c.requires)

pub overflow_add-at : goal.overflow_add-at
overflow_add-at c = omega (arith, c.requires)

pub put_record-requires : goal.put_record-requires
put_record-requires c = omega (arith, c.requires, c.loop-t.invariant.2)

pub loop-t-preserved : goal.loop-t-preserved
loop-t-preserved c =
    let a = c.args in
    let p = a.p in
    let l = c.loop-t in
    let f = l.invariant.1 in
    let w = c.put_record in
    let in_tables : l.t < length p.tables = omega (arith, c.requires, f.records) in
    let before = gather record_numbers (take l.t p.tables) in
    let r = get_or p.tables l.t blank in
    let next = numbers_next p.tables l.t in_tables in
    let n = tables_numbers p f l.t (omega (arith, c.requires)) in
    let m = tables_numbers p f (l.t + 1) (omega (arith, c.requires)) in (
      omega arith,
      f,
      w.auto.numbers ∙ l.invariant.2,
      paste_next a.numbers.now l.numbers w.new.numbers a.at (a.at + 10 * l.t) before (record_numbers r) l.invariant.3 (omega (arith, n))
          (omega (arith, c.requires, n, m, ap length next, length-append before (record_numbers r)))
          (w.ensures ∙ ap (λ q. pasted l.numbers (a.at + 10 * l.t) (record_numbers q)) (get_d_any p.tables l.t past blank in_tables))
          ∙ ap (pasted a.numbers.now a.at) (sym next),
    )

pub shape_of-numbers : goal.shape_of-numbers
shape_of-numbers c = c.loop-t.invariant.2

pub returns : goal.returns
returns c =
    let a = c.args in
    let l = c.loop-t in
    let e : l.t ≡ a.p.used = omega arith in
    l.invariant.3 ∙ ap (λ t. pasted a.numbers.now a.at (gather record_numbers (take t a.p.tables))) e
