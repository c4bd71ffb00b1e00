use Rattle.std.proofs.Common.{arith, ◌≡◌, ◌+◌, ◌*◌, ◌∙◌, sym, ap, refl, length, get_or, take, length-take-le, rules}
use Rattle.decimal.specs.Trusted.Columns.{field_of, fields_of}
use Rattle.list_line.specs.Trusted.Writes.{pasted}
use Rattle.list_line.specs.PasteLaws.{paste_none, paste_next}
use Rattle.list_line.specs.FieldLaws.{fields_length, fields_next}
use Rattle.list_line.proofs.put_inputs.Goals as goal

pub loop-i-init : goal.loop-i-init
loop-i-init c = (refl, sym (paste_none c.args.buf.now c.args.at))

pub loop-i-preserved : goal.loop-i-preserved
loop-i-preserved c =
    let a = c.args in
    let l = c.loop-i in
    let whole : length a.inputs ≡ 6 = search rules in
    let f = fields_of (take l.i a.inputs) in
    let w : length f ≡ 6 * l.i = fields_length (take l.i a.inputs) ∙ ap (λ m. 6 * m) (length-take-le l.i a.inputs (omega arith)) in (
      c.put_field.auto.buf ∙ l.invariant.0,
      paste_next a.buf.now l.buf c.put_field.new.buf a.at (a.at + 6 * l.i) f (field_of 6 (get_or a.inputs l.i 0)) l.invariant.1 (omega arith) (omega arith) c.put_field.ensures
          ∙ ap (pasted a.buf.now a.at) (sym (fields_next a.inputs l.i (omega arith))),
    )
