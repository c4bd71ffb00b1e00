use Prim.Native.Nat.{◌+◌, ◌*◌}
use mathlib.Core.Path.{◌≡◌, refl, sym, ap, ◌∙◌}
use mathlib.Core.List.{[], ◌∷◌, ◌++◌, append_assoc}
use lib.ListN.{length, take, length-append}
use Rattle.table.specs.Trusted.Records.{reads}
use Rattle.table.proofs.Shape.{take_room}
use Rattle.decimal.specs.Trusted.Columns.{field_of, fields_of}
use Rattle.list_line.specs.Trusted.Writes.{pasted}
use Rattle.list_line.specs.PasteLaws.{paste_next}
use Rattle.list_line.specs.FieldLaws.{fields_length}
use native.Mathlib.Omega.{arith}
use Rattle.table.proofs.Shape.{inputs_fill, reads_count}
use borrow.Author.Rules.{rules}
use Rattle.list_line.proofs.put_table.Goals as goal

pub put_inputs-requires : goal.put_inputs-requires
put_inputs-requires c =
    let r = c.args.r in
    omega (arith, reads_count r (inputs_fill r (search rules)), c.in_use-n.ensures, c.put_three.auto.buf, c.requires)

pub put_truth-requires : goal.put_truth-requires
put_truth-requires c =
    let r = c.args.r in
    omega (arith, reads_count r (inputs_fill r (search rules)), c.in_use-n.ensures, c.put_three.auto.buf, c.put_inputs.auto.buf, c.requires)

pub put_line_feed-requires : goal.put_line_feed-requires
put_line_feed-requires c =
    let r = c.args.r in
    omega (arith, reads_count r (inputs_fill r (search rules)), c.in_use-n.ensures, c.put_three.auto.buf, c.put_inputs.auto.buf, c.put_truth.auto.buf, c.requires)

pub returns : goal.returns
returns c =
    let a = c.args in
    let r = a.r in
    let old = a.buf.now in
    let l = inputs_fill r (search rules) in
    let n : length (reads r) ≡ c.in_use-n.result = reads_count r l ∙ sym c.in_use-n.ensures in
    let b = c.put_three.new.buf in
    let d = c.put_inputs.new.buf in
    let e = c.put_truth.new.buf in
    let x = fields_of (a.t ∷ r.net ∷ r.count ∷ []) in
    let y = fields_of (reads r) in
    let z = field_of 21 r.truth in
    let w : length y ≡ 6 * c.in_use-n.result = fields_length (reads r) ∙ ap (λ m. 6 * m) n in
    let v : length (x ++ y) ≡ 18 + 6 * c.in_use-n.result = omega (arith, w) in
    let u : length ((x ++ y) ++ z) ≡ 39 + 6 * c.in_use-n.result = omega (arith, length-append (x ++ y) z, v) in
    let i : d ≡ pasted b (a.at + 18) y =
    c.put_inputs.ensures ∙ ap (λ m. pasted b (a.at + 18) (fields_of (take m r.inputs))) c.in_use-n.ensures
    ∙ ap (λ m. pasted b (a.at + 18) (fields_of m)) (take_room r.inputs r.count l) in
    paste_next old e c.put_line_feed.new.buf a.at (a.at + 18 + 6 * c.in_use-n.result + 21) ((x ++ y) ++ z) (10 ∷ [])
    (paste_next old d e a.at (a.at + 18 + 6 * c.in_use-n.result) (x ++ y) z
    (paste_next old b d a.at (a.at + 18) x y c.put_three.ensures refl (omega (arith, n, w, c.requires)) i)
    (omega (arith, v)) (omega (arith, n, v, c.requires)) c.put_truth.ensures)
    (omega (arith, u)) (omega (arith, n, u, c.requires)) c.put_line_feed.ensures
    ∙ ap (λ m. pasted old a.at (x ++ m)) (append_assoc y z (10 ∷ []))
