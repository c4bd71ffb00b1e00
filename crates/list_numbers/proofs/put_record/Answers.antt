use Prim.Native.Nat.{◌+◌, ◌≤◌}
use native.Mathlib.Omega.{arith}
use mathlib.Core.Path.{refl, ◌∙◌}
use mathlib.Core.List.{[], ◌∷◌}
use lib.ListN.{length, set, length-set}
use Rattle.table.proofs.Shape.{inputs_fill}
use Rattle.list_line.specs.PasteLaws.{paste_one, paste_next}
use borrow.Author.Rules.{rules}
use Rattle.list_numbers.proofs.put_record.Goals as goal
use Rattle.list_numbers.proofs.put_record.Goals.{After-slice_known-4-1}

-- there is still room for all
room : (t : After-slice_known-4-1) → t.args.at + 10 ≤ length t.put_inputs.new.numbers
room t =
    omega (arith, t.requires, t.put_inputs.auto.numbers, t.put_number-2.auto.numbers, t.put_number.auto.numbers)

pub put_number-requires-3 : goal.put_number-requires-3
put_number-requires-3 c =
    omega (arith, room (goal.at.put_number-requires-3 c).After-slice_known-4-1, length-set c.put_inputs.new.numbers (c.args.at + 8) c.args.r.truth)

pub shape_of-numbers : goal.shape_of-numbers
shape_of-numbers c =
    c.put_number-3.auto.numbers ∙ length-set c.put_inputs.new.numbers (c.args.at + 8) c.args.r.truth ∙ c.put_inputs.auto.numbers
    ∙ c.put_number-2.auto.numbers ∙ c.put_number.auto.numbers

pub returns : goal.returns
returns c =
    let a = c.args in
    let r = a.r in
    let old = a.numbers.now in
    let l = inputs_fill r (search rules) in
    let b = c.put_number in
    let d = c.put_number-2 in
    let e = c.put_inputs in
    let f = c.put_number-3 in
    paste_next old e.new.numbers f.new.numbers a.at (a.at + 8) (r.net ∷ r.count ∷ r.inputs) (r.truth ∷ r.level ∷ [])
    (paste_next old d.new.numbers e.new.numbers a.at (a.at + 2) (r.net ∷ r.count ∷ []) r.inputs
    (paste_next old b.new.numbers d.new.numbers a.at (a.at + 1) (r.net ∷ []) (r.count ∷ []) b.ensures refl (omega (arith, c.requires)) d.ensures)
    refl (omega (arith, c.requires, l)) e.ensures)
    (omega (arith, l)) (omega (arith, c.requires, l))
    (paste_next e.new.numbers (set e.new.numbers (a.at + 8) r.truth) f.new.numbers (a.at + 8) (a.at + 9) (r.truth ∷ []) (r.level ∷ [])
    (paste_one e.new.numbers (a.at + 8) r.truth (omega (arith, room (goal.at.returns c).After-slice_known-4-1))) (omega arith) (omega (arith, room (goal.at.returns c).After-slice_known-4-1)) f.ensures)
