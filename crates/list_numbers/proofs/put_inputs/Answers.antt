use Prim.Native.Nat.{◌+◌}
use native.Mathlib.Numerals.{add-one}
use native.Mathlib.Omega.{arith}
use mathlib.Core.Path.{◌≡◌, refl, sym, ap, ◌∙◌}
use mathlib.Core.List.{[], ◌∷◌}
use lib.ListN.{length, get_or, take}
use lib.Seq.{length-take-le, take-suc, take_all}
use Rattle.list_line.specs.Trusted.Writes.{pasted}
use Rattle.list_line.specs.PasteLaws.{paste_none, paste_next}
use Rattle.std.proofs.Common.{rules}
use Rattle.list_numbers.proofs.put_inputs.Goals as goal

pub loop-i-init : goal.loop-i-init
loop-i-init c = let a = c.args in (omega arith, (search rules), refl, sym (paste_none a.numbers.now a.at))

pub loop-i-preserved : goal.loop-i-preserved
loop-i-preserved c =
    let a = c.args in
    let l = c.loop-i in
    let w : length (take l.i a.inputs) ≡ l.i = length-take-le l.i a.inputs (omega arith) in (
      omega arith,
      l.invariant.1,
      c.put_number.auto.numbers ∙ l.invariant.2,
      paste_next a.numbers.now l.numbers c.put_number.new.numbers a.at (a.at + l.i) (take l.i a.inputs) (get_or a.inputs l.i 0 ∷ []) l.invariant.3 (omega arith) (omega arith) c.put_number.ensures
          ∙ ap (pasted a.numbers.now a.at) (sym (ap (λ n. take n a.inputs) (add-one l.i) ∙ take-suc a.inputs l.i 0 (omega arith))),
    )

pub shape_of-numbers : goal.shape_of-numbers
shape_of-numbers c = c.loop-i.invariant.2

pub returns : goal.returns
returns c =
    let a = c.args in
    let l = c.loop-i in
    l.invariant.3 ∙ ap (pasted a.numbers.now a.at) (take_all l.i a.inputs (omega arith))
