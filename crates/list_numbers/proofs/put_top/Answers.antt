use native.Mathlib.Omega.{arith}
use mathlib.Core.Path.{refl}
use mathlib.Core.List.{[], ◌∷◌}
use Rattle.list_line.specs.PasteLaws.{paste_next}
use Rattle.list_numbers.proofs.put_top.Goals as goal

pub returns : goal.returns
returns c =
    let a = c.args in
    let old = a.numbers.now in
    let b = c.put_number in
    let d = c.put_number-2 in
    let e = c.put_number-3 in
    paste_next old d.new.numbers e.new.numbers 0 2 (a.k ∷ a.capacity ∷ []) (a.used ∷ [])
    (paste_next old b.new.numbers d.new.numbers 0 1 (a.k ∷ []) (a.capacity ∷ []) b.ensures refl (omega (arith, c.requires)) d.ensures)
    refl (omega (arith, c.requires)) e.ensures
