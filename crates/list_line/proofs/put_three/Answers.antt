use Prim.Native.Nat.{◌+◌}
use native.Mathlib.Omega.{arith}
use mathlib.Core.Path.{refl}
use mathlib.Core.List.{◌++◌}
use Rattle.decimal.specs.Trusted.Columns.{field_of}
use Rattle.list_line.specs.PasteLaws.{paste_next}
use Rattle.list_line.proofs.put_three.Goals as goal

pub returns : goal.returns
returns c =
    let a = c.args in
    let old = a.buf.now in
    let b = c.put_field.new.buf in
    let d = c.put_field-2.new.buf in
    let x = field_of 6 a.first in
    let y = field_of 6 a.second in
    paste_next old d c.put_field-3.new.buf a.at (a.at + 12) (x ++ y) (field_of 6 a.third)
    (paste_next old b d a.at (a.at + 6) x y c.put_field.ensures refl (omega (arith, c.requires)) c.put_field-2.ensures)
    refl (omega (arith, c.requires)) c.put_field-3.ensures
