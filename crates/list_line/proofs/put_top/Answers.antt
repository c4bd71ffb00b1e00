use Prim.Native.Nat.{◌+◌}
use native.Mathlib.Omega.{arith}
use mathlib.Core.Path.{refl}
use mathlib.Core.List.{[], ◌∷◌}
use Rattle.decimal.specs.Trusted.Columns.{fields_of}
use Rattle.list_line.specs.PasteLaws.{paste_next}
use Rattle.list_line.proofs.put_top.Goals as goal

pub returns : goal.returns
returns c =
    let a = c.args in
    paste_next a.buf.now c.put_three.new.buf c.put_line_feed.new.buf a.at (a.at + 18) (fields_of (a.k ∷ a.capacity ∷ a.used ∷ [])) (10 ∷ [])
    c.put_three.ensures refl (omega (arith, c.requires)) c.put_line_feed.ensures
