use Prim.Native.Nat.{◌+◌}
use native.Mathlib.Omega.{arith}
use mathlib.Core.Path.{sym, subst}
use Rattle.table.proofs.Shape.{past}
use Rattle.part.proofs.StoringLaws.{used_padded, Looked, looked_none, looked_more, looked_all}
use Rattle.part.proofs.Part.uses.Goals as goal

pub loop-i-init : goal.loop-i-init
loop-i-init c = (omega arith, looked_none c.args.self.now c.args.net)

pub with_table-uses-requires : goal.with_table-uses-requires
with_table-uses-requires c =
    let l = c.loop-i in
    (used_padded c.args.self.now c.requires.0 (omega arith) l.i _ (omega arith), c.requires.1)

pub loop-i-preserved : goal.loop-i-preserved
loop-i-preserved c =
    let l = c.loop-i in
    let a = c.args in
    (l.invariant.0, subst (Looked a.self.now a.net (l.i + 1)) (sym c.with_table-uses.ensures) (looked_more l.invariant.1 (omega arith) past (omega arith)))

pub returns : goal.returns
returns c = looked_all c.loop-i.invariant.1 (omega arith) (omega arith)
