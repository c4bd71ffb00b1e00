use Prim.Native.Nat.{◌+◌}
use mathlib.Core.Path.{◌≡◌}
use lib.ListN.{length}
use native.Mathlib.Omega.{arith}
use Rattle.table.specs.Trusted.Limits.{input_room}
use Rattle.pending.specs.Merging.{MergeRoom}
use Rattle.pending.specs.MergeLaws.{ordered_right, ordered_shape, inputs_room, merged_is}
use borrow.Author.Rules.{rules}
use Rattle.merge.proofs.merge.Goals as goal
use Rattle.merge.proofs.merge.Goals.{After-union-inputs, Start}

-- the left operand has room for six inputs
shape : (c : Start) → length c.args.x.table.inputs ≡ input_room
shape c = search rules

-- the inputs of both operands, which there is room for
union_room : (u : After-union-inputs) → let a = u.args in MergeRoom (a.x.table.count + a.y.table.count) u.union-inputs.result
union_room u =
    inputs_room u.args.x u.args.y u.requires (search rules) _ u.union-inputs.ensures

pub union-inputs-requires : goal.union-inputs-requires
union-inputs-requires c =
    (c.requires.fits, record { fits = omega (arith, c.requires.fits); shape = shape (goal.at.union-inputs-requires c).Start }, ordered_right c.requires)

pub values-requires : goal.values-requires
values-requires c =
    (record { fits = omega (arith, c.requires.fits); shape = shape (goal.at.values-requires c).Start }, union_room (goal.at.values-requires c).After-union-inputs)

pub values-requires-2 : goal.values-requires-2
values-requires-2 c =
    (record { fits = c.requires.kept.fits; shape = ordered_shape (ordered_right c.requires) }, union_room (goal.at.values-requires-2 c).After-union-inputs)

pub returns : goal.returns
returns c =
    rw c.ones.ensures
    (merged_is c.args.x c.args.y c.requires (shape (goal.at.returns c).Start) _ c.union-inputs.ensures c.args.kind c.values.ensures c.values-2.ensures c.turn-u.ensures c.turn-v.ensures c.meet.ensures)
