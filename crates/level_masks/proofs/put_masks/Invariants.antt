use Rattle.level_masks.specs.Like.{LikesPut}
use Rattle.level_masks.proofs.put_masks.Given as goal

abbrev pub invariant-loop-r : goal.invariant-loop-r
invariant-loop-r l = LikesPut l.top l.bit l.initial.like l.like l.r
