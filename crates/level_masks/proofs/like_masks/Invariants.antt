use Prim.Native.Nat.{◌^◌}
use mathlib.Core.Path.{◌≡◌}
use lib.ListN.{length}
use Rattle.plan.specs.Limits.{masks}
use Rattle.level_arrays.specs.Alike.{fan_labels, LikeMasks}
use Rattle.level_masks.proofs.like_masks.Given as goal

abbrev pub invariant-loop-h : goal.invariant-loop-h
invariant-loop-h l = LikeMasks (fan_labels l.f) l.like (2 ^ l.h) × (length l.like ≡ masks)
