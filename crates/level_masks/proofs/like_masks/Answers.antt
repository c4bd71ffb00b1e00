use Prim.Native.Nat.{◌*◌, ◌%◌, ◌^◌, ◌≤◌, ◌<◌}
use native.Mathlib.Omega.{arith}
use mathlib.Core.Path.{◌≡◌, ◌∙◌}
use lib.Pow.{pow_mono}
use Rattle.level_masks.proofs.Likes.{likes_next}
use Rattle.level_masks.proofs.like_masks.Goals as goal
use Rattle.level_masks.proofs.like_masks.Goals.{At-loop-h}

-- the bit of a fanin
top_low : (l : At-loop-h) → l.loop-h.h < l.args.f.count →
    (1 * 2 ^ l.loop-h.h % 18446744073709551616 ≡ 2 ^ l.loop-h.h) × (2 ^ l.loop-h.h ≤ 512)
top_low l b =
    let m : 2 ^ l.loop-h.h ≤ 2 ^ 9 = pow_mono {j = 9} (omega (arith, l.requires.0)) in
    (omega arith, omega arith)

pub put_masks-requires : goal.put_masks-requires
put_masks-requires c =
    let b = c.like_bit.ensures in
    let t = top_low (goal.at.put_masks-requires c).At-loop-h (omega arith) in
    (omega (arith, b.2, t, pow_mono b.1), omega arith, c.loop-h.invariant.1)

pub loop-h-preserved : goal.loop-h-preserved
loop-h-preserved c =
    let i = c.loop-h.invariant in
    let t = top_low (goal.at.loop-h-preserved c).At-loop-h (omega arith) in
    let e = rw t.0 at c.put_masks.ensures in
    (likes_next c.args.f (omega arith) i.0 c.like_bit.ensures e, e.room ∙ i.1)
