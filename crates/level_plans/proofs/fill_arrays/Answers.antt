use Prim.Native.Nat.{◌+◌, ◌^◌, ◌≤◌}
use native.Mathlib.Omega.{arith}
use native.Mathlib.Numerals.{add-one}
use mathlib.Core.Path.{◌∙◌}
use lib.Pow.{pow_mono}
use Rattle.plan.specs.Limits.{masks}
use Rattle.level_arrays.specs.AlikeLaws.{searched_likened}
use Rattle.level_plans.proofs.Ranging.{ranged_next}
use Rattle.level_plans.proofs.fill_arrays.Goals as goal
use Rattle.level_plans.proofs.fill_arrays.Goals.{At-loop-i}

-- the masks end within their room
ended : (d : At-loop-i) → d.like_masks-end.result ≤ masks
ended d =
    let m : 2 ^ d.args.f.count ≤ masks = pow_mono d.requires.some.fanins.1 in
    omega (arith, d.like_masks-end.ensures.2)

pub lift-requires : goal.lift-requires
lift-requires c =
    let p = c.requires in
    let v = c.loop-i.invariant in
    (p.some.table.1, ended (goal.at.lift-requires c).At-loop-i, v.2, omega (arith, v.0.room, p.few.1))

pub fill_like-requires : goal.fill_like-requires
fill_like-requires c =
    let p = c.requires in
    let a = c.args.f in
    let looked = c.look_rows.ensures in
    let m = c.like_masks-end.ensures in (
      p.some,
      looked.room ∙ c.loop-i.invariant.1,
      c.lift.ensures.0,
      omega (arith, c.loop-i.invariant.0.room, p.few.1, c.loop-i-test.true),
      m.1,
      searched_likened a (c.args.from + c.loop-i.i) c.args.store.now c.args.store.now (omega (arith, p.some.table.0)) c.loop-i.invariant.0.ranged.searched
          (λ h w n b. looked.is h w n (omega (arith, p.some.table.1))) (λ s n. c.lift.ensures.1 s (omega (arith, m.2))) m.0,
    )

pub loop-i-preserved : goal.loop-i-preserved
loop-i-preserved c =
    let p = c.requires in
    let v = c.loop-i.invariant in
    let e = c.fill_like.ensures in
    let m = add-one c.loop-i.i in (
      rw m (record {
        ranged = ranged_next _ p.some v.0.ranged (rw m at e.3) (rw m at e.1)
            (λ h w j n. c.look_rows.ensures.is h w j (omega (arith, p.some.table.1))) (λ s j. c.lift.ensures.1 s (omega (arith, c.like_masks-end.ensures.2)));
        room = e.2 ∙ v.0.room;
      }),
      c.look_rows.ensures.room ∙ v.1,
      c.lift.ensures.0,
    )
