use native.Mathlib.Omega.{arith}
use Rattle.search.proofs.Filling.{taken_at, fanin_joined, filling_start, filling_one, place_one, place_join, least_fits, filling_split, filling_join}
use Rattle.plan.specs.Key.{leaf_key}
use Rattle.search.proofs.fill.Goals as goal
use Rattle.search.proofs.fill.Goals.{then-s-next, else-s-next}

pub loop-s-init : goal.loop-s-init
loop-s-init c = filling_start c.requires.good c.requires.size c.requires.rooms

pub volume-requires : goal.volume-requires
volume-requires c =
    let q = c.requires in
    let p = place_one q.good q.size c.loop-s.invariant c.if-s-next.true (omega arith) in
    fanin_joined q.good q.size c.loop-s.invariant p.1 _ (taken_at c.args.keys _ _ _ leaf_key p.1 q.size)

pub bounds-volumes-top : goal.bounds-volumes-top
bounds-volumes-top c = omega (arith, place_join c.requires.good c.requires.size c.loop-s.invariant c.if-s-next.false)

pub overflow_add-least : goal.overflow_add-least
overflow_add-least c =
    omega (arith, least_fits c.requires.good c.requires.size c.loop-s.invariant c.if-s-next.false)

pub best_join-c-requires : goal.best_join-c-requires
best_join-c-requires c =
    filling_split c.requires.good c.requires.size c.loop-s.invariant c.if-s-next.false

pub loop-s-preserved : goal.loop-s-preserved
loop-s-preserved c =
    let q = c.requires in
    let i = c.loop-s.invariant in
    elim c.if-s-next.branch [
      | then-s-next w ↦
          let e = w.if-s-next.true in
          let p = place_one q.good q.size i e (omega (arith, i.places)) in
          rw (w.below-is, w.width-is, w.split-is, w.volumes-is, w.h-is, w.top-is, w.next-is)
          (filling_one q.good q.size i e p.1 _ _ (taken_at c.args.keys _ _ _ leaf_key p.1 q.size) w.volume.ensures)
      | else-s-next w ↦
          rw (w.below-is, w.width-is, w.split-is, w.volumes-is, w.h-is, w.top-is, w.next-is)
          (filling_join q.good q.size i w.if-s-next.false w.best_join-c.ensures)
    ]
