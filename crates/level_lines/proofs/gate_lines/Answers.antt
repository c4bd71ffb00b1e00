use Prim.Native.Nat.{ℕ, suc, ◌+◌, ◌-◌, ◌*◌, ◌^◌, ◌≤◌}
use native.Mathlib.Omega.{arith}
use mathlib.Core.Path.{◌≡◌, refl, ◌∙◌}
use mathlib.Core.Logic.{◌⊎◌, inl, inr}
use mathlib.Core.List.{List, []}
use lib.Pow.{pow_pos, pow_mono}
use lib.ListN.{get_or}
use Rattle.plan.specs.Limits.{masks}
use Rattle.lists.specs.ListLaws.{get_d_any}
use Rattle.level_arrays.specs.Arrays.{big, line_at, start_at, SearchStill, LinesKept}
use Rattle.level_rows.specs.Runs.{RunWritten}
use Rattle.level_lines.proofs.Lining.{all_big, LinesSo, bounds_first, bounds_likened, bounds_turn, bounds_keep, bounds_done, Lining, change_above}
use Rattle.level_lines.proofs.gate_lines.Goals as goal
use Rattle.level_lines.proofs.gate_lines.Goals.{After-fill_like-end, After-keep_line, After-lift, then-one-line-via-then-one-line, then-one-line-via-else-one-line+then-stands_still, then-bound-a+else-one-line+else-stands_still, else-bound-a}

-- the masks end within their room
ended : (c : After-fill_like-end) → (1 ≤ c.fill_like-end.result) × (c.fill_like-end.result ≤ masks)
ended c =
    let e = c.fill_like-end.ensures.0 in
    let m : 2 ^ c.args.f.count ≤ masks = pow_mono c.requires.0.some.fanins.1 in
    (omega (arith, e, pow_pos c.args.f.count), omega (arith, e))

-- one bound more
turned : (c : After-lift) →
    let l = c.loop-bound in
    let a = c.args in
    LinesSo a.k a.g a.f a.a a.store.now l.store c.lift.new.own l.array
    c.fill_like-end.new.arrays (suc (l.bound - start_at a.f.count a.a)) (l.bound - a.a)
turned c =
    let l = c.loop-bound in
    bounds_turn c.requires.0 l.bound (omega arith) l.invariant.lines.1 c.look_rows.ensures c.fill_like-end.ensures.1
    (λ m h. c.lift.ensures.1 m (omega (arith, c.fill_like-end.ensures.0)))

-- and one line more
kept_line : (c : After-lift) {next : List ℕ} →
    let l = c.loop-bound in
    let a = c.args in
    a.a ≤ l.bound →
    RunWritten l.store next ((a.g * 256 + (l.bound - a.a)) * 6) 6 (λ w. get_or c.fill_like-end.new.arrays ((c.fill_like-end.result - 1) * 8 + (1 + w)) big) →
    LinesSo a.k a.g a.f a.a a.store.now next c.lift.new.own l.array
    c.fill_like-end.new.arrays (suc (l.bound - start_at a.f.count a.a)) (l.bound - a.a + 1)
kept_line c t q =
    bounds_keep c.fill_like-end.result c.fill_like-end.ensures.0 c.requires.0.some.table.1 (turned c) (omega arith) q

-- the next turn, where the bound is one more
again : (c : After-lift) (store copy : List ℕ) (count : ℕ) →
    let l = c.loop-bound in
    let a = c.args in
    let own = c.lift.new.own in
    let array = c.fill_like-end.new.arrays in
    LinesSo a.k a.g a.f a.a a.store.now store own l.array array (suc (l.bound - start_at a.f.count a.a)) count →
    count ≡ l.bound + 1 - a.a → RunWritten l.before copy 0 (c.fill_like-end.result * 8) (λ i. get_or array i big) →
    Lining a.k a.g a.f a.a a.store.now store c.look_rows.new.rows own array copy (l.bound + 1)
again c store copy count p ahead q =
    let l = c.loop-bound in
    let a = c.args in
    let i = l.invariant in
    let z : l.bound + 1 - start_at a.f.count a.a ≡ suc (l.bound - start_at a.f.count a.a) = omega arith in
    record {
      sizes = (c.look_rows.ensures.room ∙ i.sizes.0, c.lift.ensures.0, c.fill_like-end.ensures.2 ∙ i.sizes.2, q.room ∙ i.sizes.3);
      same = λ j b. let z : 0 + j ≡ j = omega arith in rw z at (q.is j (omega (arith, c.fill_like-end.ensures.0)));
      lines = (l.array, rw (z, ← ahead) p);
    }

-- the line is the last one
done : (c : After-keep_line) →
    let a = c.args in
    let n = c.loop-bound.bound - a.a + 1 in
    let store = c.keep_line.new.store in
    LinesSo a.k a.g a.f a.a a.store.now store c.lift.new.own c.loop-bound.array c.fill_like-end.new.arrays
    (suc (c.loop-bound.bound - start_at a.f.count a.a)) n →
    (line_at store a.g (n - 1) 1 ≤ n - 1)
    ⊎ ((n ≡ 256) ⊎ SearchStill a.k a.f a.a n c.loop-bound.array c.fill_like-end.new.arrays) →
    LinesKept a.k a.g a.f a.store.now store a.a n
done c kept last = bounds_done c.requires.2 kept (omega (arith, c.if-bound-a.true)) (omega arith, omega arith) last

pub loop-bound-init : goal.loop-bound-init
loop-bound-init c = record {
  sizes = (refl, refl, refl, refl);
  same = λ i l. refl;
  lines = ([], bounds_first _ (omega arith) (all_big 1024) (all_big 8192));
}

pub fill_like-end-requires : goal.fill_like-end-requires
fill_like-end-requires c =
    let z = c.loop-bound.invariant.sizes in
    let p = c.requires.0 in
    let looked = c.look_rows.ensures in
    let m = c.like_masks.ensures in
    (p.some, looked.room ∙ z.0, z.1, omega arith, m.1, bounds_likened p c.loop-bound.bound c.loop-bound.invariant.lines.1 looked m.0)

pub lift-requires : goal.lift-requires
lift-requires c =
    let z = c.loop-bound.invariant.sizes in
    (c.requires.0.some.table.1, (ended (goal.at.lift-requires c).After-fill_like-end).1, z.1, omega (arith, c.fill_like-end.ensures.2, z.2))

pub keep_line-requires : goal.keep_line-requires
keep_line-requires c =
    let i = c.loop-bound.invariant in
    let p = c.requires in
    (omega (arith, ended (goal.at.keep_line-requires c).After-fill_like-end), p.1, omega arith, c.fill_like-end.ensures.2 ∙ i.sizes.2, i.lines.1.room ∙ p.3)

pub bounds-array-end : goal.bounds-array-end
bounds-array-end c = omega (arith, ended (goal.at.bounds-array-end c).After-fill_like-end)

pub returns-then-one-line : goal.returns-then-one-line
returns-then-one-line c =
    let l = c.loop-bound in
    let at = goal.at.returns-then-one-line c in
    let array = c.fill_like-end.new.arrays in
    let r = get_d_any array ((c.fill_like-end.result - 1) * 8 + 1) 0 big (omega (arith, ended at.After-fill_like-end, c.fill_like-end.ensures.2, l.invariant.sizes.2)) in
    done at.After-keep_line (kept_line at.After-lift c.if-bound-a.true c.keep_line.ensures)
    (elim c.then-one-line.branch [
      | then-one-line-via-then-one-line w ↦
          let z : l.bound - c.args.a + 1 - 1 ≡ l.bound - c.args.a = omega arith in
          inl (rw z (omega (arith, c.keep_line.ensures.is 0 (omega arith), r, w.if-one-line.true)))
      | then-one-line-via-else-one-line+then-stands_still w ↦
          let (one, higher, same) = w.stands_still.ensures w.if-stands_still.true in
          let z : 0 + (2 ^ c.args.f.count - 1) * 8 + 1 ≡ (c.fill_like-end.result - 1) * 8 + 1 = omega (arith, c.fill_like-end.ensures.0) in
          inr
          (inr record {
            two = omega (arith, higher, change_above c.requires.2 c.last_change-change.ensures.0);
            one = rw z (omega (arith, one, r));
            fans = λ h b. omega (arith, higher, c.last_change-change.ensures.0 h b);
            same = λ m w b k.
                same (0 + m * 8 + w) (omega (arith, c.fill_like-end.ensures.0, c.requires.0.some.table.1))
                ∙ c.loop-bound.invariant.same (0 + m * 8 + w) (omega (arith, c.requires.0.some.table.1));
          })
    ])

pub copy_rows-requires : goal.copy_rows-requires
copy_rows-requires c =
    let z = c.loop-bound.invariant.sizes in
    ((ended (goal.at.copy_rows-requires c).After-fill_like-end).1, c.fill_like-end.ensures.2 ∙ z.2, z.3)

pub loop-bound-preserved : goal.loop-bound-preserved
loop-bound-preserved c =
    let here = (goal.at.loop-bound-preserved c).After-lift in
    elim c.if-bound-a.branch [
      | then-bound-a+else-one-line+else-stands_still w ↦
          rw w.store-is (again here _ _ _ (kept_line here w.if-bound-a.true w.keep_line.ensures) (omega arith) c.copy_rows.ensures)
      | else-bound-a w ↦ rw w.store-is (again here _ _ _ (turned here) (omega arith) c.copy_rows.ensures)
    ]
