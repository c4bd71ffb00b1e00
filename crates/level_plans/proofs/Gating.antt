-- The plan of a gate is read back from the last of its arrays. Assumes nothing.
use Prim.Native.Nat.{ℕ, ◌+◌, ◌-◌, ◌^◌, ◌<◌}
use native.Mathlib.Omega.{arith}
use mathlib.Core.Path.{◌≡◌, refl}
use mathlib.Core.List.{List}
use lib.ListN.{length}
use lib.Pow.{pow_mono}
use Rattle.lists.specs.Sequences.{upto}
use Rattle.lists.specs.NumberLaws.{upto_length}
use Rattle.plan.specs.MaskLaws.{select_all}
use Rattle.level_arrays.specs.declared.Fans.{Fans}
use Rattle.level_arrays.specs.declared.Draft.{Draft}
use Rattle.level_arrays.specs.Arrays.{start_at}
use Rattle.level_plans.specs.Backing.{arrays_room, Backed, Drafts}
use Rattle.level_plans.specs.Ranges.{RangeFilled, empty_draft, range_of, PlanArrays, PlanAsked, GatePlanned}

module _ {K bound w : ℕ} {f : Fans} {store a : List ℕ} (q : PlanAsked K f bound w store a) where
  abbrev n : ℕ
  n = f.count

  whole_mask : (0 < 2 ^ n - 1) × (2 ^ n - 1 < 2 ^ n)
  whole_mask = let m = pow_mono q.good.some.fanins.0 in (omega arith, omega arith)

  whole_backed : {b : List ℕ} → PlanArrays K f bound store b → length b ≡ arrays_room →
      Backed K n (start_at n bound) (range_of n bound) b (range_of n bound) (2 ^ n - 1) w empty_draft
  whole_backed {b} r l =
      let k = q.back b r in
      record {
        arrays = record {
          some = q.good.some;
          few = omega (arith, q.good.some.fanins);
          low = omega (arith, q.low);
          room = l;
          rows = _;
          searched = r.searched;
          nothing = r.nothing;
          falling = k.0;
        };
        mask = whole_mask;
        slot = omega arith;
        kept = k.1;
        room = record {
          steps = refl;
          rooms = (refl, refl);
          room = rw (select_all (upto n) n (upto_length n)) (omega (arith, upto_length n, q.good.some.fanins.1));
        };
      }

  -- the code's numbers and its draft
  module _ {from end : ℕ} {d : Draft} {b : List ℕ} (e : from ≡ start_at n bound) (z : end ≡ 2 ^ n) (o : d ≡ empty_draft)
      (r : RangeFilled K from (bound - from + 1) f store b) where
    pub plan_backed : Backed K n from (bound - from + 1) b (bound - from + 1) (end - 1) w d
    plan_backed = rw (e, z, o) (whole_backed (rw e at r.ranged) r.room)

    pub plan_read : {g : Draft} → Drafts K from b (bound - from + 1) (end - 1) w d g → GatePlanned K f bound w store b g
    plan_read s = record {
      ranged = rw e at r.ranged;
      room = r.room;
      start = d;
      none = rw o refl;
      drafted = rw (e, z) at (s n (bound - from + 1) plan_backed);
    }
