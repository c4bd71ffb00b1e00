-- The loop over the submasks of r, from the greatest down: what holds of the best key so far, when the loop starts, after a turn,
-- and when it ends. Assumes nothing.
use Prim.Native.Nat.{ℕ, ◌+◌, ◌-◌, ◌≤◌, ◌<◌}
use native.Mathlib.Omega.{arith}
use native.Mathlib.Decide.{dec_lt}
use mathlib.Core.Path.{◌≡◌, sym}
use mathlib.Core.Logic.{by_cases}
use mathlib.Core.List.{List}
use lib.Bits.{bit_and, and_self}
use Rattle.plan.specs.declared.Key.{Key}
use Rattle.plan.specs.Key.{◌≼◌, join}
use Rattle.plan.specs.KeyLaws.{≼_refl, ≼_trans, join_width}
use Rattle.plan.specs.Masks.{MaskWithin}
use Rattle.plan.specs.MaskLaws.{within_le, next_within, next_greatest}
use Rattle.plan.specs.Entries.{entry, JoinableAt, Joined, Split, Made, BestJoin}
use Rattle.plan.specs.Volume.{volume}
use Rattle.plan.specs.VolumeLaws.{volume_first}

-- the key `a`, made by w, is no worse than the join by any submask above u, which is the next to be tried
pub record Tried (K : ℕ) (bs ws : List ℕ) (top r : ℕ) (a : Key) (w u : ℕ) : Type 0 where
  pub made : Made K bs ws top r a w
  pub at : MaskWithin u r
  pub here : u ≤ r
  pub low : (v : ℕ) → u < v → MaskWithin v r → a ≼ join K (entry bs ws (top + r - v)) (entry bs ws v)

module _ (K : ℕ) (bs ws : List ℕ) (top r : ℕ) where
  -- the join by u
  abbrev by : ℕ → Key
  by u = join K (entry bs ws (top + r - u)) (entry bs ws u)

  pub joinable_at : {least : ℕ} → Split K top r least bs ws → (u : ℕ) → 0 < u → MaskWithin u r → JoinableAt K bs ws (top + r - u) u
  joinable_at h u p w =
      let l = within_le u r w in
      record {
        places = (omega arith, omega arith);
        keys = record {
          table = h.table;
          left = h.keys (top + r - u) (omega arith) (omega arith);
          right = h.keys u p (omega arith);
          few = h.few u p w;
        };
      }

  -- that join has from 2 to K inputs
  by_width : {least : ℕ} → Split K top r least bs ws → (u : ℕ) → 0 < u → MaskWithin u r → (2 ≤ (by u).width) × ((by u).width ≤ K)
  by_width h u p w =
      let j = (joinable_at h u p w).keys in
      join_width K h.table.0 _ _ j.left.some j.right.some

  -- a submask above the next one is u or above u
  above_next : (u : ℕ) → MaskWithin u r → (P : ℕ → Type 0) → P u → ((v : ℕ) → u < v → MaskWithin v r → P v) →
      (v : ℕ) → bit_and (u - 1) r < v → MaskWithin v r → P v
  above_next u w P here above v l x =
      by_cases (dec_lt u v) (λ h. above v h x) λ h.
      by_cases (dec_lt v u) (λ g. absurd (omega (arith, next_greatest u r v w x g))) λ g.
      let e : v ≡ u = omega arith in
      rw e here

  pub tried_first : 0 < r → (a : Key) → a ≡ by r → Tried K bs ws top r a r (bit_and (r - 1) r)
  tried_first p a e = record {
    made = record { some = p; part = and_self r; is = e };
    at = next_within r r;
    here = within_le _ r (next_within r r);
    low = above_next r (and_self r) (λ v. a ≼ by v) (rw e (≼_refl _)) (λ v h w. absurd (omega (arith, within_le v r w)));
  }

  -- the best so far stays
  pub tried_stay : {a : Key} {w u : ℕ} → Tried K bs ws top r a w u → a ≼ by u → Tried K bs ws top r a w (bit_and (u - 1) r)
  tried_stay {a} {w} {u} p l = record {
    made = p.made;
    at = next_within u r;
    here = within_le _ r (next_within u r);
    low = above_next u p.at (λ v. a ≼ by v) l p.low;
  }

  -- or the join by u takes its place
  pub tried_take : {a : Key} {w u : ℕ} (b : Key) → Tried K bs ws top r a w u → 0 < u → b ≡ by u → b ≼ a →
      Tried K bs ws top r b u (bit_and (u - 1) r)
  tried_take {u = u} b p s e l = record {
    made = record { some = s; part = p.at; is = e };
    at = next_within u r;
    here = within_le _ r (next_within u r);
    low = above_next u p.at (λ v. b ≼ by v) (rw (sym e) (≼_refl b)) (λ v h w. ≼_trans l (p.low v h w));
  }

  -- the volume of a join can be asked for
  pub made_joined : {least : ℕ} {a : Key} {w : ℕ} → Split K top r least bs ws → Made K bs ws top r a w → Joined K a
  made_joined {w = w} h m = rw m.is (record { table = h.table; most = (by_width h w m.some m.part).1 })

  -- no submask is left
  pub tried_last : {a : Key} {w u : ℕ} → Tried K bs ws top r a w u → u ≡ 0 → BestJoin K bs ws top r a w
  tried_last p z = record { made = p.made; low = λ v h. p.low v (omega arith) }

  -- or the bound is met: no join has a lesser volume, so none is better
  pub made_least : {least : ℕ} {a : Key} {w : ℕ} → Split K top r least bs ws → Made K bs ws top r a w → volume K a ≡ least →
      BestJoin K bs ws top r a w
  made_least {w = w} h m e = record {
    made = m;
    low = λ v p i.
        let l = rw m.is at e in
        let b = h.bound v p i in
        rw m.is
        (volume_first K h.table.0 (by_width h w m.some m.part).0 (by_width h v p i).1 (omega arith));
  }
