-- Few leaves stand under every gate that is tried. Assumes nothing.
use Prim.Native.Nat.{ℕ, zero, suc, ◌+◌, ◌*◌, ◌≤◌}
use native.Mathlib.Omega.{arith}
use mathlib.Core.Path.{◌≡◌, sym, subst}
use Rattle.std.proofs.Common.{Some}
use mathlib.Core.List.{List, [], ◌∷◌}
use lib.Dec.{T}
use lib.ListN.{length, take, set, replicate}
use Rattle.lists.specs.Trusted.Lists.{Every, sum}
use Rattle.lists.specs.ListLaws.{every_none, every_cons, every_head, every_tail}
use Rattle.plan.specs.declared.Key.{Key}
use Rattle.plan.specs.declared.Plan.{Plan}
use Rattle.plan.specs.Volume.{fewest_leaves}
use Rattle.plan.specs.ReachBounds.{reach_leaves}
use Rattle.plan.specs.Entries.{FewLeaves}
use Rattle.plan.specs.PlanOf.{PlanOf}
use Rattle.plan.specs.PlanOfLaws.{reflects_good, good_size}

-- a key that asks for at most so many leaves
abbrev pub Light : ℕ → Key → Type 0
Light n a = fewest_leaves a ≤ n

light_sum : (n : ℕ) (ks : List Key) → Every (Light n) ks → sum fewest_leaves ks ≤ n * length ks
light_sum n [] h = omega arith
light_sum n (k ∷ ks) h = omega (arith, every_head h, light_sum n ks (every_tail h))

sum_take : (n : ℕ) (ks : List Key) → sum fewest_leaves (take n ks) ≤ sum fewest_leaves ks
sum_take zero ks = omega arith
sum_take (suc n) [] = omega arith
sum_take (suc n) (k ∷ ks) = omega (arith, sum_take n ks)

-- the first of ten such keys
pub light_take : (n : ℕ) (ks : List Key) (count : ℕ) → length ks ≡ 10 → Every (Light n) ks → sum fewest_leaves (take count ks) ≤ 10 * n
light_take n ks count l h = omega (arith, sum_take count ks, rw l at (light_sum n ks h))

pub light_set : {n : ℕ} (ks : List Key) (i : ℕ) (a : Key) → Every (Light n) ks → Light n a → Every (Light n) (set ks i a)
light_set [] i a h l = every_none _
light_set (k ∷ ks) zero a h l = every_cons l (every_tail h)
light_set (k ∷ ks) (suc i) a h l = every_cons (every_head h) (light_set ks i a (every_tail h) l)

-- two keys and eight leaves
pub two_few : (a b l : Key) (count : ℕ) → Light 1 l → fewest_leaves a + fewest_leaves b ≤ 248 → FewLeaves (take count (a ∷ b ∷ replicate 8 l))
two_few a b l count h m = omega (arith, sum_take count (a ∷ b ∷ replicate 8 l))

-- a plan's key asks for no more leaves than the keys do
pub plan_light : (K count : ℕ) (keys : List Key) (r : Plan) → length keys ≡ 10 → FewLeaves (take count keys) → PlanOf K count keys (Some r) →
    fewest_leaves r.key ≤ sum fewest_leaves (take count keys)
plan_light K count keys r l few h =
    let t = subst T (sym h.0) tt in
    let g = (reflects_good K count keys (good_size K count keys (omega arith) t) few).to t in
    reach_leaves K g.table.0 h.1.least.reach
