-- How large a key can be that a list of keys reaches: its inputs, and the leaves under it.
use Rattle.std.specs.Prelude.{ℕ, zero, suc, ◌+◌, ◌/◌, ◌%◌, ◌≤◌, List, [], ◌∷◌}
use Rattle.std.proofs.Common.{arith}
use Rattle.lists.specs.Trusted.Lists.{Every, sum}
use Rattle.lists.specs.ListLaws.{every_head}
use Rattle.lists.specs.MixLaws.{mix_every}
use Rattle.lists.specs.NumberLaws.{sum_mix}
use Rattle.plan.specs.declared.Key.{Key}
use Rattle.plan.specs.KeyLaws.{join_width, join_leaves}
use Rattle.cover.specs.Trusted.Cover.{pick}
use Rattle.plan.specs.Masks.{select}
use Rattle.plan.specs.MaskLaws.{select_every}
use Rattle.plan.specs.Reach.{Reach, one, both, Wide}
use Rattle.plan.specs.ReachLaws.{reach_wide}
use Rattle.plan.specs.Entries.{Small, FewLeaves, GoodKeys}
use Rattle.plan.specs.Volume.{fewest_leaves}

module _ (K : ℕ) (two : 2 ≤ K) where
  pub reach_leaves : {zs : List Key} {r : Key} → Reach K zs r → fewest_leaves r ≤ sum fewest_leaves zs
  reach_leaves one = omega arith
  reach_leaves (both {a = a} {b = b} m p q) = omega (arith, sum_mix fewest_leaves m, reach_leaves p, reach_leaves q, join_leaves K two a b)

  pub reach_width : {zs : List Key} {r : Key} → Reach K zs r → Wide zs → Every (λ a. a.width ≤ K) zs → r.width ≤ K
  reach_width one w h = every_head h
  reach_width (both {a = a} {b = b} m p q) w h =
      let v = mix_every m w in
      omega (arith, join_width K two a b (reach_wide two p v.0) (reach_wide two q v.1))

  pub reach_small : {ks : List Key} {r : Key} → Every (Small K) ks → Reach K ks r → Small K r
  reach_small {ks} f p =
      let w : Wide ks = λ a m. (f a m).some in
      record { some = reach_wide two p w; most = reach_width p w (λ a m. (f a m).most) }

pick_sum : {A : Type 0} (f : A → ℕ) (k : A) (xs : List A) (d : ℕ) → sum f (pick d xs (k ∷ xs)) ≤ f k + sum f xs
pick_sum f k xs zero = omega arith
pick_sum f k xs (suc d) = omega arith

select_sum : {A : Type 0} (f : A → ℕ) (s : ℕ) (ks : List A) → sum f (select s ks) ≤ sum f ks
select_sum f s [] = omega arith
select_sum f s (k ∷ ks) = omega (arith, pick_sum f k (select (s / 2) ks) (s % 2), select_sum f (s / 2) ks)

-- some of the fanins
module _ {K : ℕ} {ks : List Key} (g : GoodKeys K ks) (s : ℕ) where
  pub select_small : {r : Key} → Reach K (select s ks) r → Small K r
  select_small = reach_small K g.table.0 (select_every ks s g.keys)

  pub select_few : FewLeaves (select s ks)
  select_few = omega (arith, select_sum fewest_leaves s ks, g.few)
