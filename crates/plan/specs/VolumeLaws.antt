-- Laws of volumes. A join has at least its operands' volumes, so what a list of keys reaches has at least the sum of theirs.
-- Of two keys with at least 2 inputs and at most K, the one with the lesser volume comes first. So a join whose volume is that
-- sum is the best.
use Rattle.std.specs.Prelude.{ℕ, ◌+◌, ◌-◌, ◌*◌, ◌≤◌, List}
use Rattle.std.proofs.Math.Nat.{mul-add, mul-le-mul_left}
use Rattle.std.proofs.Common.{mul-le-mul, arith}
use Rattle.std.proofs.Math.Decide.{dec_lt}
use Rattle.std.proofs.Math.Path.{ap}
use Rattle.std.proofs.Math.Logic.{by_cases}
use Rattle.lists.specs.Trusted.Lists.{Every, sum}
use Rattle.lists.specs.MixLaws.{mix_every}
use Rattle.lists.specs.NumberLaws.{sum_mix}
use Rattle.plan.specs.declared.Key.{Key}
use Rattle.plan.specs.Key.{◌≼◌, join}
use Rattle.plan.specs.KeyLaws.{pack_cases}
use Rattle.plan.specs.Reach.{Reach, one, both, Wide}
use Rattle.plan.specs.ReachBounds.{reach_width}
use Rattle.plan.specs.Volume.{volume}

-- the greatest volume with at most m inputs and n tables below
pub volume_most : {K : ℕ} {a : Key} (m n : ℕ) → K ≤ m → a.width ≤ K → a.below ≤ n → volume K a ≤ (m - 1) * n + m
unfolding volume
volume_most {K} m n h w b =
    let l : K - 1 ≤ m - 1 = omega arith in
    omega (arith, mul-le-mul l b)

module _ (K : ℕ) (two : 2 ≤ K) where
  pub join_volume : (a b : Key) → a.width ≤ K → b.width ≤ K → volume K a + volume K b ≤ volume K (join K a b)
  unfolding volume
  join_volume a b u v =
      let e = mul-add (K - 1) a.below b.below in
      pack_cases K _ _ _ (λ r. volume K a + volume K b ≤ volume K r)
      (λ p. omega arith)
      (λ p q. omega (arith, mul-add (K - 1) (a.below + b.below) 1))
      (λ p q. omega (arith, mul-add (K - 1) (a.below + b.below) 2))

  pub reach_volume : {zs : List Key} {r : Key} → Reach K zs r → Wide zs → Every (λ a. a.width ≤ K) zs →
      sum (volume K) zs ≤ volume K r
  reach_volume one w h = omega arith
  reach_volume (both {a = a} {b = b} m p q) w h =
      let v = mix_every m w in
      let g = mix_every m h in
      let j = join_volume a b (reach_width K two p v.0 g.0) (reach_width K two q v.1 g.1) in
      omega (arith, sum_mix (volume K) m, reach_volume p v.0 g.0, reach_volume q v.1 g.1)

  -- the order of keys by volumes
  pub volume_first : {a b : Key} → 2 ≤ a.width → b.width ≤ K → volume K a ≤ volume K b → a ≼ b
  unfolding volume
  volume_first {a} {b} u v l = record {
    count = by_cases (dec_lt b.below a.below)
        (λ h. absurd (omega (arith, mul-le-mul_left (K - 1) h, mul-add (K - 1) b.below 1)))
        (λ h. omega arith);
    inputs = λ e. omega (arith, ap (λ n. (K - 1) * n) e);
  }
