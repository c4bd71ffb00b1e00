-- Laws of what is promised of a plan: when input is good, and what a plan's steps and key are bounded by.
use Rattle.std.specs.Prelude.{ℕ, ◌≤◌, ◌≡◌, refl, Option, Some, None, List, T, length, take}
use Rattle.std.proofs.Common.{arith, subst, length-take-le}
use Rattle.lists.specs.Cases.{and_split}
use Rattle.lists.specs.Trusted.Tests.{within}
use Rattle.lists.specs.TestLaws.{reflects_map, reflects_and, reflects_all, reflects_within}
use Rattle.lists.specs.Trusted.Tests.{Reflects}
use Rattle.plan.specs.declared.Key.{Key}
use Rattle.plan.specs.declared.Plan.{Plan}
use Rattle.tree.specs.Trusted.Limits.{fewest_fanins, most_fanins}
use Rattle.plan.specs.Limits.{least_inputs, most_inputs, most_steps}
use Rattle.plan.specs.Entries.{Small, FewLeaves, GoodKeys}
use Rattle.plan.specs.PlanOf.{fanin_test, good_input, PlanAnswer, PlanOf}

reflects_fanin : (K : ℕ) (a : Key) → Reflects (fanin_test K a) (Small K a)
unfolding fanin_test
reflects_fanin K a = reflects_map (λ h. record { some = h.0; most = h.1 }) (λ f. (f.some, f.most)) (reflects_within 1 K a.width)

-- the input is good where its keys can be searched
pub reflects_good : (K count : ℕ) (keys : List Key) → length (take count keys) ≡ count → FewLeaves (take count keys) →
    Reflects (good_input K count keys) (GoodKeys K (take count keys))
unfolding good_input
reflects_good K count keys e few =
    reflects_map
    (λ h. record { table = h.0; count = rw e h.1.0; keys = h.1.1; few = few })
    (λ g. (g.table, (rw e at g.count, g.keys)))
    (reflects_and (reflects_within least_inputs most_inputs K)
    (reflects_and (reflects_within fewest_fanins most_fanins count) (reflects_all (fanin_test K) (reflects_fanin K) (take count keys))))

-- and then there are as many keys as are counted
pub good_size : (K count : ℕ) (keys : List Key) → most_fanins ≤ length keys → T (good_input K count keys) → length (take count keys) ≡ count
unfolding good_input
good_size K count keys l h =
    let p = and_split (within least_inputs most_inputs K) _ h in
    let q = and_split (within fewest_fanins most_fanins count) _ p.1 in
    length-take-le count keys (omega (arith, (reflects_within fewest_fanins most_fanins count).to q.0))

-- good input has a plan
pub plan_answer : (K count : ℕ) (keys : List Key) (r : Option Plan) → length (take count keys) ≡ count → GoodKeys K (take count keys) →
    PlanOf K count keys r → (p : Plan) × (r ≡ Some p) × PlanAnswer K (take count keys) p
plan_answer K count keys (Some p) e g h = (p, refl, h.1)
plan_answer K count keys None e g h = absurd (subst T h ((reflects_good K count keys e g.few).from g))

module _ {K : ℕ} {ks : List Key} {r : Plan} (a : PlanAnswer K ks r) where
  pub answer_most : GoodKeys K ks → r.len ≤ most_steps
  answer_most g = omega (arith, a.len, g.count.1)
