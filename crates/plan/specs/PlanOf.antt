-- What a plan for one gate has to be, from its fanins' keys: by cases on a test of the input. Internal definitions.
use Rattle.std.specs.Prelude.{ℕ, ◌+◌, ◌*◌, ◌≡◌, Bool, true, false, ◌&&◌, Option, Some, None, List, length, take, replicate}
use Rattle.lists.specs.Sequences.{upto}
use Rattle.lists.specs.Trusted.Tests.{all, within}
use Rattle.plan.specs.declared.Key.{Key}
use Rattle.plan.specs.declared.Token.TheVariants.{Push as push}
use Rattle.plan.specs.declared.Plan.{Plan}
use Rattle.tree.specs.Trusted.Limits.{fewest_fanins, most_fanins}
use Rattle.plan.specs.Limits.{least_inputs, most_inputs, most_steps}
use Rattle.plan.specs.Plans.{Planned}
use Rattle.plan.specs.Reach.{LeastReach}
use Rattle.plan.specs.Steps.{tokens}

-- the key of a fanin has from 1 to K inputs
unfoldable pub fanin_test : ℕ → Key → Bool
fanin_test K a = within 1 K a.width

-- the first `count` keys can be searched
unfoldable pub good_input : ℕ → ℕ → List Key → Bool
good_input K count keys =
    within least_inputs most_inputs K && (within fewest_fanins most_fanins count && all (fanin_test K) (take count keys))

-- a plan of no steps
abbrev pub empty_plan : Key → Plan
empty_plan a = record { key = a; len = 0; steps = replicate most_steps (push 0) }

-- a plan for fanins with these keys: it joins each of them once, and no plan has a better key
pub record PlanAnswer (K : ℕ) (ks : List Key) (r : Plan) : Type 0 where
  pub least : LeastReach K ks r.key
  pub planned : Planned K ks (upto (length ks)) (tokens r) r.key
  pub len : r.len + 1 ≡ 2 * length ks
  pub size : length r.steps ≡ most_steps

-- the promise: there is a plan exactly for good input
abbrev pub PlanOf : ℕ → ℕ → List Key → Option Plan → Type 0
PlanOf K count keys (Some r) = (good_input K count keys ≡ true) × PlanAnswer K (take count keys) r
PlanOf K count keys None = good_input K count keys ≡ false
