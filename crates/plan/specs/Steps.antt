-- The steps of a plan as the code holds it, and what writing them for a mask has to give. Internal definitions.
use Rattle.std.specs.Prelude.{ℕ, ◌+◌, ◌*◌, ◌^◌, ◌≤◌, ◌<◌, ◌≡◌, List, ◌++◌, length, take, set}
use Rattle.lists.specs.Sequences.{upto}
use Rattle.plan.specs.declared.Key.{Key}
use Rattle.plan.specs.declared.Token.{Token}
use Rattle.plan.specs.declared.Token.TheVariants.{Push as push, Join as join}
use Rattle.plan.specs.declared.Plan.{Plan}
use Rattle.plan.specs.Limits.{masks, most_steps}
use Rattle.plan.specs.Key.{cuts}
use Rattle.plan.specs.Masks.{select}
use Rattle.plan.specs.MaskPlans.{MaskPlanned}
use Rattle.plan.specs.Entries.{entry, Entries, GoodKeys}

-- the tokens of a plan
abbrev pub tokens : Plan → List Token
tokens p = take p.len p.steps

-- a plan with one step more
abbrev pub stepped : Plan → Token → Plan
stepped p t = record { key = p.key; len = p.len + 1; steps = set p.steps p.len t }

-- the token of the join of two keys
abbrev pub join_token : ℕ → Key → Key → Token
join_token K a b = join (cuts K a b).0 (cuts K a b).1

-- q is p with the fanin of the mask taken
abbrev pub Took : ℕ → Plan → Plan → Type 0
Took s p q = (h : ℕ) × (2 ^ h ≡ s) × (q ≡ stepped p (push h))

-- the mask has an entry, as have all below it, and the plan has room: each fanin takes two steps, but the first one
pub record Writable (K : ℕ) (bs ws us : List ℕ) (s : ℕ) (p : Plan) : Type 0 where
  pub keys : List Key
  pub good : GoodKeys K keys
  pub entries : Entries K keys bs ws us (s + 1)
  pub some : 0 < s
  pub place : s < masks
  pub size : length p.steps ≡ most_steps
  pub room : p.len + 2 * length (select s (upto (length keys))) ≤ most_steps + 1

-- q is p with a plan for the mask added
pub record StepsWritten (K : ℕ) (ks : List Key) (bs ws : List ℕ) (s : ℕ) (p q : Plan) : Type 0 where
  pub added : List Token
  pub planned : MaskPlanned K ks s added (entry bs ws s)
  pub is : tokens q ≡ tokens p ++ added
  pub len : q.len ≡ p.len + length added
  pub size : length q.steps ≡ most_steps
  pub kept : q.key ≡ p.key

-- whatever keys the entries are of
abbrev pub Writes : ℕ → List ℕ → List ℕ → List ℕ → ℕ → Plan → Plan → Type 0
Writes K bs ws us s p q = (ks : List Key) → Entries K ks bs ws us (s + 1) → StepsWritten K ks bs ws s p q
