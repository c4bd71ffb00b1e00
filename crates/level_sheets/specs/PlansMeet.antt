-- Plans for the gates of a sheet, one for each, and what they meet. Internal definitions.
use Rattle.std.specs.Prelude.{ℕ, ◌-◌, ◌≤◌, ◌<◌, ◌≡◌, Bool, true, false, List, [], length, get_or}
use Rattle.lists.specs.Sequences.{Paired, upto}
use Rattle.plan.specs.declared.Plan.{Plan}
use Rattle.plan.specs.Key.{key}
use Rattle.plan.specs.Limits.{most_steps}
use Rattle.plan.specs.Steps.{tokens}
use Rattle.sheet.specs.declared.Source.{Source}
use Rattle.sheet.specs.declared.Source.TheVariants.{Net, Gate}
use Rattle.sheet.specs.Trusted.Sheet.{DrawnGate}
use Rattle.sheet.specs.PlaceLaws.{no_gate, no_edge}
use Rattle.levels.specs.Demands.{Demand, demand, DemandPlanned}
use Rattle.level_arrays.specs.Arrays.{PlacesGates}

-- what an array of plans, and a list of demands, gives past its end
abbrev pub no_plan : Plan
no_plan = record { key = key 0 0; len = 0; steps = [] }

abbrev pub no_demand : Demand
no_demand = demand 0 0 0

-- what a fanin is asked to give, where the gates are to give `ds`
abbrev pub Asked : (ℕ → ℕ) → List Demand → Source → Demand → Type 0
Asked lev ds (Net n) q = (lev n ≤ q.bound) × (1 ≤ q.inputs)
Asked lev ds (Gate g) q = q ≡ get_or ds (g - 1) no_demand

-- which fanins of a gate are nets
abbrev pub is_net : Source → Bool
is_net (Net n) = true
is_net (Gate g) = false

abbrev pub reads_net : DrawnGate → ℕ → Bool
reads_net g i = is_net (get_or g.fanins i no_edge).source

-- the plan of a gate joins each of its fanins once, and meets the demand d where they give what they are asked; it places no net
pub record PlanFor (K : ℕ) (lev : ℕ → ℕ) (ds : List Demand) (g : DrawnGate) (d : Demand) (p : Plan) : Type 0 where
  pub demands : List Demand
  pub asked : Paired (λ f q. Asked lev ds f.source q) g.fanins demands
  pub planned : DemandPlanned K demands (upto (length demands)) (tokens p) d
  pub places : PlacesGates (reads_net g) (tokens p) []
  pub len : p.len ≤ most_steps

-- so for each gate of a sheet
pub record PlansMeet (K : ℕ) (lev : ℕ → ℕ) (ds : List Demand) (gs : List DrawnGate) (plans : List Plan) : Type 0 where
  pub count : length ds ≡ length gs
  pub each : (j : ℕ) → j < length gs → PlanFor K lev ds (get_or gs j no_gate) (get_or ds j no_demand) (get_or plans j no_plan)

-- what the root is to give
abbrev pub last_demand : List Demand → Demand
last_demand ds = get_or ds (length ds - 1) no_demand
