-- What is asked of the gates of a sheet while plans are read back, from the last gate to the first. Internal definitions: the laws are in AskingLaws.
use Rattle.std.specs.Prelude.{ℕ, suc, ◌-◌, ◌≤◌, ◌<◌, ◌≡◌, ◌⊎◌, ◌≢◌, List, [], map, length, get_or}
use Rattle.lists.specs.Sequences.{upto}
use Rattle.plan.specs.declared.Plan.{Plan}
use Rattle.sheet.specs.Trusted.Sheet.{DrawnGate}
use Rattle.sheet.specs.Trusted.Trees.{edges_of, trees_of}
use Rattle.sheet.specs.PlaceLaws.{no_gate}
use Rattle.levels.specs.Gives.{fanins}
use Rattle.levels.specs.Lines.{look}
use Rattle.levels.specs.Demands.{Demand, demand}
use Rattle.level_arrays.specs.Arrays.{big, line_at}
use Rattle.level_arrays.specs.Askable.{Askable}
use Rattle.level_arrays.specs.declared.Fans.{Fans}
use Rattle.level_arrays.specs.declared.Draft.{Draft}
use Rattle.level_sheets.specs.SheetTrees.{fanins_at, ReadsAt}
use Rattle.level_sheets.specs.PlansMeet.{PlanFor, no_plan}

module _ (starts counts store : List ℕ) where
  -- the entry of gate j for so many inputs at a bound
  abbrev pub gate_entry : (j ℓ w : ℕ) → ℕ
  gate_entry j ℓ w = look big (get_or starts j 0) (get_or counts j 0 - 1) (line_at store j) ℓ w

  module _ (bounds inputs : List ℕ) where
    -- what is asked of gate j, and of each of n gates
    abbrev pub demand_at : ℕ → Demand
    demand_at j = demand (get_or bounds j 0) (get_or inputs j 0) (gate_entry j (get_or bounds j 0) (get_or inputs j 0))

    abbrev pub demands_of : ℕ → List Demand
    demands_of n = map demand_at (upto n)

-- gate j is the root, or is read by one of the gates from g on
abbrev pub ReadFrom : List DrawnGate → (g j : ℕ) → Type 0
ReadFrom gs g j = (suc j ≡ length gs) ⊎ ((k : ℕ) × (h : ℕ) × (g ≤ k) × ReadsAt gs k h j)

-- the gates from g on have their plans, and what they read is asked
pub record Asking (K : ℕ) (lev : ℕ → ℕ) (gs : List DrawnGate) (starts counts store : List ℕ) (g : ℕ) (bounds inputs : List ℕ) (plans : List Plan) : Type 0 where
  pub asked : (j : ℕ) → j < length gs → ReadFrom gs g j → Askable K lev (fanins (edges_of (trees_of [] gs) (fanins_at gs j))) (demand_at starts counts store bounds inputs j)
  pub low : (j : ℕ) → j < length gs → ReadFrom gs g j → get_or bounds j 0 ≤ 2000
  pub planned : (j : ℕ) → g ≤ j → j < length gs →
      PlanFor K lev (demands_of starts counts store bounds inputs (length gs)) (get_or gs j no_gate) (demand_at starts counts store bounds inputs j) (get_or plans j no_plan)

-- what a draft asks of the gates that its fanins read is written down, and nothing else changes
pub record AskedOf (f : Fans) (d : Draft) (bounds inputs bounds' inputs' : List ℕ) : Type 0 where
  pub read : (h : ℕ) → h < f.count → 0 < get_or f.lines h 0 →
      (get_or bounds' (get_or f.gates h 0) 0 ≡ get_or d.bounds h 0) × (get_or inputs' (get_or f.gates h 0) 0 ≡ get_or d.inputs h 0)
  pub others : (j : ℕ) → ((h : ℕ) → h < f.count → 0 < get_or f.lines h 0 → get_or f.gates h 0 ≢ j) →
      (get_or bounds' j 0 ≡ get_or bounds j 0) × (get_or inputs' j 0 ≡ get_or inputs j 0)
