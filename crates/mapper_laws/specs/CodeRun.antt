-- The code's run of a plan, as the run on lists. Internal definitions: the laws are in CodeRunLaws.
use Rattle.std.specs.Prelude.{ℕ, zero, suc, ◌+◌, ◌-◌, ◌<◌, ◌≤◌, Bool, true, false, List, [], ◌∷◌, map, ◌≡◌, length, get_or, set, take, drop}
use Rattle.pending.specs.declared.Lut.{Lut}
use Rattle.tree.specs.declared.Kind.{Kind}
use Rattle.tree.specs.Trusted.Limits.{code_base}
use Rattle.pending.specs.Luts.{lut_table, lut_of}
use Rattle.cover.specs.Trusted.Tables.{LookupTable}
use Rattle.pending.specs.declared.Pending.{Pending}
use Rattle.mapper_laws.specs.declared.PlanRun.{PlanRun}
use Rattle.mapper_laws.specs.declared.Operands.{Operands}
use Rattle.plan.specs.declared.Token.{Token}
use Rattle.plan.specs.declared.Plan.{Plan}
use Rattle.plan.specs.Steps.{tokens}
use Rattle.pending.specs.Operands.{Operand, single, merged}
use Rattle.mapper_laws.specs.Run.{State, run_token, run_plan, SafeStep, SafeRun}
use Rattle.pending.specs.Pendings.{operand_of, MergeKept, Neat, Mergeable}

-- one operand more
abbrev pub pushed : PlanRun → Pending → PlanRun
pushed s x = record { depth = s.depth + 1; stack = set s.stack s.depth x; placed = s.placed; tables = s.tables }

-- a table placed, where the flag says so
abbrev pub placed_if : Bool → PlanRun → Lut → PlanRun
placed_if false s t = s
placed_if true s t = record { depth = s.depth; stack = s.stack; placed = s.placed + 1; tables = set s.tables s.placed t }

-- what an array gives past its end: no table, and no operand
abbrev pub no_table : Lut
no_table = record { net = 0; count = 0; inputs = []; truth = 0 }

abbrev pub no_pending : Pending
no_pending = record { inverted = false; table = no_table }

-- the operand i, counted from the bottom
abbrev pub operand_at : PlanRun → ℕ → Pending
operand_at s i = get_or s.stack i no_pending

-- the two operands on top replaced by one that is read upright
abbrev pub replaced : PlanRun → Lut → PlanRun
replaced s t = record {
  depth = s.depth - 1;
  stack = set s.stack (s.depth - 2) (record { inverted = false; table = t });
  placed = s.placed;
  tables = s.tables;
}

-- an operand held; or the code of the table in which it is placed
abbrev pub held_if : Bool → (first placed : ℕ) → Pending → Pending
held_if false first placed x = x
held_if true first placed x = record { inverted = x.inverted; table = lut_of (single (code_base + (first + placed) + 1)) }

-- the two operands on top joined, each placed first where its flag says so
module _ (first : ℕ) where
  -- the left operand, the run after it, and the right operand
  abbrev pub left_of : Bool → PlanRun → Pending
  left_of l s = held_if l first s.placed (operand_at s (s.depth - 2))

  abbrev pub left_placed : Bool → PlanRun → PlanRun
  left_placed l s = placed_if l s (operand_at s (s.depth - 2)).table

  abbrev pub right_of : Bool → Bool → PlanRun → Pending
  right_of l r s = held_if r first (left_placed l s).placed (operand_at s (s.depth - 1))

  abbrev pub joined : Kind → Bool → Bool → PlanRun → PlanRun
  joined k l r s =
      replaced (placed_if r (left_placed l s) (operand_at s (s.depth - 1)).table) (lut_of (merged k (operand_of (left_of l s)) (operand_of (right_of l r s))))

  pub record Joins (l r : Bool) (s : PlanRun) : Type 0 where
    pub before : first < 2000
    pub depth : (2 ≤ s.depth) × (s.depth ≤ 10)
    pub placed : s.placed + 2 ≤ 18
    pub fits : Mergeable (left_of l s) (right_of l r s)

-- ---- as a run on lists

-- the first d operands, the last one first
abbrev pub stack_of : ℕ → List Pending → List Operand
stack_of zero ps = []
stack_of (suc d) ps = operand_of (get_or ps d no_pending) ∷ stack_of d ps

abbrev pub placed_of : PlanRun → List LookupTable
placed_of s = map lut_table (take s.placed s.tables)

abbrev pub state_of : PlanRun → State
state_of s = record { stack = stack_of s.depth s.stack; placed = placed_of s }

-- what holds of a run: its counts are within its arrays, its operands' inputs rise, and its records are those of their tables
pub record Holds (s : PlanRun) : Type 0 where
  pub depth : s.depth ≤ 10
  pub placed : s.placed ≤ 18
  pub stack_room : length s.stack ≡ 10
  pub table_room_lem : length s.tables ≡ 18
  pub operands : (i : ℕ) → i < s.depth → Neat (operand_at s i).table
  pub kept : (i : ℕ) → i < s.placed → MergeKept (get_or s.tables i no_table)

-- ---- a step of a plan

abbrev pub fanins_of : Operands → List Operand
fanins_of o = map operand_of (take o.count o.fanins)

pub record Good (o : Operands) : Type 0 where
  pub count : o.count ≤ 10
  pub room : length o.fanins ≡ 10
  pub neat : (i : ℕ) → i < o.count → Neat (get_or o.fanins i no_pending).table

pub record Advances (first : ℕ) (k : Kind) (o : Operands) (token : Token) (s : PlanRun) : Type 0 where
  pub before : first < 2000
  pub good : Good o
  pub holds : Holds s
  pub safe : SafeStep code_base first k (fanins_of o) token (state_of s)

pub record Advanced (first : ℕ) (k : Kind) (o : Operands) (token : Token) (s s' : PlanRun) : Type 0 where
  pub holds : Holds s'
  pub state : state_of s' ≡ run_token code_base first k (fanins_of o) token (state_of s)

-- ---- a plan

abbrev pub begun : State
begun = record { stack = []; placed = [] }

pub record Runnable (first : ℕ) (k : Kind) (o : Operands) (p : Plan) : Type 0 where
  pub before : first < 2000
  pub good : Good o
  pub len : p.len ≤ 19
  pub safe : SafeRun code_base first k (fanins_of o) (tokens p) begun

pub record Ran (first : ℕ) (k : Kind) (o : Operands) (p : Plan) (s : PlanRun) : Type 0 where
  pub holds : Holds s
  pub state : state_of s ≡ run_plan code_base first k (fanins_of o) (tokens p) begun

-- the first i steps were taken
pub record Following (first : ℕ) (k : Kind) (o : Operands) (p : Plan) (i : ℕ) (s : PlanRun) : Type 0 where
  pub at : i ≤ p.len
  pub holds : Holds s
  pub safe : SafeRun code_base first k (fanins_of o) (drop i (tokens p)) (state_of s)
  pub ends : run_plan code_base first k (fanins_of o) (drop i (tokens p)) (state_of s) ≡ run_plan code_base first k (fanins_of o) (tokens p) begun
