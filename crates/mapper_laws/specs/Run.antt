-- The run of a gate's plan on tables: operands are tables that are not placed yet, a join merges two of them into one, and placing
-- one puts its table after those that are there and leaves the table's code in its stead. Internal definitions: the laws are in RunLaws.
use Rattle.std.specs.Prelude.{ℕ, suc, ◌+◌, ◌≤◌, ◌<◌, Bool, true, false, List, [], ◌∷◌, ◌++◌, length, get_or}
use Rattle.tree.specs.declared.Kind.{Kind}
use Rattle.cover.specs.Trusted.Tables.{LookupTable}
use Rattle.pending.specs.Operands.{Operand, single, merged}
use Rattle.plan.specs.declared.Token.{Token}
use Rattle.plan.specs.declared.Token.TheVariants.{Push as push, Join as join}

abbrev pub merge : Kind → Operand → Operand → Operand
merge k x y = record { inverted = false; table = merged k x y }

-- the operands, the last one first, and the tables placed
pub record State : Type 0 where
  pub stack : List Operand
  pub placed : List LookupTable

-- `n` tables stand before those that are placed
module _ (base n : ℕ) where
  -- the code of the next table to be placed
  abbrev pub next_code : List LookupTable → ℕ
  next_code ts = base + suc (n + length ts)

  -- an operand held, or placed
  abbrev pub operand : Bool → List LookupTable → Operand → Operand
  operand false ts x = x
  operand true ts x = record { inverted = x.inverted; table = single (next_code ts) }

  abbrev pub tables_after : Bool → List LookupTable → Operand → List LookupTable
  tables_after false ts x = ts
  tables_after true ts x = ts ++ (x.table ∷ [])

  module _ (k : Kind) where
    -- the left operand is placed before the right one; with fewer than two operands nothing is joined
    abbrev pub join_top : Bool → Bool → List Operand → List LookupTable → State
    join_top l r [] ts = record { stack = []; placed = ts }
    join_top l r (y ∷ []) ts = record { stack = y ∷ []; placed = ts }
    join_top l r (y ∷ x ∷ st) ts = record {
      stack = merge k (operand l ts x) (operand r (tables_after l ts x) y) ∷ st;
      placed = tables_after r (tables_after l ts x) y;
    }

    module _ (fanins : List Operand) where
      abbrev pub run_token : Token → State → State
      run_token (push i) s = record { stack = get_or fanins i (record { inverted = false; table = single 0 }) ∷ s.stack; placed = s.placed }
      run_token (join l r) s = join_top l r s.stack s.placed

      abbrev pub run_plan : List Token → State → State
      run_plan [] s = s
      run_plan (t ∷ ts) s = run_plan ts (run_token t s)

      -- ---- what a run has room for: ten operands, tables of six inputs, and eighteen tables placed

      abbrev pub SafeJoin : Bool → Bool → List Operand → List LookupTable → Type 0
      SafeJoin l r [] ts = ⊥
      SafeJoin l r (y ∷ []) ts = ⊥
      SafeJoin l r (y ∷ x ∷ st) ts =
          (length (operand l ts x).table.inputs + length (operand r (tables_after l ts x) y).table.inputs ≤ 6) × (length ts + 2 ≤ 18)

      abbrev pub SafeStep : Token → State → Type 0
      SafeStep (push i) s = (i < length fanins) × (length s.stack < 10)
      SafeStep (join l r) s = SafeJoin l r s.stack s.placed

      abbrev pub SafeRun : List Token → State → Type 0
      SafeRun [] s = Unit {0}
      SafeRun (t ∷ ts) s = SafeStep t s × SafeRun ts (run_token t s)
