-- A gate of two fanins, which the code maps without a search: the run of a plan of three steps. Internal definitions: the laws are in PairLaws.
use Rattle.std.specs.Prelude.{ℕ, ◌+◌, Bool, true, false, List, [], ◌∷◌, replicate}
use Rattle.tree.specs.declared.Kind.{Kind}
use Rattle.plan.specs.declared.Key.{Key}
use Rattle.plan.specs.Key.{leaf_key, join, cuts}
use Rattle.sheet.specs.declared.Source.{Source}
use Rattle.sheet.specs.declared.Source.TheVariants.{Net, Gate}
use Rattle.pending.specs.declared.Lut.{Lut}
use Rattle.pending.specs.Luts.{lut_of}
use Rattle.pending.specs.declared.Pending.{Pending}
use Rattle.mapper_laws.specs.declared.Operands.{Operands}
use Rattle.mapper_laws.specs.declared.PlanRun.{PlanRun}
use Rattle.mapper_laws.specs.declared.Held.{Held}
use Rattle.mapper_laws.specs.declared.MappedPair.{MappedPair}
use Rattle.pending.specs.Operands.{merged}
use Rattle.pending.specs.Pendings.{operand_of}
use Rattle.mapper_laws.specs.CodeRun.{no_table, no_pending, pushed, held_if}
use Rattle.mapper_laws.specs.CodeMap.{leaf_of, with_fanin}

-- ---- a fanin

-- what it reads, where `h` stands at that place
abbrev pub read_as : Source → Held → Held
read_as (Net n) h = leaf_of n
read_as (Gate g) h = h

abbrev pub pending_of : Bool → Held → Pending
pending_of i h = record { inverted = i; table = h.table }

abbrev pub key_in : Held → Key
key_in h = record { below = h.below; width = h.table.count }

-- ---- two of them

abbrev pub no_operands : Operands
no_operands = record { count = 0; fanins = replicate 10 no_pending; keys = replicate 10 leaf_key }

abbrev pub pair_of : Bool → Held → Bool → Held → Operands
pair_of i x j y = with_fanin (with_fanin no_operands i x) j y

abbrev pub count_if : Bool → ℕ
count_if false = 0
count_if true = 1

-- the left table, where it is placed, and the right one
abbrev pub two_tables : Bool → Lut → Lut → List Lut
two_tables false s t = t ∷ t ∷ []
two_tables true s t = s ∷ t ∷ []

-- a run that has not begun, and one that has taken both fanins: the second one is the left operand
abbrev pub no_run : PlanRun
no_run = record { depth = 0; stack = replicate 10 no_pending; placed = 0; tables = replicate 18 no_table }

abbrev pub pair_taken : Bool → Held → Bool → Held → PlanRun
pair_taken i x j y = pushed (pushed no_run (pending_of j y)) (pending_of i x)

-- the table that holds them
module _ (first : ℕ) (k : Kind) (l r : Bool) where
  abbrev pub joint_of : Bool → Held → Bool → Held → Lut
  joint_of i x j y = lut_of (merged k (operand_of (held_if l first 0 (pending_of j y))) (operand_of (held_if r first (count_if l) (pending_of i x))))

module _ (K first : ℕ) (k : Kind) where
  abbrev pub pair_mapped : Bool → Held → Bool → Held → MappedPair
  pair_mapped i x j y = record {
    held = record {
      below = (join K (key_in y) (key_in x)).below;
      table = joint_of first k (cuts K (key_in y) (key_in x)).0 (cuts K (key_in y) (key_in x)).1 i x j y;
    };
    placed = count_if (cuts K (key_in y) (key_in x)).0 + count_if (cuts K (key_in y) (key_in x)).1;
    tables = two_tables (cuts K (key_in y) (key_in x)).0 y.table x.table;
  }

-- what is staged of it
abbrev pub staged_of : MappedPair → PlanRun
staged_of p = record { depth = 0; stack = []; placed = p.placed; tables = p.tables }
