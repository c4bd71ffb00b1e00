-- The code's mapping of a sheet, as the mapping on lists. Internal definitions: the laws are in CodeMapLaws.
use Rattle.std.specs.Prelude.{ℕ, ◌+◌, ◌<◌, ◌≤◌, ◌≡◌, Bool, true, false, length, get_or, set, take, List, [], ◌∷◌, ◌++◌, map}
use Rattle.lists.specs.Trusted.Lists.{Every}
use Rattle.lists.specs.Sequences.{Paired}
use Rattle.tree.specs.declared.Kind.{Kind}
use Rattle.tree.specs.Trusted.Limits.{code_base, most_fanins}
use Rattle.plan.specs.declared.Key.{Key}
use Rattle.plan.specs.declared.Plan.{Plan}
use Rattle.plan.specs.Key.{leaf_key}
use Rattle.plan.specs.Reach.{Best}
use Rattle.plan.specs.Plans.{made, Runs}
use Rattle.plan.specs.PlanOf.{PlanAnswer}
use Rattle.plan.specs.Steps.{tokens}
use Rattle.plan.specs.Entries.{GoodKeys}
use Rattle.cover.specs.Trusted.Cover.{Fanins}
use Rattle.cover.specs.Trusted.Tables.{LookupTable}
use Rattle.cover.specs.Trusted.CoverTables.{LeastCoverTables}
use Rattle.sheet.specs.declared.Edge.{Edge}
use Rattle.sheet.specs.declared.Gate.{Gate}
use Rattle.sheet.specs.declared.Sheet.{Sheet}
use Rattle.sheet.specs.Trusted.Limits.{most_gates}
use Rattle.sheet.specs.Trusted.Sheet.{DrawnGate, fanin_gates}
use Rattle.sheet.specs.Trusted.Answers.{drawn_gate, drawn_sheet}
use Rattle.sheet.specs.Drawn.{drawn}
use Rattle.sheet.specs.Trusted.Trees.{trees_of}
use Rattle.sheet.specs.Trusted.Formed.{WellFormed}
use Rattle.pending.specs.declared.Lut.{Lut}
use Rattle.table.specs.Trusted.Limits.{input_room, table_room}
use Rattle.pending.specs.Luts.{lut_table, lut_of}
use Rattle.mapper_laws.specs.declared.Mapping.{Mapping}
use Rattle.mapper_laws.specs.declared.PlanRun.{PlanRun}
use Rattle.pending.specs.Pendings.{MergeKept, Neat}
use Rattle.pending.specs.Merging.{inverted_of}
use Rattle.mapper_laws.specs.Mapping.{GatesMapped, unmapped, keys_of, covers_of, held_table, operands_of, Progress, CoveredBy}
use Rattle.mapper_laws.specs.declared.Operands.{Operands}
use Rattle.mapper_laws.specs.declared.Held.{Held}
use Rattle.mapper_laws.specs.declared.MappedGate.{MappedGate}
use Rattle.pending.specs.Operands.{single}
use Rattle.mapper_laws.specs.CodeRun.{no_table, no_pending, operand_at, fanins_of, Good, Ran}

-- a net as a fanin
abbrev pub leaf_of : ℕ → Held
leaf_of n = record { below = 0; table = lut_of (single n) }

-- no fanins
pub record Begun (o : Operands) : Type 0 where
  pub count : o.count ≡ 0
  pub room : length o.fanins ≡ 10
  pub key_room : length o.keys ≡ 10

-- one fanin more
abbrev pub with_fanin : Operands → Bool → Held → Operands
with_fanin o i h = record {
  count = o.count + 1;
  fanins = set o.fanins o.count (record { inverted = i; table = h.table });
  keys = set o.keys o.count (record { below = h.below; width = h.table.count });
}

-- the fanins' keys
abbrev pub keys_in : Operands → List Key
keys_in o = take o.count o.keys

-- what a gate is mapped from
pub record Mappable (K first : ℕ) (o : Operands) : Type 0 where
  pub before : first < 2000
  pub good : Good o
  pub keys : GoodKeys K (keys_in o)
  pub key_room : length o.keys ≡ 10
  pub widths : (i : ℕ) → i < o.count → (get_or o.fanins i no_pending).table.count ≡ (get_or o.keys i leaf_key).width

-- what comes of a gate by a plan: the plan was run
pub record GateRun (first : ℕ) (k : Kind) (o : Operands) (p : Plan) (r : MappedGate) : Type 0 where
  pub ran : Ran first k o p r.run
  pub below : r.held.below ≡ p.key.below
  pub table : r.held.table ≡ (operand_at r.run 0).table

-- and without one: some plan with the least key was run
pub record GateMapped (K first : ℕ) (k : Kind) (o : Operands) (r : MappedGate) : Type 0 where
  pub plan : Plan
  pub answer : PlanAnswer K (keys_in o) plan
  pub run : GateRun first k o plan r

-- ---- the fanins of a gate

-- what the code holds of a mapped gate
pub record HeldIs (h : Held) (d : GatesMapped) : Type 0 where
  pub table : h.table ≡ lut_of (held_table code_base d)
  pub width : length (held_table code_base d).inputs ≡ d.key.width
  pub fits : (1 ≤ d.key.width) × (d.key.width ≤ input_room)

abbrev pub no_held : Held
no_held = record { below = 0; table = no_table }

-- and it counts the tables below as the gate's key does
abbrev pub BelowIs : Held → GatesMapped → Type 0
BelowIs h d = h.below ≡ d.key.below

-- so for each mapped gate
abbrev pub HeldAll : (Held → GatesMapped → Type 0) → List GatesMapped → List Held → Type 0
HeldAll R done hs = (j : ℕ) → j < length done → R (get_or hs j no_held) (get_or done j unmapped)

-- it has at most ten, and the gates that they read are in the array
pub record Reaches (fs : List Edge) (x : Gate) : Type 0 where
  pub few : length (drawn_gate fs x).fanins ≤ most_fanins
  pub gates : Every (λ j. (1 ≤ j) × (j ≤ most_gates)) (fanin_gates (drawn_gate fs x).fanins)

-- the fanins `fs`, gathered, where the gates `done` were mapped
pub record Gathered (done : List GatesMapped) (held : List Held) (fs : List Edge) (o : Operands) : Type 0 where
  pub fanins : fanins_of o ≡ operands_of code_base done fs
  pub keys : HeldAll BelowIs done held → keys_in o ≡ keys_of done fs
  pub neat : (i : ℕ) → i < o.count → Neat (get_or o.fanins i no_pending).table
  pub widths : (i : ℕ) → i < o.count → (get_or o.fanins i no_pending).table.count ≡ (get_or o.keys i leaf_key).width

-- the first i of them, whatever gates were mapped
pub record Gathering (fs : List Edge) (held : List Held) (i : ℕ) (o : Operands) : Type 0 where
  pub count : o.count ≡ i
  pub some : (i ≤ length fs) × (i ≤ 10)
  pub room : length o.fanins ≡ 10
  pub key_room : length o.keys ≡ 10
  pub gathered : (done : List GatesMapped) → HeldAll HeldIs done held → Every (λ j. (1 ≤ j) × (j ≤ length done)) (fanin_gates fs) → Gathered done held (take i fs) o

abbrev pub Gathers : List Edge → Gate → List Held → Operands → Type 0
Gathers fs x held o = Gathering (drawn_gate fs x).fanins held (length (drawn_gate fs x).fanins) o

-- ---- staging

-- the most tables of a sheet
abbrev pub most_tables : ℕ
most_tables = 255

-- the records of the run after those of the mapping
pub record Staged (m : Mapping) (s : PlanRun) (r : Mapping) : Type 0 where
  pub count : r.count ≡ m.count + s.placed
  pub tables : take r.count r.tables ≡ take m.count m.tables ++ take s.placed s.tables
  pub room : length r.tables ≡ most_tables

-- the first i of them
pub record Staging (m : Mapping) (s : PlanRun) (i : ℕ) (r : Mapping) : Type 0 where
  pub count : r.count ≡ m.count
  pub at : i ≤ s.placed
  pub tables : take (m.count + i) r.tables ≡ take m.count m.tables ++ take i s.tables
  pub room : length r.tables ≡ most_tables

-- so many tables, as a run that placed them
abbrev pub run_of : List Lut → PlanRun
run_of ts = record { depth = 0; stack = []; placed = length ts; tables = ts }

-- ---- a sheet

-- what is mapped: a well formed sheet, to tables of K inputs after so many
pub record Sheetable (K used : ℕ) (s : Sheet) : Type 0 where
  pub table : (2 ≤ K) × (K ≤ input_room)
  pub before : used ≤ table_room
  pub formed : WellFormed (drawn_sheet s)

-- the tables of the first n records
abbrev pub tables_in : ℕ → List Lut → List LookupTable
tables_in n rs = map lut_table (take n rs)

-- THE PROMISE OF THE MAPPING: the records are those of the tables of one of the sheet's covers, with the least number of tables, which
-- follow any tables of that count; which least cover it is, and the order of its tables, inputs before readers, is free
pub record SheetMapped (K used : ℕ) (s : Sheet) (r : Mapping) : Type 0 where
  pub room : length r.tables ≡ most_tables
  pub few : r.count ≤ most_tables
  pub kept : (i : ℕ) → i < r.count → MergeKept (get_or r.tables i no_table)
  pub least : (old : List LookupTable) → length old ≡ used → LeastCoverTables code_base K old (tables_in r.count r.tables) (drawn (drawn_sheet s))

-- what holds of the records of any mapping whose root is the mapped gate d: they are those of the tables of the cover with that root
pub record SheetCovered (K used : ℕ) (s : Sheet) (d : GatesMapped) (r : Mapping) : Type 0 where
  pub room : length r.tables ≡ most_tables
  pub few : r.count ≤ most_tables
  pub kept : (i : ℕ) → i < r.count → MergeKept (get_or r.tables i no_table)
  pub covered : (old : List LookupTable) → length old ≡ used → CoveredBy code_base K old (tables_in r.count r.tables) (drawn (drawn_sheet s)) d

-- the first g gates were mapped
pub record Going (K used : ℕ) (gs : List DrawnGate) (g : ℕ) (done : List GatesMapped) (held : List Held) (m : Mapping) : Type 0 where
  pub progress : Progress code_base used K (take g gs) done (tables_in m.count m.tables)
  pub at : g ≤ length gs
  pub all : HeldAll HeldIs done held
  pub kept : Every MergeKept (take m.count m.tables)
  pub few : m.count ≤ most_tables
  pub held_room : length held ≡ most_gates
  pub table_room_lem : length m.tables ≡ most_tables

-- and one more, by the run of its plan
pub record GateAdded (K used : ℕ) (gs : List DrawnGate) (g : ℕ) (done : List GatesMapped) (x : DrawnGate) (p : Plan) (a : Key) (held : List Held) (m : Mapping) : Type 0 where
  pub body : Fanins
  pub runs : Runs (covers_of done x.fanins) (tokens p) [] (made body ∷ [])
  pub going : Going K used gs (g + 1) (done ++ (record { kind = x.kind; body = body; key = a } ∷ [])) held m

-- each gate has the best key of its tree
abbrev pub BestKeys : ℕ → List DrawnGate → List GatesMapped → Type 0
BestKeys K gs = Paired (λ t d. Best K t d.key) (trees_of [] gs)

-- the first g gates were mapped, each by a plan with the best key
pub record BestGoing (K used : ℕ) (gs : List DrawnGate) (g : ℕ) (held : List Held) (m : Mapping) : Type 0 where
  pub done : List GatesMapped
  pub going : Going K used gs g done held m
  pub bests : BestKeys K (take g gs) done
  pub below : HeldAll BelowIs done held

-- ---- the root's table

-- it drives the output net, and has the value turned over where the output is inverted
abbrev pub flipped : Bool → Lut → Lut
flipped false t = t
flipped true t = inverted_of t

abbrev pub driving : ℕ → Lut → Lut
driving out t = record { net = out; count = t.count; inputs = t.inputs; truth = t.truth }

abbrev pub rooted : Mapping → ℕ → Bool → Lut → Mapping
rooted m out v t = record { count = m.count + 1; tables = set m.tables m.count (driving out (flipped v t)) }
