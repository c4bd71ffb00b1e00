-- What the functions of the mapping to the fewest levels promise. Internal definitions: the laws are in FastLaws.
use Rattle.std.specs.Prelude.{ℕ, suc, ◌-◌, ◌≤◌, ◌<◌, ◌≡◌, List, length, get_or}
use Rattle.lists.specs.Trusted.Lists.{Every}
use Rattle.tree.specs.Trusted.Limits.{code_base, greatest_net}
use Rattle.cover.specs.Trusted.Tables.{LookupTable}
use Rattle.cover.specs.Trusted.CoverTables.{CoverTables}
use Rattle.plan.specs.declared.Plan.{Plan}
use Rattle.levels.specs.Trusted.Levels.{level, Fastest}
use Rattle.levels.specs.Demands.{Demand}
use Rattle.sheet.specs.declared.Sheet.{Sheet}
use Rattle.sheet.specs.Trusted.Limits.{most_gates}
use Rattle.sheet.specs.Trusted.Sheet.{leaf_nets}
use Rattle.sheet.specs.Trusted.Answers.{drawn_sheet}
use Rattle.sheet.specs.Trusted.Trees.{tree_of}
use Rattle.sheet.specs.Trusted.Formed.{WellFormed}
use Rattle.sheet.specs.Drawn.{drawn}
use Rattle.pending.specs.Pendings.{MergeKept}
use Rattle.mapper_laws.specs.declared.Mapping.{Mapping}
use Rattle.mapper_laws.specs.CodeRun.{no_table}
use Rattle.mapper_laws.specs.CodeMap.{most_tables, tables_in}
use Rattle.level_arrays.specs.Arrays.{big, line_at}
use Rattle.level_sheets.specs.Lined.{LowNets, Lined, net_level}
use Rattle.level_sheets.specs.PlansMeet.{PlansMeet, last_demand}

-- a well-formed sheet whose nets have levels that are not high, to tables of K inputs
pub record NetsLow (K : ℕ) (s : Sheet) (levels : List ℕ) : Type 0 where
  pub table : (2 ≤ K) × (K ≤ 6)
  pub formed : WellFormed (drawn_sheet s)
  pub inside : Every (λ n. n < length levels) (leaf_nets (drawn_sheet s).gates)
  pub low : LowNets (net_level levels) (drawn_sheet s).gates

-- the levels of all nets, none of which is high: a part has at most 800 tables
pub record LevelsLow (levels : List ℕ) : Type 0 where
  pub places : greatest_net < length levels
  pub low : (n : ℕ) → get_or levels n 0 ≤ 1000

-- the lines of all its gates
abbrev pub LinesFound : (K : ℕ) → Sheet → (levels starts counts store : List ℕ) → Type 0
LinesFound K s levels starts counts store = Lined K (net_level levels) (drawn_sheet s).gates (length (drawn_sheet s).gates) starts counts store

-- the arrays that hold them: their types say so
pub record LineRooms (starts counts store : List ℕ) : Type 0 where
  pub gates : (length starts ≡ most_gates) × (length counts ≡ most_gates)
  pub lines : length store ≡ 391680

-- some line of gate g has an entry for K inputs
pub record FirstLineHad (K g count : ℕ) (store : List ℕ) : Type 0 where
  pub table : (2 ≤ K) × (K ≤ 6)
  pub gate : g < 255
  pub lines : (1 ≤ count) × (count ≤ 256)
  pub last : line_at store g (count - 1) K < big
  pub room : length store ≡ 391680

-- and j is the first
pub record FirstLine (K g count : ℕ) (store : List ℕ) (j : ℕ) : Type 0 where
  pub within : j < count
  pub some : line_at store g j K < big
  pub none : (i : ℕ) → i < j → big ≤ line_at store g i K

-- the plans meet demands of which the root's is the least level and then the fewest tables
pub record PlansChosen (K : ℕ) (s : Sheet) (levels : List ℕ) (plans : List Plan) : Type 0 where
  pub demands : List Demand
  pub meet : PlansMeet K (net_level levels) demands (drawn_sheet s).gates plans
  pub fastest : Fastest (net_level levels) K (tree_of (drawn_sheet s)) (suc (last_demand demands).below) (suc (last_demand demands).bound)

-- THE PROMISE OF THE MAPPING to the fewest levels: the records are those of the tables of one of the sheet's covers with the least root level, and with the fewest
-- tables among those, which follow any tables of that count; which of them it is, and the order of its tables, inputs before readers, is free
pub record FastMapped (K used : ℕ) (lev : ℕ → ℕ) (s : Sheet) (r : Mapping) : Type 0 where
  pub room : length r.tables ≡ most_tables
  pub few : r.count ≤ most_tables
  pub kept : (i : ℕ) → i < r.count → MergeKept (get_or r.tables i no_table)
  pub fastest : (old : List LookupTable) → length old ≡ used →
      (c : CoverTables code_base K old (tables_in r.count r.tables) (drawn (drawn_sheet s))) × Fastest lev K (tree_of (drawn_sheet s)) r.count (level lev c.cover)
