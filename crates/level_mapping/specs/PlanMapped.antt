-- What a mapping by plans that meet demands on levels promises, and what is known on the way. Internal definitions: the laws are in MeetLaws and PlanSheetLaws.
use Rattle.std.specs.Prelude.{ℕ, suc, ◌≤◌, ◌<◌, ◌≡◌, List, [], length, get_or, take}
use Rattle.tree.specs.Trusted.Tree.{Node, leaf}
use Rattle.tree.specs.Trusted.Limits.{code_base}
use Rattle.cover.specs.Trusted.Cover.{tables}
use Rattle.cover.specs.Trusted.Tables.{LookupTable}
use Rattle.cover.specs.Trusted.CoverTables.{CoverTables}
use Rattle.plan.specs.declared.Plan.{Plan}
use Rattle.levels.specs.Trusted.Levels.{level}
use Rattle.levels.specs.Demands.{Demand, LevelStanding}
use Rattle.sheet.specs.declared.Sheet.{Sheet}
use Rattle.sheet.specs.Trusted.Sheet.{DrawnGate}
use Rattle.sheet.specs.Trusted.Trees.{trees_of}
use Rattle.sheet.specs.Trusted.Answers.{drawn_sheet}
use Rattle.sheet.specs.Drawn.{drawn}
use Rattle.pending.specs.Pendings.{MergeKept}
use Rattle.level_sheets.specs.PlansMeet.{no_demand, PlansMeet}
use Rattle.mapper_laws.specs.declared.Held.{Held}
use Rattle.mapper_laws.specs.declared.Mapping.{Mapping}
use Rattle.mapper_laws.specs.Mapping.{GatesMapped, unmapped, cover_of}
use Rattle.mapper_laws.specs.CodeRun.{no_table}
use Rattle.mapper_laws.specs.CodeMap.{most_tables, tables_in, Going}

-- THE PROMISE of a mapping by plans: the records are those of the tables of one of the sheet's covers, which follow any tables of that count, with no more
-- levels and no more tables than the root's demand says
pub record MappedWithin (K used : ℕ) (lev : ℕ → ℕ) (bound below : ℕ) (s : Sheet) (r : Mapping) : Type 0 where
  pub room : length r.tables ≡ most_tables
  pub few : r.count ≤ most_tables
  pub kept : (i : ℕ) → i < r.count → MergeKept (get_or r.tables i no_table)
  pub covered : (old : List LookupTable) → length old ≡ used →
      (c : CoverTables code_base K old (tables_in r.count r.tables) (drawn (drawn_sheet s))) ×
      (level lev c.cover ≤ suc bound) × (tables c.cover ≤ suc below) × (tables c.cover ≡ r.count)

-- the mapped gates of the trees `ts` meet their demands
abbrev pub GatesMeet : ℕ → (ℕ → ℕ) → List Demand → List Node → List GatesMapped → Type 0
GatesMeet K lev ds ts done =
    (j : ℕ) → j < length done → LevelStanding K lev (get_or ts j (leaf 0)) (get_or ds j no_demand) (cover_of (get_or done j unmapped))

-- the first g gates were mapped, each by its plan
pub record PlanGoing (K used : ℕ) (gs : List DrawnGate) (plans : List Plan) (g : ℕ) (held : List Held) (m : Mapping) : Type 0 where
  pub done : List GatesMapped
  pub going : Going K used gs g done held m
  pub meet : (lev : ℕ → ℕ) (ds : List Demand) → PlansMeet K lev ds gs plans → GatesMeet K lev ds (trees_of [] (take g gs)) done
