-- What the program for the fewest levels prints, as a list of adds; its slack lines, sheet by sheet; and what of it the rules settle: 02, #107.
-- Definitions only: the laws are in SlackLineLaws and FastRunLaws.
use Rattle.std.specs.Prelude.{ℕ, ◌≡◌, true, List, [], ◌∷◌, ◌++◌, drop}
use Rattle.std.proofs.Math.Option.{some}
use Rattle.lists.specs.Trusted.Checked.{passed}
use Rattle.decimal.specs.Trusted.Number.{Number}
use Rattle.tree.specs.Trusted.Limits.{code_base}
use Rattle.cover.specs.Trusted.Tables.{code_levels}
use Rattle.cover.specs.Trusted.CoverTables.{Circuit}
use Rattle.levels.specs.Trusted.Levels.{Fastest}
use Rattle.part.specs.Trusted.Parts.{tables_of}
use Rattle.part.specs.Trusted.Ways.{fastest, reading}
use Rattle.part.specs.Trusted.Tries.{CallResult}
use Rattle.part.specs.Trusted.Add.{opened}
use Rattle.part.specs.declared.Part.{Part}
use Rattle.demands.specs.Trusted.Calls.{Call, add}
use Rattle.demands.specs.Trusted.Demands.{last_part}
use Rattle.opening.specs.Trusted.Opening.{count}
use Rattle.slacks.specs.Trusted.Slack.{slack_line, slack_lines}
use Rattle.fast_opening.specs.Trusted.FastOpening.{fast_numbers, is_wanted}
use Rattle.fast_program.specs.Trusted.FastProgram.{fast_list}
use Rattle.fast_laws.specs.Trusted.RunsBy.{RunBy, ListsBy, RefusalOr}

-- THE SLACK LINES of adds from the part p on: one for each, in order, with the output net of its sheet and the least root level, d, that the sheet has
-- on the part that the add was given
pub data SlacksOf (wanted : ℕ) : Part → List Call → List CallResult → List ℕ → Type 0 where
  no_sheet_lem : {p : Part} → SlacksOf wanted p [] [] []
  sheet : {p : Part} {text lines : List ℕ} {cs : List Call} {r : CallResult} {rs : List CallResult} (s : Circuit) (n d : ℕ) → reading fastest text ≡ passed s →
      Fastest (code_levels code_base (tables_of p)) p.k s.tree n d → SlacksOf wanted r.part cs rs lines →
      SlacksOf wanted p (add fastest text ∷ cs) (r ∷ rs) (slack_line wanted s.out d ++ lines)

-- THE PROGRAM AND THE DEMANDS, after a good opening line
abbrev pub FastRun : (wanted k capacity : ℕ) (text out : List ℕ) → Type 0
FastRun wanted = RunBy fastest (fast_list wanted)

-- two outputs for a text that are no refusals: besides what `ListsBy` says, the slack lines are the same, and are those of the sheets
pub record FastLists (wanted k capacity : ℕ) (text a b : List ℕ) : Type 0 where
  pub both : ListsBy fastest (fast_list wanted) k capacity text a b
  pub slacks : SlacksOf wanted (opened k capacity).part both.one.calls both.one.results (slack_lines wanted (last_part k capacity both.one.results))
  pub same_slacks : slack_lines wanted (last_part k capacity both.one.results) ≡ slack_lines wanted (last_part k capacity both.two.results)

-- WHAT THE RULES SETTLE of two outputs for one input: a refusal's line wholly; else K, the capacity, the used count, the number of tables for each
-- sheet, and the slack lines
abbrev pub FastDetermined : (input a b : List ℕ) → Type 0
FastDetermined input a b =
    RefusalOr ((x : Number) × (y : Number) × (z : Number) × (fast_numbers input ≡ some (x, y, z)) × (is_wanted z ≡ true)
    × FastLists z.magnitude (count x) (count y) (drop 19 input) a b) a b
