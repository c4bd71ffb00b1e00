-- When a list is refused, told by the writer's lines and by the rules: the condition of each number and place. Definitions only: that a
-- reading refuses exactly under them is `reading_told` in ToldLaws.
use Rattle.std.specs.Prelude.{ℕ, suc, ◌≤◌, ◌<◌, ◌≡◌, ◌↔◌, ◌≢◌, List, [], ◌∷◌, ◌++◌, length}
use Rattle.lists.specs.Trusted.Lists.{Every}
use Rattle.decimal.specs.Trusted.Columns.{fields_of}
use Rattle.table.specs.Trusted.Limits.{KRange, CapacityRange}
use Rattle.table.specs.Trusted.Records.{level_after}
use Rattle.table.specs.Trusted.Rules.{Rules}
use Rattle.table.specs.declared.Table.{Table}
use Rattle.list_line.specs.Trusted.TableLine.{table_line}
use Rattle.list_layout.specs.Trusted.LineSays.{FieldFits, LineSays}
use Rattle.part_records.specs.Trusted.Reservations.{unreserved}
use Rattle.part.specs.Trusted.Parts.{Shaped}
use Rattle.part.specs.Trusted.Sound.{Sound}
use Rattle.part.specs.Trusted.Answers.{accepted, refused, Result, empty}
use Rattle.part.specs.declared.Part.{Part}
use Rattle.listing.specs.Trusted.Listing.{list_of}

-- line 0 says K, the capacity and the used count, and `more` comes after it
pub record TopSays (text : List ℕ) (k capacity used : ℕ) (more : List ℕ) : Type 0 where
  pub line : text ≡ fields_of (k ∷ capacity ∷ used ∷ []) ++ 10 ∷ more
  pub numbers : Every FieldFits (k ∷ capacity ∷ used ∷ [])

-- the lines of the records, the first of them line t
abbrev pub lines_from : ℕ → List Table → List ℕ
lines_from t [] = []
lines_from t (r ∷ rs) = table_line t r ++ lines_from (suc t) rs

-- line 0 is good, and so are the lines of the records `rs` after it: they are laid out and break no rule. `rest` comes after them.
pub record GoodLines (text : List ℕ) (k used : ℕ) (rs : List Table) (rest : List ℕ) : Type 0 where
  pub capacity : ℕ
  pub top : TopSays text k capacity used (lines_from 1 rs ++ rest)
  pub k_range : KRange k
  pub capacity_range : CapacityRange capacity
  pub used_fits : used ≤ capacity
  pub says : Every LineSays rs
  pub rules : Rules k rs

pub data ListCondition (text : List ℕ) : (number place : ℕ) → Type 0 where
  -- line 0: missing or not laid out, then K, the capacity, and the used count
  no_top : ((k capacity used : ℕ) (more : List ℕ) → ¬ (TopSays text k capacity used more)) → ListCondition text 31 0
  bad_k : (k capacity used : ℕ) (more : List ℕ) → TopSays text k capacity used more → ¬ (KRange k) → ListCondition text 2 0
  bad_capacity : (k capacity used : ℕ) (more : List ℕ) → TopSays text k capacity used more → KRange k → ¬ (CapacityRange capacity) → ListCondition text 3 0
  used_above : (k capacity used : ℕ) (more : List ℕ) → TopSays text k capacity used more → KRange k → CapacityRange capacity → capacity < used →
      ListCondition text 32 0
  -- the line of a table: missing or not laid out, then a rule that is first broken there, by its record with the level worked out
  no_line : (k used : ℕ) (rs : List Table) (rest : List ℕ) → GoodLines text k used rs rest → length rs < used →
      ((r : Table) (more : List ℕ) → LineSays r → rest ≢ table_line (suc (length rs)) r ++ more) → ListCondition text 31 (suc (length rs))
  rule_broken : (k used : ℕ) (rs : List Table) (r : Table) (more : List ℕ) → GoodLines text k used rs (table_line (suc (length rs)) r ++ more) →
      length rs < used → LineSays r → r.level ≡ level_after rs r → ¬ (Rules k (rs ++ r ∷ [])) → ListCondition text 32 (suc (length rs))
  -- after the last line
  left_over : (k : ℕ) (rs : List Table) (rest : List ℕ) → GoodLines text k (length rs) rs rest → rest ≢ [] → ListCondition text 31 (suc (length rs))

-- each refusal is given exactly where its condition holds, with a part of all zeros; accepted is exactly what the writer makes of a sound
-- part, and that part is handed back, with nothing reserved
pub record ListTold (text : List ℕ) (r : Result) : Type 0 where
  pub refuses : (number place : ℕ) → (r.answer ≡ refused number place) ↔ ListCondition text number place
  pub accepts : (p : Part) → Shaped p → ((r.part ≡ p) × (r.answer ≡ accepted)) ↔ (Sound p × (p.reservation ≡ unreserved) × (text ≡ list_of p))
  pub shaped : Shaped r.part
  pub zeros : (number place : ℕ) → r.answer ≡ refused number place → r.part ≡ empty 0 0
