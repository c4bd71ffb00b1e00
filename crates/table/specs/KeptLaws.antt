-- The rules of a record by what is kept of the records before it: they are its rules after the records, and what is kept goes on.
use Rattle.std.specs.Prelude.{ℕ, ◌<◌, ◌≡◌, true, false, ◌&&◌, List, [], ◌∷◌, ◌++◌, map, eqb, length}
use Rattle.std.proofs.Common.{arith, sym, ap, ap₂, ◌∙◌}
use Rattle.std.proofs.lemmas.List.{length-map}
use Rattle.table.specs.Trusted.Limits.{table_room}
use Rattle.table.specs.Trusted.Records.{reads, table_of, level_after}
use Rattle.table.specs.Trusted.RecordTest.{keeps_points, is_levelled, keeps}
use Rattle.table.specs.ResultLaws.{says_true}
use Rattle.table.specs.RuleLaws.{map_append}
use Rattle.table.specs.TestedLaws.{points_reflect}
use Rattle.table.specs.PrefixTest.{empty_prefix, prefix_after, keeps_points_in}
use Rattle.table.specs.PrefixLaws.{stands_none, stands_after, points_stand}
use Rattle.table.specs.LevelTest.{no_levels, level_in, noted_next, is_levelled_in, PrefixKept}
use Rattle.table.specs.LevelTestLaws.{levels_none, level_stands, levels_next}
use Rattle.table.specs.declared.Table.{Table}
use Rattle.table.specs.declared.Prefix.{Prefix}

pub kept_none : PrefixKept empty_prefix no_levels []
kept_none = record { points = stands_none; by_code = levels_none }

module _ {s : Prefix} {levels : List ℕ} {before : List Table} (h : PrefixKept s levels before) (k : ℕ) (r : Table) where
  same_points : keeps_points_in k s r ≡ keeps_points k before r
  same_points = points_stand s before h.points k r

  -- its level by the array is the one worked out
  pub kept_level : level_in levels (reads r) ≡ level_after before r
  kept_level = level_stands levels (map table_of before) h.by_code (table_of r)

  -- it breaks a point
  pub kept_breaks : keeps_points_in k s r ≡ false → keeps k before r ≡ false
  kept_breaks e = ap (λ b. b && is_levelled before r) (sym same_points ∙ e)

  module _ (e : keeps_points_in k s r ≡ true) where
    pub kept_points : keeps_points k before r ≡ true
    kept_points = sym same_points ∙ e

    -- it keeps the points and has another level, and it has this one
    pub kept_wrong : is_levelled_in levels r ≡ false → keeps k before r ≡ false
    kept_wrong e = ap₂ ◌&&◌ kept_points (ap (λ l. eqb l r.level) (sym kept_level) ∙ e)

    pub kept_right : is_levelled_in levels r ≡ true → keeps k before r ≡ true
    kept_right e = ap₂ ◌&&◌ kept_points (ap (λ l. eqb l r.level) (sym kept_level) ∙ e)

    -- with the record, whatever level it has
    pub kept_after : (level : ℕ) → length before < table_room →
        let q : Table = record { net = r.net; count = r.count; inputs = r.inputs; truth = r.truth; level = level } in
        PrefixKept (prefix_after s r) (noted_next levels (length before) r.net (reads r)) (before ++ q ∷ [])
    kept_after level l =
        let q : Table = record { net = r.net; count = r.count; inputs = r.inputs; truth = r.truth; level = level } in
        record {
          points = stands_after s before q h.points l;
          by_code = rw (map_append table_of before (q ∷ []), level_stands levels (map table_of before) h.by_code (table_of r), sym (length-map before table_of))
              (levels_next levels (map table_of before) h.by_code (table_of r) (omega (arith, l, length-map before table_of)) (says_true (points_reflect k before r) kept_points).coded.0);
        }
