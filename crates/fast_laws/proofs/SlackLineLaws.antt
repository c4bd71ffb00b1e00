-- THE SLACK LINES OF A PART are those of the sheets that were added to it, in their order: of the records of a sheet the last one alone drives a net, the
-- output net, and its level is the sheet's least root level.
use Rattle.std.specs.Prelude.{ℕ, suc, ◌+◌, ◌-◌, ◌<◌, ◌≡◌, refl, cond, List, [], ◌∷◌, ◌++◌, eqb, length, get_or}
use Rattle.std.proofs.Common.{arith, sym, ap, ◌∙◌, subst, append-nil, append_assoc, eq-eqb, ne_eqb}
use Rattle.std.proofs.Math.Option.{none}
use Rattle.lists.specs.Trusted.Lists.{Every, gather}
use Rattle.lists.specs.ListLaws.{every_head, every_tail, gather_append}
use Rattle.lists.specs.Trusted.Checked.{passed}
use Rattle.decimal.specs.FieldText.{no_some}
use Rattle.tree.specs.Trusted.Limits.{code_base}
use Rattle.cover.specs.Trusted.Tables.{LookupTable, numbered, code_levels, levels_after}
use Rattle.cover.specs.Trusted.CoverTables.{Circuit}
use Rattle.cover.proofs.CoverTableLaws.{added_drives}
use Rattle.cover.specs.LevelLaws.{levels_length}
use Rattle.levels.specs.Trusted.Levels.{level, Fastest}
use Rattle.levels.proofs.CoverLevelLaws.{root_level}
use Rattle.sheet.specs.Trusted.Cut.{sheet_text}
use Rattle.table.specs.declared.Table.{Table}
use Rattle.table.specs.Trusted.Records.{record_of, records_of, records_after}
use Rattle.part.specs.Trusted.Parts.{in_use, tables_of, Shaped}
use Rattle.part.specs.Trusted.Ways.{fastest, reading}
use Rattle.part.specs.Trusted.Answers.{accepted}
use Rattle.part.specs.Trusted.Tries.{CallResult}
use Rattle.part.specs.Trusted.Add.{opened, Add}
use Rattle.part.proofs.OpenLaws.{opened_shaped, opened_empty}
use Rattle.part.specs.ExtendedLaws.{extended_in_use}
use Rattle.part.proofs.WayLaws.{reading_right, some_tables, chosen_number}
use Rattle.part.proofs.AddLaws.{AddCase, unsound, misread, driven, read, full, taken, add_case, not_refused}
use Rattle.part.specs.declared.Part.{Part}
use Rattle.demands.specs.Trusted.Calls.{Call, add, Chain, done, call, final}
use Rattle.demands.specs.Trusted.Demands.{last_part}
use Rattle.demands.proofs.CallLaws.{call_kept}
use Rattle.slacks.specs.Trusted.Slack.{slack_line, drivers, slack_lines}
use Rattle.slacks.specs.SlackText.{slack_text}
use Rattle.program_laws.specs.Trusted.Runs.{answers, first_refusal}
use Rattle.fast_laws.specs.Trusted.RunsBy.{TextsBy, end, stop, next}
use Rattle.fast_laws.specs.Trusted.FastRuns.{SlacksOf, no_sheet_lem, sheet}

-- ---- the lines of records

module _ (wanted : ℕ) where
  lines_append : (rs ts : List Table) → slack_text wanted (rs ++ ts) ≡ slack_text wanted rs ++ slack_text wanted ts
  lines_append rs ts =
      ap (gather (λ r. slack_line wanted r.net r.level)) (gather_append (λ r. cond (eqb r.net 0) [] (r ∷ [])) rs ts)
      ∙ gather_append (λ r. slack_line wanted r.net r.level) (drivers rs) (drivers ts)

  -- a record that drives no net has no line
  silent : (r : Table) (rs : List Table) → r.net ≡ 0 → slack_text wanted (r ∷ rs) ≡ slack_text wanted rs
  silent r rs e = ap (λ b. gather (λ r. slack_line wanted r.net r.level) (cond b [] (r ∷ []) ++ drivers rs)) (eq-eqb r.net 0 e)

  -- of tables of which only the last drives a net
  last_line : (out n : ℕ) → 0 < out → (ls : List ℕ) (ts : List LookupTable) → length ls ≡ length ts → 0 < length ts →
      Every (λ p. (p.0 < n + length ts → p.1.drives ≡ 0) × (p.0 ≡ n + length ts → p.1.drives ≡ out)) (numbered n ts) →
      slack_text wanted (records_of ls ts) ≡ slack_line wanted out (get_or ls (length ts - 1) 0)
  last_line out n o [] [] e h d = absurd (omega arith)
  last_line out n o [] (t ∷ ts) e h d = absurd (omega arith)
  last_line out n o (l ∷ ls) [] e h d = absurd (omega arith)
  last_line out n o (l ∷ []) (t ∷ []) e h d =
      let i : t.drives ≡ out = (every_head d).1 (omega arith) in
      ap (λ b. gather (λ r. slack_line wanted r.net r.level) (cond b [] (record_of l t ∷ []) ++ [])) (ne_eqb t.drives 0 (λ z. omega arith))
      ∙ ap (λ net. slack_line wanted net l) i
  last_line out n o (l ∷ []) (t ∷ u ∷ ts) e h d = absurd (omega arith)
  last_line out n o (l ∷ m ∷ ls) (t ∷ []) e h d = absurd (omega arith)
  last_line out n o (l ∷ m ∷ ls) (t ∷ u ∷ ts) e h d =
      let i : suc (suc (length ts)) - 1 ≡ suc (suc (length ts) - 1) = omega arith in
      silent (record_of l t) (records_of (m ∷ ls) (u ∷ ts)) ((every_head d).0 (omega arith))
      ∙ last_line out (suc n) o (m ∷ ls) (u ∷ ts) (omega arith) (omega arith) (λ p j. let x = every_tail d p j in (λ a. x.0 (omega arith), λ a. x.1 (omega arith)))
      ∙ ap (λ k. slack_line wanted out (get_or (l ∷ m ∷ ls) k 0)) (sym i)

-- ---- one sheet

-- an accepted sheet brings one line more, with its output net and its least root level
pub record LineAdded (wanted : ℕ) (p : Part) (text : List ℕ) (q : Part) : Type 0 where
  pub sheet : Circuit
  pub read : reading fastest text ≡ passed sheet
  pub number : ℕ
  pub root : ℕ
  pub least_root : Fastest (code_levels code_base (tables_of p)) p.k sheet.tree number root
  pub lines : slack_lines wanted q ≡ slack_lines wanted p ++ slack_line wanted sheet.out root

pub line_added : (wanted : ℕ) (p : Part) → Shaped p → (text : List ℕ) (q : Part) → Add fastest p text q accepted → LineAdded wanted p text q
line_added wanted p shape text q a = of (add_case fastest p text q accepted a)
  where
    of : AddCase fastest p text q accepted → LineAdded wanted p text q
    of (unsound n r) = absurd (not_refused r.1 refl)
    of (misread number place s i r) = absurd (not_refused r.1 refl)
    of (driven s h i d r) = absurd (not_refused r.1 refl)
    of (read s h i d l r) = absurd (not_refused r.1 refl)
    of (full s n h i f l m r) = absurd (not_refused r.1 refl)
    of (taken s h i f t room) =
        let new = t.new in
        let c = t.chosen.added in
        let legal = (reading_right fastest text s i).legal in
        record {
          sheet = s;
          read = i;
          number = length new;
          root = level (code_levels code_base (tables_of p)) c.cover;
          least_root = t.chosen.fastest;
          lines = ap (λ o. slack_text wanted (in_use o)) t.part
              ∙ ap (slack_text wanted) (extended_in_use p shape.records h new)
              ∙ lines_append wanted (in_use p) (records_after (tables_of p) new)
              ∙ ap (◌++◌ (slack_lines wanted p))
              (last_line wanted s.out (length (tables_of p)) legal.out_net.0 (levels_after code_base (tables_of p) new) new
              (levels_length code_base (code_levels code_base (tables_of p)) (length (tables_of p)) new)
              (some_tables fastest p s (length new) (chosen_number fastest p s new t.chosen))
              (added_drives code_base p.k (tables_of p) new s c)
              ∙ ap (slack_line wanted s.out) (root_level legal c));
        }

-- ---- one sheet after the other

module _ (wanted : ℕ) where
  lines_after : {p : Part} {text : List ℕ} {cs : List Call} {rs : List CallResult} (n : ℕ) → TextsBy fastest text cs rs → Chain p cs rs → Shaped p →
      first_refusal n (answers rs) ≡ none → (lines : List ℕ) × (slack_lines wanted (final p rs) ≡ slack_lines wanted p ++ lines) × SlacksOf wanted p cs rs lines
  lines_after {p} n end done shape z = ([], sym (append-nil (slack_lines wanted p)), no_sheet_lem)
  lines_after n (stop number place l e) (call a done) shape z = no_some (sym z ∙ ap (λ b. first_refusal n (b ∷ [])) e)
  lines_after {p} n (next {text = text} {r = r} {rs = rs} l e t) (call a c) shape z =
      let x = line_added wanted p shape (sheet_text text).0 r.part (subst (Add fastest p (sheet_text text).0 r.part) e a.0) in
      let y = lines_after {p = r.part} (suc n) t c (call_kept p shape (add fastest (sheet_text text).0) r a).shaped (sym (ap (λ b. first_refusal n (b ∷ answers rs)) e) ∙ z) in (
        slack_line wanted x.sheet.out x.root ++ y.0,
        y.1 ∙ ap (λ l. l ++ y.0) x.lines ∙ append_assoc (slack_lines wanted p) (slack_line wanted x.sheet.out x.root) y.0,
        sheet x.sheet x.number x.root x.read x.least_root y.2,
      )

-- THE SLACK LINES from an opening on: one for each sheet, in order
pub slack_lines_lem : (wanted k capacity : ℕ) {text : List ℕ} {cs : List Call} {rs : List CallResult} → (opened k capacity).answer ≡ accepted → TextsBy fastest text cs rs →
    Chain (opened k capacity).part cs rs → first_refusal 0 (answers rs) ≡ none → SlacksOf wanted (opened k capacity).part cs rs (slack_lines wanted (last_part k capacity rs))
slack_lines_lem wanted k capacity {cs = cs} {rs = rs} a t c z =
    let x = lines_after wanted 0 t c (opened_shaped k capacity) z in
    let none_yet : slack_lines wanted (opened k capacity).part ≡ [] = ap (slack_lines wanted) (opened_empty k capacity a) in
    subst (SlacksOf wanted (opened k capacity).part cs rs) (sym (x.1 ∙ ap (λ l. l ++ x.0) none_yet)) x.2
