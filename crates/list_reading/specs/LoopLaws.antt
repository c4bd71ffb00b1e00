-- The lines of a list read one after the other, as a loop reads them: what is held of those passed, and what each step makes of it.
use Rattle.std.specs.Prelude.{ℕ, suc, ◌+◌, ◌-◌, ◌≤◌, ◌<◌, ◌≡◌, refl, Bool, ◌&&◌, leb, set}
use Rattle.std.proofs.Common.{add-one, arith, ◌∙◌, eq-eqb, length-drop, drop_of_length-le, take-append-drop, length-take-le}
use Rattle.std.proofs.Math.Path.{sym, ap}
use Rattle.std.proofs.Math.Bool.{true, false}
use Rattle.std.proofs.Math.Option.{none}
use mathlib.Core.List.{List, [], ◌∷◌, ◌++◌}
use Rattle.std.proofs.Math.ListN.{length, take, drop, length-set}
use Rattle.std.proofs.Math.Seq.{take-suc-set, drop-set-lt, drop-drop}
use Rattle.lists.specs.Trusted.Checked.{Checked, passed, refused, ◌>>=◌, require, given}
use Rattle.lists.specs.Trusted.Tests.{within}
use Rattle.table.specs.Trusted.Limits.{input_room, table_room}
use Rattle.table.specs.Trusted.Records.{reads, level_after, levelled}
use Rattle.table.specs.Trusted.RecordTest.{keeps, keeps_points}
use Rattle.table.specs.PrefixTest.{empty_prefix, prefix_after, keeps_points_in}
use Rattle.table.specs.PrefixLaws.{points_stand}
use Rattle.table.specs.LevelTest.{no_levels, level_in, noted_next, PrefixKept}
use Rattle.table.specs.KeptLaws.{kept_none, kept_level, kept_after}
use Rattle.table.specs.declared.Table.{Table}
use Rattle.table.specs.declared.Prefix.{Prefix}
use Rattle.list_layout.specs.declared.TableRead.{TableRead}
use Rattle.list_layout.specs.declared.ListTop.{ListTop}
use Rattle.list_layout.specs.Trusted.Layout.{take_top, take_table}
use Rattle.list_layout.specs.Taken.{at_level, TopThere, TableThere}
use Rattle.list_layout.specs.NarrowLaws.{points_held, kept_same}
use Rattle.part_records.specs.Trusted.Reservations.{unreserved}
use Rattle.part.specs.Trusted.Parts.{blanks}
use Rattle.part.specs.Trusted.Answers.{empty, refused as turned_away}
use Rattle.part.specs.declared.Part.{Part}
use Rattle.list_reading.specs.declared.ListAnswer.{ListAnswer}
use Rattle.list_reading.specs.declared.ListRead.{ListRead}
use Rattle.list_reading.specs.Trusted.ListAnswers.{list_answer, list_result}
use Rattle.list_reading.specs.Trusted.ReadList.{read_tables, read_list, read_result}
use Rattle.list_reading.specs.StepLaws.{zeros_shaped, given_on, given_off, require_on, require_off, nil_reflects, finish}

-- all that comes after line 0
abbrev pub rest_read : ℕ → ℕ → ℕ → List ℕ → Checked Part
rest_read k capacity used more = read_tables k used [] more >>= finish k capacity used

-- with the level that is worked out, a record keeps the rules where it keeps 01's points
keeps_levelled : (k : ℕ) (before : List Table) (r : Table) → keeps k before (levelled before r) ≡ keeps_points k before r
keeps_levelled k before r =
    ap (◌&&◌ (keeps_points k before r)) (eq-eqb (level_after before r) (level_after before r) refl) ∙ and_true (keeps_points k before r)
  where
    and_true : (b : Bool) → b && true ≡ b
    and_true true = refl
    and_true false = refl

-- t lines are passed: their records are held and keep the rules, and the reading goes on from the place
pub record LinesSoFar (text : List ℕ) (k used : ℕ) (tables : List Table) (prefix : Prefix) (levels : List ℕ) (at t : ℕ) : Type 0 where
  pub count : t ≤ used
  pub room : used ≤ table_room
  pub whole : length tables ≡ table_room
  pub rest : drop t tables ≡ drop t blanks
  pub kept : PrefixKept prefix levels (take t tables)
  pub ends : at ≤ length text
  pub same : read_tables k used [] (drop 19 text) ≡ read_tables k (used - t) (take t tables) (drop at text)

module _ (text : List ℕ) (k used : ℕ) where
  pub lines_none : used ≤ table_room → 19 ≤ length text → LinesSoFar text k used blanks empty_prefix no_levels 19 0
  lines_none r l = record {
    count = omega arith;
    room = r;
    whole = zeros_shaped.records;
    rest = refl;
    kept = kept_none;
    ends = l;
    same = ap (λ n. read_tables k n [] (drop 19 text)) (let e : used ≡ used - 0 = omega arith in e);
  }

  module _ {tables : List Table} {prefix : Prefix} {levels : List ℕ} {at t : ℕ} (h : LinesSoFar text k used tables prefix levels at t) where
    abbrev before : List Table
    before = take t tables

    before_count : suc (length before) ≡ t + 1
    before_count = omega (arith, length-take-le t tables (omega (arith, h.whole, h.count, h.room)))

    module _ (l : t < used) where
      -- the next line is read, and then the others
      abbrev after_line : Table × List ℕ → Checked (List Table × List ℕ)
      after_line p =
          require (keeps k before (levelled before p.0)) 32 (suc (length before)) >>= λ _. read_tables k (used - (t + 1)) (before ++ levelled before p.0 ∷ []) p.1

      next_line : read_tables k used [] (drop 19 text) ≡ (given (take_table (suc (length before)) (drop at text)) 31 (suc (length before)) >>= after_line)
      next_line = h.same ∙ ap (λ n. read_tables k n before (drop at text)) (let e : used - t ≡ suc (used - (t + 1)) = omega arith in e)

      pub line_bad : take_table (t + 1) (drop at text) ≡ none → read_tables k used [] (drop 19 text) ≡ refused 31 (t + 1)
      line_bad e =
          next_line ∙ given_off 31 (suc (length before)) after_line (ap (λ n. take_table n (drop at text)) before_count ∙ e) ∙ ap (refused 31) before_count

      module _ (r : TableRead) (g : TableThere text at (t + 1) r) where
        good_line : read_tables k used [] (drop 19 text) ≡ after_line (g.says, drop r.end text)
        good_line = next_line ∙ given_on 31 (suc (length before)) after_line (ap (λ n. take_table n (drop at text)) before_count ∙ g.same)

        -- the points of the record as it is held are those of what the line says
        same_points : keeps_points_in k prefix r.table ≡ keeps_points k before g.says
        same_points =
            points_stand prefix before h.kept.points k r.table ∙ ap (keeps_points k before) g.held
            ∙ points_held k before h.kept.points.room g.says

        -- where the test of the record gives this
        tested : (b : Bool) → keeps_points_in k prefix r.table ≡ b → read_tables k used [] (drop 19 text) ≡
            (require b 32 (suc (length before)) >>= λ _. read_tables k (used - (t + 1)) (before ++ levelled before g.says ∷ []) (drop r.end text))
        tested b f =
            good_line
            ∙ ap (λ b. require b 32 (suc (length before)) >>= λ _. read_tables k (used - (t + 1)) (before ++ levelled before g.says ∷ []) (drop r.end text))
            (keeps_levelled k before g.says ∙ sym same_points ∙ f)

        pub rule_bad : keeps_points_in k prefix r.table ≡ false → read_tables k used [] (drop 19 text) ≡ refused 32 (t + 1)
        unfolding ◌>>=◌ require
        rule_bad f = tested false f ∙ ap (refused 32) before_count

        -- n is the level by the array, and `new` the array with it
        pub line_good : keeps_points_in k prefix r.table ≡ true → {n : ℕ} {new : List ℕ} → n ≡ level_in levels (reads r.table) → new ≡ noted_next levels t r.table.net (reads r.table) →
            LinesSoFar text k used (set tables t (at_level n r.table)) (prefix_after prefix r.table) new r.end (t + 1)
        unfolding ◌>>=◌ require
        line_good f {n} {new} q w =
            let s : Table = at_level n r.table in
            let says : r.table ≡ g.says = g.held ∙ kept_same k before h.kept.points.room g.says (sym same_points ∙ f) in
            let same : s ≡ levelled before g.says = ap (λ m. at_level m r.table) (q ∙ kept_level h.kept k r.table) ∙ ap (levelled before) says in
            let next : take (t + 1) (set tables t s) ≡ before ++ s ∷ [] = ap (λ m. take m (set tables t s)) (add-one t) ∙ take-suc-set tables t s (omega (arith, h.whole, h.room)) in
            let array : noted_next levels (length before) r.table.net (reads r.table) ≡ new =
            ap (λ i. noted_next levels i r.table.net (reads r.table)) (let c : length before ≡ t = omega (arith, before_count) in c) ∙ sym w in
            record {
              count = omega arith;
              room = h.room;
              whole = length-set tables t s ∙ h.whole;
              rest = drop-set-lt (t + 1) tables t s (omega arith) ∙ sym (drop-drop 1 t tables) ∙ ap (drop 1) h.rest ∙ drop-drop 1 t blanks;
              kept = rw (next, ← array) (kept_after h.kept k r.table f n (omega (arith, before_count, h.room)));
              ends = g.ends;
              same = tested true f ∙ ap (λ rs. read_tables k (used - (t + 1)) rs (drop r.end text)) (ap (λ x. before ++ x ∷ []) (sym same) ∙ sym next);
            }

  -- ---- after the last line

  pub lines_end : {tables : List Table} {prefix : Prefix} {levels : List ℕ} {at : ℕ} → LinesSoFar text k used tables prefix levels at used →
      read_tables k used [] (drop 19 text) ≡ passed (take used tables, drop at text)
  lines_end {tables} {prefix} {levels} {at} h = h.same ∙ ap (λ n. read_tables k n (take used tables) (drop at text)) (let e : used - used ≡ 0 = omega arith in e)

-- ---- all that comes after line 0

module _ (text : List ℕ) (k capacity used : ℕ) where
  pub rest_refused : {number place : ℕ} → read_tables k used [] (drop 19 text) ≡ refused number place → rest_read k capacity used (drop 19 text) ≡ refused number place
  unfolding ◌>>=◌
  rest_refused e = ap (λ r. r >>= finish k capacity used) e

  module _ {tables : List Table} {prefix : Prefix} {levels : List ℕ} {at : ℕ} (h : LinesSoFar text k used tables prefix levels at used) where
    rest_is : rest_read k capacity used (drop 19 text) ≡ finish k capacity used (take used tables, drop at text)
    unfolding ◌>>=◌
    rest_is = ap (λ r. r >>= finish k capacity used) (lines_end text k used h)

    pub rest_over : at < length text → rest_read k capacity used (drop 19 text) ≡ refused 31 (used + 1)
    rest_over l =
        rest_is ∙ require_off 31 (suc used) _ (nil_reflects (drop at text)) (λ e. omega (arith, length-drop at text, ap length e))
        ∙ ap (refused 31) (sym (add-one used))

    pub rest_all : length text ≤ at → rest_read k capacity used (drop 19 text) ≡ passed (record { k = k; capacity = capacity; used = used; reservation = unreserved; tables = tables })
    rest_all l =
        rest_is ∙ require_on 31 (suc used) _ (nil_reflects (drop at text)) (drop_of_length-le text {i = at} l)
        ∙ ap (λ ts. passed (record { k = k; capacity = capacity; used = used; reservation = unreserved; tables = ts }))
        (ap (λ ts. take used tables ++ ts) (sym h.rest) ∙ take-append-drop used tables)

-- ---- line 0

-- what is tested of line 0, and what comes after it
abbrev after_top : ℕ × ℕ × ℕ × List ℕ → Checked Part
after_top (k, capacity, used, more) = do
  _ ← require (within 2 input_room k) 2 0
  _ ← require (within 1 table_room capacity) 3 0
  _ ← require (leb used capacity) 32 0
  rest_read k capacity used more

pub top_bad : (text : List ℕ) → take_top text ≡ none → read_list text ≡ refused 31 0
unfolding read_list
top_bad text e = given_off 31 0 after_top e

module _ (text : List ℕ) (r : ListTop) (h : TopThere text r) where
  top_good : read_list text ≡ after_top (r.k, r.capacity, r.used, drop 19 text)
  unfolding read_list
  top_good = given_on 31 0 after_top h.same

  pub k_bad : within 2 input_room r.k ≡ false → read_list text ≡ refused 2 0
  unfolding ◌>>=◌ require
  k_bad f = top_good ∙ rw f

  module _ (f : within 2 input_room r.k ≡ true) where
    pub capacity_bad : within 1 table_room r.capacity ≡ false → read_list text ≡ refused 3 0
    unfolding ◌>>=◌ require
    capacity_bad g = top_good ∙ rw (f, g)

    module _ (g : within 1 table_room r.capacity ≡ true) where
      pub used_bad : leb r.used r.capacity ≡ false → read_list text ≡ refused 32 0
      unfolding ◌>>=◌ require
      used_bad u = top_good ∙ rw (f, g, u)

      pub top_passed : leb r.used r.capacity ≡ true → read_list text ≡ rest_read r.k r.capacity r.used (drop 19 text)
      unfolding ◌>>=◌ require
      top_passed u = top_good ∙ rw (f, g, u)

-- ---- what is handed back

-- a part of all zeros and the answer, of a reading that is refused so
pub handed_refused : {r : ListRead} {a : ListAnswer} {number place : ℕ} {c : Checked Part} → r ≡ record { part = empty 0 0; answer = a } →
    list_answer a ≡ turned_away number place → c ≡ refused number place → list_result r ≡ read_result c
handed_refused e h c = ap list_result e ∙ ap (λ x. record { part = empty 0 0; answer = x }) h ∙ sym (ap read_result c)
