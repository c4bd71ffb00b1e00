-- The steps of a reading of a list, one by one: each is followed to what it says of the text, and taken where the text is as it says.
use Prim.Native.Nat.{ℕ, zero, suc, ◌+◌, ◌-◌, ◌≤◌, ◌<◌}
use Rattle.std.proofs.Common.{add-one, sym, ap₂, ◌∙◌, append_assoc, append-nil, length-drop, take-suc, length-take-le}
use native.Mathlib.Omega.{arith}
use Rattle.std.specs.Prelude.{◌≡◌, ◌≢◌, Bool, List, [], ◌∷◌, ◌++◌, take, drop, get_or}
use Rattle.std.proofs.Math.Path.{refl, ap, subst}
use Rattle.std.proofs.Math.Option.{Option, none, some}
use Rattle.std.proofs.Math.ListN.{length, length-append}
use Rattle.std.proofs.Math.Seq.{take-append_seam, drop-append_seam}
use Rattle.lists.specs.Trusted.Lists.{Every}
use Rattle.lists.specs.ListLaws.{every_none, every_cons, every_head, every_tail, every_append, every_drop}
use Rattle.lists.specs.Trusted.Checked.{Checked, passed, refused, ◌>>=◌, require, given}
use Rattle.lists.specs.Trusted.Tests.{Reflects}
use Rattle.lists.specs.TestLaws.{reflects_le, reflects_within, by_reflects}
use Rattle.decimal.specs.Trusted.Columns.{fields_of}
use Rattle.table.specs.Trusted.Limits.{input_room, table_room, KRange, CapacityRange}
use Rattle.table.specs.Trusted.Records.{level_after, levelled, blank}
use Rattle.table.specs.Trusted.Rules.{Blank, Rules}
use Rattle.table.specs.RuleLaws.{Keeps, rules_snoc, rules_keeps, rules_prefix}
use Rattle.table.specs.TestedLaws.{keeps_reflects, no_records}
use Rattle.table.specs.declared.Table.{Table}
use Rattle.list_line.specs.Trusted.TableLine.{table_line}
use Rattle.list_layout.specs.Trusted.Layout.{take_top, take_table}
use Rattle.list_layout.specs.Trusted.LineSays.{FieldFits, LineSays}
use Rattle.part_records.specs.Trusted.Reservations.{unreserved}
use Rattle.part_records.specs.ReservationLaws.{none_reservable}
use Rattle.part.specs.Trusted.Parts.{blanks, in_use, Shaped}
use Rattle.part.specs.Trusted.Sound.{Sound}
use Rattle.part.specs.Trusted.Answers.{empty}
use Rattle.part.specs.declared.Part.{Part}
use Rattle.list_line.specs.Line.{top_line}
use Rattle.listing.specs.Trusted.Listing.{list_of}
use Rattle.listing.specs.Lines.{table_lines}
use Rattle.listing.proofs.LineLaws.{list_is, lines_next}
use Rattle.part.proofs.OpenLaws.{opened_shaped, opened_sound}
use Rattle.list_layout.specs.Taken.{at_level}
use Rattle.list_layout.specs.LayoutLaws.{top_taken, top_text, says_level, table_taken, table_text}
use Rattle.list_reading.specs.Trusted.ReadList.{read_tables, is_nil, read_list}
use Rattle.list_reading.specs.Trusted.ListConditions.{TopSays, lines_from, GoodLines, ListCondition, no_top, bad_k, bad_capacity, used_above, no_line, rule_broken, left_over}

-- ---- a step

module _ {A B : Type 0} (number place : ℕ) (f : A → Checked B) where
  by_given : (Q : Checked B → Type 0) (o : Option A) → (o ≡ none → Q (refused number place)) → ((a : A) → o ≡ some a → Q (f a)) →
      Q (given o number place >>= f)
  unfolding ◌>>=◌ given
  by_given Q none g h = g refl
  by_given Q (some a) g h = h a refl

  pub given_on : {o : Option A} {a : A} → o ≡ some a → (given o number place >>= f) ≡ f a
  unfolding ◌>>=◌ given
  given_on e = ap (λ o. given o number place >>= f) e

  pub given_off : {o : Option A} → o ≡ none → (given o number place >>= f) ≡ refused number place
  unfolding ◌>>=◌ given
  given_off e = ap (λ o. given o number place >>= f) e

module _ {B : Type 0} {b : Bool} {P : Type 0} (number place : ℕ) (f : Unit {0} → Checked B) (r : Reflects b P) where
  by_require : (Q : Checked B → Type 0) → (P → Q (f tt)) → (¬ P → Q (refused number place)) → Q (require b number place >>= f)
  unfolding ◌>>=◌ require
  by_require Q g h = by_reflects (λ c. Q (require c number place >>= f)) r g h

  pub require_on : P → (require b number place >>= f) ≡ f tt
  require_on h = by_require (λ c. c ≡ f tt) (λ x. refl) (λ n. absurd (n h))

  pub require_off : ¬ P → (require b number place >>= f) ≡ refused number place
  require_off n = by_require (λ c. c ≡ refused number place) (λ h. absurd (n h)) (λ x. refl)

is_none : {A : Type 0} (o : Option A) → ((a : A) → o ≢ some a) → o ≡ none
is_none none h = refl
is_none (some a) h = absurd (h a refl)

none_some : {A : Type 0} {a : A} → none ≡ some a → ⊥
none_some e = let z : ◌≡◌ {A = ℕ} 0 1 = cc in omega arith

pub nil_reflects : (bs : List ℕ) → Reflects (is_nil bs) (bs ≡ [])
nil_reflects [] = record { to = λ t. refl; from = λ e. tt }
nil_reflects (b ∷ bs) = record { to = λ t. absurd t; from = λ e. let z : ◌≡◌ {A = ℕ} 0 1 = cc in absurd (omega arith) }

-- ---- line 0

top_read : (text : List ℕ) {k capacity used : ℕ} {more : List ℕ} → TopSays text k capacity used more → take_top text ≡ some (k, capacity, used, more)
top_read text {k} {capacity} {used} {more} t =
    let n = t.numbers in
    ap take_top t.line ∙ top_taken k capacity used more (every_head n) (every_head (every_tail n)) (every_head (every_tail (every_tail n)))

top_says : (text : List ℕ) {k capacity used : ℕ} {more : List ℕ} → take_top text ≡ some (k, capacity, used, more) → TopSays text k capacity used more
top_says text e =
    let h = top_text text e in
    record { line = h.3; numbers = every_cons h.0 (every_cons h.1 (every_cons h.2 (every_none _))) }

-- ---- the lines of the tables

-- the lines of one record more
lines_snoc : (t : ℕ) (rs : List Table) (r : Table) → lines_from t (rs ++ r ∷ []) ≡ lines_from t rs ++ table_line (t + length rs) r
lines_snoc t [] r = let e : t ≡ t + 0 = omega arith in append-nil (table_line t r) ∙ ap (λ m. table_line m r) e
lines_snoc t (s ∷ rs) r =
    let e : suc t + length rs ≡ t + suc (length rs) = omega arith in
    ap (λ l. table_line t s ++ l) (lines_snoc (suc t) rs r ∙ ap (λ m. lines_from (suc t) rs ++ table_line m r) e)
    ∙ sym (append_assoc (table_line t s) (lines_from (suc t) rs) (table_line (t + suc (length rs)) r))

lines_one_more : (rs : List Table) (r : Table) (more : List ℕ) → lines_from 1 (rs ++ r ∷ []) ++ more ≡ lines_from 1 rs ++ (table_line (suc (length rs)) r ++ more)
lines_one_more rs r more =
    let e : 1 + length rs ≡ suc (length rs) = omega arith in
    ap (λ l. l ++ more) (lines_snoc 1 rs r ∙ ap (λ m. lines_from 1 rs ++ table_line m r) e)
    ∙ append_assoc (lines_from 1 rs) (table_line (suc (length rs)) r) more

-- the list of a part is line 0 and the lines of the records in use
module _ (p : Part) where
  first_lines : (n : ℕ) → n ≤ length p.tables → lines_from 1 (take n p.tables) ≡ table_lines p n
  first_lines zero l = refl
  first_lines (suc n) l =
      let h : 1 + length (take n p.tables) ≡ n + 1 = omega (arith, length-take-le n p.tables (omega arith)) in
      ap (lines_from 1) (take-suc p.tables n blank l)
      ∙ lines_snoc 1 (take n p.tables) (get_or p.tables n blank)
      ∙ ap₂ (λ a m. a ++ table_line m (get_or p.tables n blank)) (first_lines n (omega arith)) h
      ∙ sym (lines_next p n)
      ∙ ap (table_lines p) (add-one n)

  pub list_lines : p.used ≤ length p.tables → (rest : List ℕ) →
      list_of p ++ rest ≡ fields_of (p.k ∷ p.capacity ∷ p.used ∷ []) ++ 10 ∷ (lines_from 1 (in_use p) ++ rest)
  list_lines l rest =
      ap (λ m. m ++ rest) (list_is p ∙ ap (λ m. top_line p.k p.capacity p.used ++ m) (sym (first_lines p.used l)))
      ∙ append_assoc (top_line p.k p.capacity p.used) (lines_from 1 (in_use p)) rest

-- ---- what is read

-- what a reading says of its text
abbrev pub ListSays : List ℕ → Checked Part → Type 0
ListSays text (passed p) = Shaped p × Sound p × (p.reservation ≡ unreserved) × (text ≡ list_of p)
ListSays text (refused number place) = ListCondition text number place

-- the part that is read, where nothing is left over
abbrev pub finish : (k capacity used : ℕ) → List Table × List ℕ → Checked Part
finish k capacity used (tables, left) = do
  _ ← require (is_nil left) 31 (suc used)
  passed (record { k = k; capacity = capacity; used = used; reservation = unreserved; tables = tables ++ drop used blanks })

pub zeros_shaped : Shaped (empty 0 0)
zeros_shaped = opened_shaped 0 0

blanks_blank : Every Blank blanks
blanks_blank = (opened_sound 2 1 refl).rest_blank

module _ (text : List ℕ) (k : ℕ) where
  -- after the last line
  end_says : (rs : List Table) (rest : List ℕ) (g : GoodLines text k (length rs) rs rest) → ListSays text (finish k g.capacity (length rs) (rs, rest))
  end_says rs rest g =
      by_require 31 (suc (length rs)) _ (nil_reflects rest) (ListSays text)
      (λ e. (shaped, sound, refl, g.top.line ∙ ap₂ lines (sym (take-append_seam rs (drop (length rs) blanks))) e ∙ listed))
      (λ n. left_over k rs rest g n)
    where
      p : Part
      p = record { k = k; capacity = g.capacity; used = length rs; reservation = unreserved; tables = rs ++ drop (length rs) blanks }

      shaped : Shaped p
      shaped = record {
        records = simp (length-append, length-drop) (omega (arith, zeros_shaped.records, g.capacity_range, g.used_fits));
        inputs = every_append rs (drop (length rs) blanks) (λ r m. (g.says r m).shaped) (every_drop (length rs) blanks zeros_shaped.inputs);
      }

      sound : Sound p
      sound = record {
        k_range = g.k_range;
        capacity_range = g.capacity_range;
        used_fits = g.used_fits;
        rest_blank = rw drop-append_seam (every_drop (length rs) blanks blanks_blank);
        rules = rw take-append_seam g.rules;
        reservation = none_reservable (g.capacity - length rs);
      }

      lines : List Table → List ℕ → List ℕ
      lines us m = fields_of (k ∷ g.capacity ∷ length rs ∷ []) ++ 10 ∷ (lines_from 1 us ++ m)

      listed : lines (in_use p) [] ≡ list_of p
      listed = sym (list_lines p (omega (arith, shaped.records, g.capacity_range, g.used_fits)) []) ∙ append-nil (list_of p)

  module _ (used : ℕ) where
    -- one more good line
    good_next : (rs : List Table) (rest : List ℕ) (r : Table) (more : List ℕ) → GoodLines text k used rs rest →
        length rs < used → LineSays r → Keeps k rs r → rest ≡ table_line (suc (length rs)) r ++ more → GoodLines text k used (rs ++ r ∷ []) more
    good_next rs rest r more g l s h e = record {
      capacity = g.capacity;
      top = record {
        line = g.top.line ∙ ap (λ m. fields_of (k ∷ g.capacity ∷ used ∷ []) ++ 10 ∷ m) (ap (λ m. lines_from 1 rs ++ m) e ∙ sym (lines_one_more rs r more));
        numbers = g.top.numbers;
      };
      k_range = g.k_range;
      capacity_range = g.capacity_range;
      used_fits = g.used_fits;
      says = every_append rs (r ∷ []) g.says (every_cons s (every_none _));
      rules = rules_snoc k rs r g.rules h;
    }

    -- a line that is laid out is taken
    line_read : (rs : List Table) (rest : List ℕ) (r : Table) (more : List ℕ) → GoodLines text k used rs rest → length rs < used → LineSays r →
        rest ≡ table_line (suc (length rs)) r ++ more → take_table (suc (length rs)) rest ≡ some (at_level 0 r, more)
    line_read rs rest r more g l s e =
        ap (take_table (suc (length rs))) e ∙ table_taken (suc (length rs)) r more (omega (arith, g.used_fits, g.capacity_range)) s

    -- the n lines after good ones
    lines_say : (n : ℕ) (rs : List Table) (rest : List ℕ) (g : GoodLines text k used rs rest) → length rs + n ≡ used →
        ListSays text (read_tables k n rs rest >>= finish k g.capacity used)
    unfolding ◌>>=◌ good_next
    lines_say zero rs rest g e =
        let u : length rs ≡ used = omega arith in
        subst (λ u. (g : GoodLines text k u rs rest) → ListSays text (finish k g.capacity u (rs, rest))) u (end_says rs rest) g
    lines_say (suc n) rs rest g e =
        by_given 31 (suc (length rs)) _ (λ c. ListSays text (c >>= finish k g.capacity used)) (take_table (suc (length rs)) rest)
        (λ z. no_line k used rs rest g (omega arith) (λ r more s q. none_some (sym z ∙ line_read rs rest r more g (omega arith) s q)))
        (λ (r, more) q.
        let h = table_text (suc (length rs)) rest q in
        let s : Table = levelled rs r in
        let says = says_level (level_after rs r) r h.1 in
        by_require 32 (suc (length rs)) _ (keeps_reflects k rs s) (λ c. ListSays text (c >>= finish k g.capacity used))
        (λ b. lines_say n (rs ++ s ∷ []) more (good_next rs rest s more g (omega arith) says b h.2) (rw length-append (omega arith)))
        (λ b. rule_broken k used rs s more (subst (GoodLines text k used rs) h.2 g) (omega arith) says refl (λ w. b (rules_keeps k rs s w))))

-- no line so far
good_top : (text : List ℕ) {k capacity used : ℕ} {more : List ℕ} → TopSays text k capacity used more → KRange k → CapacityRange capacity → used ≤ capacity →
    GoodLines text k used [] more
good_top text {k} {capacity} t hk hc hu = record {
  capacity = capacity;
  top = t;
  k_range = hk;
  capacity_range = hc;
  used_fits = hu;
  says = every_none _;
  rules = (no_records k capacity).rules;
}

-- WHAT A READING GIVES SAYS WHAT THE TEXT IS
pub list_says : (text : List ℕ) → ListSays text (read_list text)
unfolding read_list good_top
list_says text =
    by_given 31 0 _ (ListSays text) (take_top text)
    (λ z. no_top (λ k capacity used more t. none_some (sym z ∙ top_read text t)))
    (λ (k, capacity, used, more) e.
    let t = top_says text e in
    by_require 2 0 _ (reflects_within 2 input_room k) (ListSays text)
    (λ hk. by_require 3 0 _ (reflects_within 1 table_room capacity) (ListSays text)
    (λ hc. by_require 32 0 _ (reflects_le used capacity) (ListSays text)
    (λ hu. lines_say text k used used [] more (good_top text t hk hc hu) (omega arith))
    (λ n. used_above k capacity used more t hk hc (omega arith)))
    (λ n. bad_capacity k capacity used more t hk n))
    (λ n. bad_k k capacity used more t n))

-- ---- the same steps, taken

-- a record whose level is the one worked out
level_is : (before : List Table) (r : Table) → r.level ≡ level_after before r → levelled before r ≡ r
level_is before r e = ap (λ l. at_level l r) (sym e)

-- good lines are read
tables_read : (k : ℕ) (before rs : List Table) (m n : ℕ) (rest : List ℕ) → m ≡ length rs + n → FieldFits (length before + length rs) →
    Every LineSays rs → Rules k (before ++ rs) → read_tables k m before (lines_from (suc (length before)) rs ++ rest) ≡ read_tables k n (before ++ rs) rest
tables_read k before [] m n rest e l s h = let d : m ≡ n = omega arith in ap₂ (λ a b. read_tables k a b rest) d (sym (append-nil before))
tables_read k before (r ∷ rs) zero n rest e l s h = absurd (omega arith)
tables_read k before (r ∷ rs) (suc m) n rest e l s h =
    given_on 31 (suc (length before)) _
    (ap (take_table (suc (length before))) (append_assoc (table_line (suc (length before)) r) lines rest)
    ∙ table_taken (suc (length before)) r (lines ++ rest) (omega arith) (every_head s))
    ∙ require_on 32 (suc (length before)) _ (keeps_reflects k before (levelled before r)) (subst (Keeps k before) (sym same) kept)
    ∙ ap (λ s. read_tables k m (before ++ s ∷ []) (lines ++ rest)) same
    ∙ ap (λ t. read_tables k m (before ++ r ∷ []) (lines_from (suc t) rs ++ rest)) (sym d)
    ∙ tables_read k (before ++ r ∷ []) rs m n rest (omega arith) (omega (arith, d)) (every_tail s) w
    ∙ ap (λ b. read_tables k n b rest) (append_assoc before (r ∷ []) rs)
  where
    lines : List ℕ
    lines = lines_from (suc (suc (length before))) rs

    w : Rules k ((before ++ r ∷ []) ++ rs)
    w = rw append_assoc h

    kept : Keeps k before r
    kept = rules_keeps k before r (rules_prefix k (before ++ r ∷ []) rs w)

    same : levelled before r ≡ r
    same = level_is before r kept.level

    d : length (before ++ r ∷ []) ≡ suc (length before)
    d = rw length-append (omega arith)

-- and the reading goes on after them
pub good_read : (text : List ℕ) {k used : ℕ} (rs : List Table) (rest : List ℕ) (g : GoodLines text k used rs rest) (n : ℕ) → used ≡ length rs + n →
    read_list text ≡ (read_tables k n rs rest >>= finish k g.capacity used)
unfolding read_list
good_read text {k} {used} rs rest g n e =
    given_on 31 0 _ (top_read text g.top) ∙ require_on 2 0 _ (reflects_within 2 input_room k) g.k_range
    ∙ require_on 3 0 _ (reflects_within 1 table_room g.capacity) g.capacity_range
    ∙ require_on 32 0 _ (reflects_le used g.capacity) g.used_fits
    ∙ ap (λ c. c >>= finish k g.capacity used)
    (tables_read k [] rs used n rest e (omega (arith, e, g.used_fits, g.capacity_range)) g.says g.rules)

-- UNDER THE CONDITION OF A REFUSAL there is that refusal
pub condition_read : (text : List ℕ) {number place : ℕ} → ListCondition text number place → read_list text ≡ refused number place
unfolding read_list ◌>>=◌
condition_read text (no_top f) = given_off 31 0 _ (is_none (take_top text) (λ (k, capacity, used, more) e. f k capacity used more (top_says text e)))
condition_read text (bad_k k capacity used more t n) = given_on 31 0 _ (top_read text t) ∙ require_off 2 0 _ (reflects_within 2 input_room k) n
condition_read text (bad_capacity k capacity used more t hk n) =
    given_on 31 0 _ (top_read text t) ∙ require_on 2 0 _ (reflects_within 2 input_room k) hk
    ∙ require_off 3 0 _ (reflects_within 1 table_room capacity) n
condition_read text (used_above k capacity used more t hk hc l) =
    given_on 31 0 _ (top_read text t) ∙ require_on 2 0 _ (reflects_within 2 input_room k) hk
    ∙ require_on 3 0 _ (reflects_within 1 table_room capacity) hc ∙ require_off 32 0 _ (reflects_le used capacity) (λ h. omega arith)
condition_read text (no_line k used rs rest g l f) =
    good_read text rs rest g (suc (used - suc (length rs))) (omega arith)
    ∙ ap (λ c. c >>= finish k g.capacity used)
    (given_off 31 (suc (length rs)) _ (is_none (take_table (suc (length rs)) rest)
    (λ (r, more) e. let h = table_text (suc (length rs)) rest e in f r more h.1 h.2)))
condition_read text (rule_broken k used rs r more g l s v b) =
    good_read text rs (table_line (suc (length rs)) r ++ more) g (suc (used - suc (length rs))) (omega arith)
    ∙ ap (λ c. c >>= finish k g.capacity used)
    (given_on 31 (suc (length rs)) _ (line_read text k used rs (table_line (suc (length rs)) r ++ more) r more g l s refl)
    ∙ require_off 32 (suc (length rs)) _ (keeps_reflects k rs (levelled rs r)) (λ h. b (rules_snoc k rs r g.rules (subst (Keeps k rs) (level_is rs r v) h))))
condition_read text (left_over k rs rest g n) =
    good_read text rs rest g 0 (omega arith) ∙ require_off 31 (suc (length rs)) _ (nil_reflects rest) n
