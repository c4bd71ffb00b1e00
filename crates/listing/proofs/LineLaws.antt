-- The lines of a part's list one after the other, how long they are, and the outcomes of a write by the tests that lead to them.
use Rattle.std.specs.Prelude.{ℕ, zero, suc, ◌+◌, ◌-◌, ◌*◌, ◌≤◌, ◌<◌, ◌≡◌, refl, true, false, cond, List, [], ◌∷◌, ◌++◌, map, leb, get_or}
use Rattle.std.proofs.Common.{add-one, arith, sym, ap₂, ◌∙◌, append-nil, length-take, get_or-take}
use Rattle.std.proofs.Math.Path.{ap}
use Rattle.std.proofs.Math.ListN.{length, length-append, get_or-eq_default}
use Rattle.lists.specs.ListLaws.{every_at, gather_append, gather_map}
use Rattle.lists.specs.Trusted.Lists.{gather}
use Rattle.lists.specs.Sequences.{upto}
use Rattle.lists.specs.NumberLaws.{from_one}
use Rattle.lists.specs.Cases.{by_leb}
use Rattle.lists.specs.Trusted.Checked.{passed}
use Rattle.table.specs.Trusted.Records.{blank}
use Rattle.table.specs.RuleLaws.{map_append}
use Rattle.part.specs.declared.Part.{Part}
use Rattle.table.specs.ResultLaws.{says_true}
use Rattle.part.specs.Trusted.Parts.{in_use}
use Rattle.part.specs.Trusted.Sound.{Sound}
use Rattle.part.specs.Trusted.SoundTest.{sound}
use Rattle.part.specs.SoundLaws.{sound_reflects}
use Rattle.list_line.specs.Trusted.TableLine.{table_line}
use Rattle.listing.specs.Trusted.Listing.{line_of, list_of}
use Rattle.list_line.specs.Trusted.Writes.{pasted}
use Rattle.list_line.specs.FieldLaws.{table_length}
use Rattle.list_line.specs.Line.{table_width, top_line}
use Rattle.listing.specs.Lines.{turned_down, fitted, line_written, list_written, table_lines, longest}

-- ---- the list

upto_next : (n : ℕ) → upto (suc n) ≡ upto n ++ n ∷ []
upto_next zero = refl
upto_next (suc n) = ap (λ l. 0 ∷ map suc l) (upto_next n) ∙ ap (◌∷◌ 0) (map_append suc (upto n) (n ∷ []))

pub lines_next : (p : Part) (t : ℕ) → table_lines p (t + 1) ≡ table_lines p t ++ table_line (t + 1) (get_or p.tables t blank)
lines_next p t =
    let f : ℕ → List ℕ = λ u. table_line (suc u) (get_or p.tables u blank) in
    ap (table_lines p) (add-one t) ∙ ap (gather f) (upto_next t) ∙ gather_append f (upto t) (t ∷ [])
    ∙ ap (λ l. table_lines p t ++ l) (append-nil (f t) ∙ ap (λ m. table_line m (get_or p.tables t blank)) (sym (add-one t)))

pub lines_next_length : (p : Part) (t : ℕ) → length (table_lines p (t + 1)) ≡ length (table_lines p t) + table_width (get_or p.tables t blank)
lines_next_length p t =
    ap length (lines_next p t) ∙ length-append (table_lines p t) (table_line (t + 1) (get_or p.tables t blank))
    ∙ ap (λ n. length (table_lines p t) + n) (table_length (t + 1) (get_or p.tables t blank))

-- the lines of more tables are longer
pub lines_more : (p : Part) (t u : ℕ) → t ≤ u → length (table_lines p t) ≤ length (table_lines p u)
lines_more p t zero h = let e : t ≡ 0 = omega arith in rw e (omega arith)
lines_more p t (suc u) h =
    by_leb (λ b. length (table_lines p t) ≤ length (table_lines p (suc u))) t u
    (λ l. let e : u + 1 ≡ suc u = add-one u in omega (arith, lines_more p t u l, lines_next_length p u, ap (λ n. length (table_lines p n)) e))
    (λ l. let e : t ≡ suc u = omega arith in rw e (omega arith))

-- line 0 and then the tables' lines
pub list_is : (p : Part) → list_of p ≡ top_line p.k p.capacity p.used ++ table_lines p p.used
list_is p =
    ap (λ l. top_line p.k p.capacity p.used ++ l) (ap (gather (line_of p)) (from_one p.used) ∙ gather_map (line_of p) suc (upto p.used))

-- ---- the list of a sound part

module _ (p : Part) (s : Sound p) where
  -- the record of a table in use has at most six inputs
  used_width : (t : ℕ) → t < p.used → table_width (get_or p.tables t blank) ≤ 76
  used_width t h =
      rw (← get_or-take p.used p.tables t blank h)
      (by_leb (λ b. table_width (get_or (in_use p) t blank) ≤ 76) (length (in_use p)) t
      (λ l. rw (get_or-eq_default (in_use p) blank {n = t} l) (omega arith))
      (λ l. let r = get_or (in_use p) t blank in omega (arith, (every_at (in_use p) t blank s.rules.sized l).1, s.k_range.1, length-take r.count r.inputs)))

  lines_short : (n : ℕ) → n ≤ p.used → length (table_lines p n) ≤ 76 * n
  lines_short zero h = omega arith
  lines_short (suc n) h =
      omega (arith, lines_short n (omega arith), used_width n h, lines_next_length p n, ap (λ m. length (table_lines p m)) (add-one n))

  -- THE LONGEST LIST
  pub list_short : length (list_of p) ≤ longest
  unfolding longest
  list_short =
      omega (arith, ap length (list_is p), length-append (top_line p.k p.capacity p.used) (table_lines p p.used), lines_short p.used (omega arith), s.used_fits, s.capacity_range.1)

-- ---- the outcomes, by the tests that lead to them

module _ (old : List ℕ) (at : ℕ) {line new : List ℕ} (e : line ≡ new) where
  pub fitted_out : leb (at + length new) (length old) ≡ false → fitted old at line ≡ turned_down 14 old
  fitted_out h = ap (fitted old at) e ∙ ap (λ b. cond b (record { result = passed (length new); bytes = pasted old at new }) (turned_down 14 old)) h

  pub fitted_in : leb (at + length new) (length old) ≡ true → fitted old at line ≡ record { result = passed (length new); bytes = pasted old at new }
  fitted_in h = ap (fitted old at) e ∙ ap (λ b. cond b (record { result = passed (length new); bytes = pasted old at new }) (turned_down 14 old)) h

module _ (p : Part) (line : ℕ) (old : List ℕ) (at : ℕ) where
  pub line_unsound : sound p ≡ false → line_written p line old at ≡ turned_down 20 old
  line_unsound s = ap (λ b. cond b (cond (leb line p.used) (fitted old at (line_of p line)) (turned_down 15 old)) (turned_down 20 old)) s

  module _ (s : sound p ≡ true) where
    pub line_absent : leb line p.used ≡ false → line_written p line old at ≡ turned_down 15 old
    line_absent h = ap₂ (λ a b. cond a (cond b (fitted old at (line_of p line)) (turned_down 15 old)) (turned_down 20 old)) s h

    pub line_there : leb line p.used ≡ true → line_written p line old at ≡ fitted old at (line_of p line)
    line_there h = ap₂ (λ a b. cond a (cond b (fitted old at (line_of p line)) (turned_down 15 old)) (turned_down 20 old)) s h

pub line_table : (p : Part) (line : ℕ) → 0 < line → line_of p line ≡ table_line line (get_or p.tables (line - 1) blank)
line_table p zero h = absurd (omega arith)
line_table p (suc t) h = let e : t ≡ suc t - 1 = omega arith in ap (λ i. table_line (suc t) (get_or p.tables i blank)) e

module _ (p : Part) (old : List ℕ) (at : ℕ) where
  pub list_unsound : sound p ≡ false → list_written p old at ≡ turned_down 20 old
  list_unsound s = ap (λ b. cond b (fitted old at (list_of p)) (turned_down 20 old)) s

  pub list_there : sound p ≡ true → list_written p old at ≡ fitted old at (list_of p)
  list_there s = ap (λ b. cond b (fitted old at (list_of p)) (turned_down 20 old)) s

-- a sound part has at most 800 tables in use
pub used_room : (p : Part) → sound p ≡ true → p.used ≤ 800
used_room p s = let h = says_true (sound_reflects p) s in omega (arith, h.used_fits, h.capacity_range.1)
