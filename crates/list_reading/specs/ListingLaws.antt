-- A number can be read off its field, and so a part off its lines: two sound parts with the same lines are the same part but for what
-- is reserved. No line says a level, but the rules fix the levels by the rest.
use Rattle.std.specs.Prelude.{ℕ, zero, suc, ◌^◌, ◌≤◌, ◌<◌, ◌≡◌, refl, List, [], ◌∷◌, ◌++◌, map, length, drop, get_or}
use Rattle.std.proofs.Math.Nat.{pow-le-pow_right}
use Rattle.std.proofs.Common.{arith, sym, ap, ap₂, ◌∙◌, subst, ⊎_elim, append_assoc, length-take, length-drop, take-append-drop, get_or-take, ext_get_or, length-take-le}
use mathlib.Core.List.Memᴰ
use Rattle.std.proofs.lemmas.List.{length-map}
use Rattle.std.proofs.Math.ListN.{get_or-map}
use Rattle.lists.specs.NumberLaws.{from_one}
use Rattle.lists.specs.Trusted.Lists.{◌∈◌, first, later, Every, gather}
use Rattle.lists.specs.Sequences.{upto}
use Rattle.lists.specs.ListLaws.{every_none, every_at, every_cons, every_head, every_tail, every_take, every_drop}
use Rattle.tree.specs.Trusted.Limits.{greatest_net, code_base}
use Rattle.decimal.specs.Trusted.Columns.{field_of, fields_of}
use Rattle.decimal.specs.ColumnLaws.{field_only, fields_only}
use Rattle.cover.specs.Trusted.Tables.{Placed, levels_of}
use Rattle.table.specs.Trusted.Limits.{input_room}
use Rattle.table.specs.Trusted.Records.{reads, table_of, blank}
use Rattle.table.specs.Trusted.Rules.{AllZero, Blank, NamesTable, Padded, places}
use Rattle.table.specs.RuleLaws.{old_place, record_placed}
use Rattle.list_layout.specs.Taken.{at_level}
use Rattle.part_records.specs.Trusted.Reservations.{unreserved}
use Rattle.part.specs.Trusted.Parts.{in_use, tables_of, released, Shaped}
use Rattle.part.specs.Trusted.Sound.{Sound}
use Rattle.part.specs.SoundLaws.{used_count}
use Rattle.list_line.specs.Trusted.TableLine.{table_line}
use Rattle.listing.specs.Trusted.Listing.{line_of, list_of}
use Rattle.table.specs.declared.Table.{Table}
use Rattle.part.specs.declared.Part.{Part}

-- ---- a record in its line

same_by : {A : Type 0} (P : A → Type 0) → ((a b : A) → P a → P b → a ≡ b) → (xs ys : List A) → length xs ≡ length ys → Every P xs → Every P ys → xs ≡ ys
same_by P h [] [] l f g = refl
same_by P h [] (y ∷ ys) l f g = absurd (omega arith)
same_by P h (x ∷ xs) [] l f g = absurd (omega arith)
same_by P h (x ∷ xs) (y ∷ ys) l f g = ap₂ ◌∷◌ (h x y (every_head f) (every_head g)) (same_by P h xs ys (omega arith) (every_tail f) (every_tail g))

zeros_same : (xs ys : List ℕ) → length xs ≡ length ys → AllZero xs → AllZero ys → xs ≡ ys
zeros_same = same_by (λ x. x ≡ 0) (λ a b e f. e ∙ sym f)

same_record : (r s : Table) → r.net ≡ s.net → r.count ≡ s.count → r.inputs ≡ s.inputs → r.truth ≡ s.truth → r.level ≡ s.level → r ≡ s
same_record r s a b c d e = λ i. record { net = a i; count = b i; inputs = c i; truth = d i; level = e i }

-- two records are the same but for their levels
abbrev SameBut : Table → Table → Type 0
SameBut r s = at_level 0 r ≡ at_level 0 s

-- what a record of a sound part is
record Small (r : Table) : Type 0 where
  room : length r.inputs ≡ input_room
  padded : Padded r
  count : r.count ≤ input_room
  net : r.net ≤ greatest_net
  inputs : Every (λ x. x < 10 ^ 6) (reads r)
  truth : r.truth < 2 ^ (2 ^ r.count)

reads_length : (r : Table) → Small r → length (reads r) ≡ r.count
reads_length r s =
    let l : r.count ≤ length r.inputs = omega (arith, s.room, s.count) in
    length-take-le r.count r.inputs l

-- the truth table of at most six inputs is below 2^64
pub truth_word : (r : Table) → r.count ≤ input_room → r.truth < 2 ^ (2 ^ r.count) → r.truth < 2 ^ 64
truth_word r l t =
    let a : 2 ^ r.count ≤ 64 = pow-le-pow_right (omega arith) {i = r.count} {j = 6} l in
    let b : 2 ^ (2 ^ r.count) ≤ 2 ^ 64 = pow-le-pow_right (omega arith) {i = 2 ^ r.count} {j = 64} a in
    omega (arith, t, b)

truth_small : (r : Table) → Small r → r.truth < 10 ^ 21
truth_small r s = omega (arith, truth_word r s.count s.truth)

inputs_same : (r s : Table) → Small r → Small s → r.count ≡ s.count → reads r ≡ reads s → r.inputs ≡ s.inputs
inputs_same r s f g c e =
    sym (take-append-drop r.count r.inputs)
    ∙ ap₂ ◌++◌ e (zeros_same (drop r.count r.inputs) (drop s.count s.inputs)
    (simp length-drop (omega (arith, c, f.room, g.room))) f.padded g.padded)
    ∙ take-append-drop s.count s.inputs

-- a record but for its level is read off its line, and what follows is the same
table_line_only : (t : ℕ) (r s : Table) (xs ys : List ℕ) → t < 10 ^ 6 → Small r → Small s → table_line t r ++ xs ≡ table_line t s ++ ys →
    SameBut r s × (xs ≡ ys)
table_line_only t r s xs ys l f g e = (same_record (at_level 0 r) (at_level 0 s) b.0 c.0 (inputs_same r s f g c.0 d.0) h.0 refl, cc h.1)
  where
    after : Table → List ℕ → List ℕ
    after u zs = (field_of 21 u.truth ++ 10 ∷ []) ++ zs

    whole : fields_of (t ∷ r.net ∷ r.count ∷ reads r) ++ after r xs ≡ fields_of (t ∷ s.net ∷ s.count ∷ reads s) ++ after s ys
    whole = sym (append_assoc (fields_of (t ∷ r.net ∷ r.count ∷ reads r)) (field_of 21 r.truth ++ 10 ∷ []) xs) ∙ e
        ∙ append_assoc (fields_of (t ∷ s.net ∷ s.count ∷ reads s)) (field_of 21 s.truth ++ 10 ∷ []) ys

    a : (t ≡ t) × (fields_of (r.net ∷ r.count ∷ reads r) ++ after r xs ≡ fields_of (s.net ∷ s.count ∷ reads s) ++ after s ys)
    a = field_only 6 t t (fields_of (r.net ∷ r.count ∷ reads r) ++ after r xs) (fields_of (s.net ∷ s.count ∷ reads s) ++ after s ys) l l whole

    b : (r.net ≡ s.net) × (fields_of (r.count ∷ reads r) ++ after r xs ≡ fields_of (s.count ∷ reads s) ++ after s ys)
    b = field_only 6 r.net s.net (fields_of (r.count ∷ reads r) ++ after r xs) (fields_of (s.count ∷ reads s) ++ after s ys)
        (omega (arith, f.net)) (omega (arith, g.net)) a.1

    c : (r.count ≡ s.count) × (fields_of (reads r) ++ after r xs ≡ fields_of (reads s) ++ after s ys)
    c = field_only 6 r.count s.count (fields_of (reads r) ++ after r xs) (fields_of (reads s) ++ after s ys)
        (omega (arith, f.count)) (omega (arith, g.count)) b.1

    d : (reads r ≡ reads s) × (after r xs ≡ after s ys)
    d = fields_only (reads r) (reads s) (after r xs) (after s ys) (reads_length r f ∙ c.0 ∙ sym (reads_length s g)) f.inputs g.inputs c.1

    h : (r.truth ≡ s.truth) × (◌≡◌ {A = List ℕ} (10 ∷ xs) (10 ∷ ys))
    h = field_only 21 r.truth s.truth (10 ∷ xs) (10 ∷ ys) (truth_small r f) (truth_small s g) d.1

-- ---- a part in its lines

-- a net or the name of a table fits the columns of a field
pub inputs_small : (p : Part) → Sound p → Every (λ r. Every (λ x. x < 10 ^ 6) (reads r)) (in_use p)
inputs_small p h r m x i = ⊎_elim (λ n. omega (arith, n.1)) named ((h.rules.coded r m).1 x i)
  where
    o : (q : Placed) × (q ∈ places (in_use p)) × (q.1 ≡ table_of r)
    o = record_placed 0 (in_use p) r m

    named : NamesTable x → x < 10 ^ 6
    named t =
        let q = h.rules.sourced o.0 o.1 x (subst (λ u. x ∈ u.inputs) (sym o.2) i) t in
        omega (arith, q.2, q.3, (old_place (in_use p) o.0 o.1).1, length-take p.used p.tables, h.used_fits, h.capacity_range.1)

small : (p : Part) → Shaped p → Sound p → Every Small (in_use p)
small p shape h r m = record {
  room = every_take p.used p.tables shape.inputs r m;
  padded = h.rules.padded r m;
  count = omega (arith, (h.rules.sized r m).1, h.k_range.1);
  net = (h.rules.coded r m).0;
  inputs = inputs_small p h r m;
  truth = (h.rules.sized r m).3;
}

-- record t, of the records in use
small_at : (p : Part) → Shaped p → Sound p → (t : ℕ) → t < p.used → Small (get_or p.tables t blank)
small_at p shape h t l =
    let i : t < length (in_use p) = omega (arith, l, used_count p shape.records h) in
    rw (get_or-take p.used p.tables t blank l) at (every_at {P = Small} (in_use p) t blank (small p shape h) i)

-- EVERY LINE OF A SOUND PART FITS ITS COLUMNS: line 0, and the line of table t + 1
pub top_fits : (p : Part) → Sound p → Every (λ n. n < 10 ^ 6) (p.k ∷ p.capacity ∷ p.used ∷ [])
top_fits p h =
    every_cons (omega (arith, h.k_range.1)) (every_cons (omega (arith, h.capacity_range.1))
    (every_cons (omega (arith, h.used_fits, h.capacity_range.1)) (every_none _)))

-- the numbers below n
upto_below : (n : ℕ) → Every (λ t. t < n) (upto n)
upto_below zero = every_none _
upto_below (suc n) = every_cons (omega arith) (λ t m. let o = Memᴰ.of_map suc (upto n) m in omega (arith, o.2, upto_below n o.0 o.1))

in_upto : (n t : ℕ) → t < n → t ∈ upto n
in_upto zero t l = absurd (omega arith)
in_upto (suc n) zero l = first refl
in_upto (suc n) (suc t) l = later (Memᴰ.map suc (in_upto n t (omega arith)))

blank_same : (r s : Table) → Blank r × (length r.inputs ≡ input_room) → Blank s × (length s.inputs ≡ input_room) → r ≡ s
blank_same r s f g =
    same_record r s (f.0.net ∙ sym g.0.net) (f.0.count ∙ sym g.0.count)
    (zeros_same r.inputs s.inputs (f.1 ∙ sym g.1) f.0.inputs g.0.inputs) (f.0.truth ∙ sym g.0.truth) (f.0.level ∙ sym g.0.level)

module _ (p q : Part) (fp : Shaped p) (fq : Shaped q) (hp : Sound p) (hq : Sound q) where
  same_part : p.k ≡ q.k → p.capacity ≡ q.capacity → p.used ≡ q.used →
      ((t : ℕ) → t < p.used → SameBut (get_or p.tables t blank) (get_or q.tables t blank)) → released p ≡ released q
  same_part a b c d = λ i. record { k = a i; capacity = b i; used = c i; reservation = unreserved; tables = tables i }
    where
      count : length (in_use p) ≡ length (in_use q)
      count = used_count p fp.records hp ∙ c ∙ sym (used_count q fq.records hq)

      same_at : (i : ℕ) → i < length (in_use p) → SameBut (get_or (in_use p) i blank) (get_or (in_use q) i blank)
      same_at i l =
          let m : i < p.used = omega (arith, l, used_count p fp.records hp) in
          let n : i < q.used = omega (arith, m, c) in
          ap (at_level 0) (get_or-take p.used p.tables i blank m) ∙ d i m ∙ ap (at_level 0) (sym (get_or-take q.used q.tables i blank n))

      -- the tables are the same, and so their levels
      same_tables : tables_of p ≡ tables_of q
      same_tables = ext_get_or (table_of blank) (tables_of p) (tables_of q) (length-map (in_use p) table_of ∙ count ∙ sym (length-map (in_use q) table_of)) (λ i l.
          get_or-map table_of (in_use p) i blank ∙ ap table_of (same_at i (omega (arith, l, length-map (in_use p) table_of))) ∙ sym (get_or-map table_of (in_use q) i blank))

      same_levels : map (λ r. r.level) (in_use p) ≡ map (λ r. r.level) (in_use q)
      same_levels = hp.rules.levels ∙ ap (levels_of code_base) same_tables ∙ sym hq.rules.levels

      front : in_use p ≡ in_use q
      front = ext_get_or blank (in_use p) (in_use q) count (λ i l.
          ap₂ (λ r n. at_level n r) (same_at i l)
          (sym (get_or-map (λ r. r.level) (in_use p) i blank) ∙ ap (λ ls. get_or ls i 0) same_levels ∙ get_or-map (λ r. r.level) (in_use q) i blank))

      rest : drop p.used p.tables ≡ drop q.used q.tables
      rest = same_by (λ r. Blank r × (length r.inputs ≡ input_room)) blank_same (drop p.used p.tables) (drop q.used q.tables)
          (simp length-drop (omega (arith, c, fp.records, fq.records)))
          (λ r m. (hp.rest_blank r m, every_drop p.used p.tables fp.inputs r m))
          (λ r m. (hq.rest_blank r m, every_drop q.used q.tables fq.inputs r m))

      tables : p.tables ≡ q.tables
      tables = sym (take-append-drop p.used p.tables) ∙ ap₂ ◌++◌ front rest ∙ take-append-drop q.used q.tables

  -- line 0, and what follows it
  top_only : (xs ys : List ℕ) → line_of p 0 ++ xs ≡ line_of q 0 ++ ys → (p.k ≡ q.k) × (p.capacity ≡ q.capacity) × (p.used ≡ q.used) × (xs ≡ ys)
  top_only xs ys e =
      let a : fields_of (p.k ∷ p.capacity ∷ p.used ∷ []) ++ (10 ∷ xs) ≡ fields_of (q.k ∷ q.capacity ∷ q.used ∷ []) ++ (10 ∷ ys) = e in
      let b = fields_only (p.k ∷ p.capacity ∷ p.used ∷ []) (q.k ∷ q.capacity ∷ q.used ∷ []) (10 ∷ xs) (10 ∷ ys) refl (top_fits p hp) (top_fits q hq) a in
      let f = b.0 in
      let g = b.1 in
      (cc, cc, cc, cc)

  -- line t, and what follows it
  line_only : (t : ℕ) (xs ys : List ℕ) → t < p.used → t < q.used → line_of p (suc t) ++ xs ≡ line_of q (suc t) ++ ys →
      SameBut (get_or p.tables t blank) (get_or q.tables t blank) × (xs ≡ ys)
  line_only t xs ys l m e =
      table_line_only (suc t) (get_or p.tables t blank) (get_or q.tables t blank) xs ys
      (omega (arith, l, hp.used_fits, hp.capacity_range.1)) (small_at p fp hp t l) (small_at q fq hq t m) e

  -- TWO SOUND PARTS WITH THE SAME LINES are the same part but for what is reserved
  pub same_lines : ((t : ℕ) → t ≤ p.used → line_of p t ≡ line_of q t) → released p ≡ released q
  same_lines e =
      let a = top_only [] [] (ap (λ l. l ++ []) (e 0 (omega arith))) in
      same_part a.0 a.1 a.2 (λ t l. (line_only t [] [] l (omega (arith, l, a.2)) (ap (λ l. l ++ []) (e (suc t) l))).0)

  lines_only : (ts : List ℕ) → Every (λ t. (t < p.used) × (t < q.used)) ts → gather (line_of p) (map suc ts) ≡ gather (line_of q) (map suc ts) →
      Every (λ t. SameBut (get_or p.tables t blank) (get_or q.tables t blank)) ts
  lines_only [] f e = every_none _
  lines_only (t ∷ ts) f e =
      let h = every_head f in
      let a = line_only t (gather (line_of p) (map suc ts)) (gather (line_of q) (map suc ts)) h.0 h.1 e in
      every_cons a.0 (lines_only ts (every_tail f) a.1)

  -- TWO SOUND PARTS WITH THE SAME LIST are the same part but for what is reserved
  pub list_says_all : list_of p ≡ list_of q → released p ≡ released q
  list_says_all e =
      let f : (r : Part) → list_of r ≡ line_of r 0 ++ gather (line_of r) (map suc (upto r.used)) = λ r. ap (λ ts. line_of r 0 ++ gather (line_of r) ts) (from_one r.used) in
      let a = top_only (gather (line_of p) (map suc (upto p.used))) (gather (line_of q) (map suc (upto q.used))) (sym (f p) ∙ e ∙ f q) in
      let b : gather (line_of p) (map suc (upto p.used)) ≡ gather (line_of q) (map suc (upto p.used)) =
      a.3 ∙ ap (λ n. gather (line_of q) (map suc (upto n))) (sym a.2) in
      same_part a.0 a.1 a.2
      (λ t l. lines_only (upto p.used) (λ u m. let v = upto_below p.used u m in (v, omega (arith, v, a.2))) b t (in_upto p.used t l))
