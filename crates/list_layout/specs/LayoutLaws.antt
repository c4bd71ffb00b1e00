-- A LINE IS READ EXACTLY AS IT IS WRITTEN: reading what the writer wrote gives the numbers back, and what is read is what the writer
-- writes of them. Only the level, which no line says, is read as 0.
use Rattle.std.specs.Prelude.{ℕ, ◌-◌, ◌^◌, ◌≤◌, ◌<◌, ◌≡◌, refl, cond, List, [], ◌∷◌, ◌++◌, eqb, length, drop, replicate}
use Rattle.std.proofs.Common.{arith, sym, ap, ap₂, ◌∙◌, subst, append_assoc, append-nil, eq-eqb, length-append, length-drop, take-append-drop, length-take-le}
use Rattle.std.proofs.Math.Option.{some, none}
use Rattle.std.proofs.lemmas.List.{length-replicate}
use Rattle.std.proofs.Math.Seq.{take-append_seam, drop-append_seam}
use Rattle.lists.specs.Trusted.Lists.{Every}
use Rattle.lists.specs.ListLaws.{every_cons, every_head, every_tail, every_replicate}
use Rattle.lists.specs.TestLaws.{reflects_eq, reflects_within, reflects_true}
use Rattle.lists.specs.Trusted.Tests.{within}
use Rattle.decimal.specs.Trusted.Number.{columns}
use Rattle.decimal.specs.Trusted.Columns.{field_of, fields_of}
use Rattle.decimal.specs.NumberLaws.{Given, given_map, given_some}
use Rattle.cover.specs.Trusted.Tables.{LookupTable}
use Rattle.table.specs.Trusted.Limits.{input_room}
use Rattle.table.specs.Trusted.Records.{reads, record_of, table_of}
use Rattle.table.specs.Trusted.Rules.{AllZero}
use Rattle.table.specs.ResultLaws.{says_true}
use Rattle.table.specs.declared.Table.{Table}
use Rattle.list_line.specs.Trusted.TableLine.{table_line}
use Rattle.list_layout.specs.Trusted.Layout.{take_number, take_numbers, take_top, take_table}
use Rattle.list_layout.specs.Trusted.LineSays.{FieldFits, LineSays}
use Rattle.list_layout.specs.Taken.{at_level}
use Rattle.list_layout.specs.FieldLaws.{bind_some, given_bind, given_cond, number_taken, number_found, field_word, numbers_taken, NumbersText, numbers_text, line_feed_text}

-- a number in a field
field_taken : (n : ℕ) (rest : List ℕ) → FieldFits n → take_number columns (field_of columns n ++ rest) ≡ some (n, rest)
field_taken n rest h = number_taken columns n rest (omega arith) h (field_word n h)

-- ---- line 0

module _ (a b c : List ℕ) where
  three : (x : List ℕ) → (a ++ (b ++ (c ++ []))) ++ x ≡ a ++ (b ++ (c ++ x))
  three x = simp (append_assoc, append-nil)

  three_found : {text x y z w : List ℕ} → text ≡ a ++ x → x ≡ b ++ y → y ≡ c ++ z → z ≡ w → text ≡ (a ++ (b ++ (c ++ []))) ++ w
  three_found {w = w} e f g h = e ∙ ap (λ l. a ++ l) (f ∙ ap (λ l. b ++ l) (g ∙ ap (λ l. c ++ l) h)) ∙ sym (three w)

pub top_taken : (k capacity used : ℕ) (more : List ℕ) → FieldFits k → FieldFits capacity → FieldFits used →
    take_top (fields_of (k ∷ capacity ∷ used ∷ []) ++ 10 ∷ more) ≡ some (k, capacity, used, more)
top_taken k capacity used more hk hc hu =
    ap take_top (three (field_of columns k) (field_of columns capacity) (field_of columns used) (10 ∷ more))
    ∙ bind_some _ _ (field_taken k (field_of columns capacity ++ (field_of columns used ++ 10 ∷ more)) hk)
    ∙ bind_some _ _ (field_taken capacity (field_of columns used ++ 10 ∷ more) hc)
    ∙ bind_some _ _ (field_taken used (10 ∷ more) hu)
    ∙ bind_some _ _ refl

abbrev TopText : List ℕ → ℕ × ℕ × ℕ × List ℕ → Type 0
TopText text (k, capacity, used, more) = FieldFits k × FieldFits capacity × FieldFits used × (text ≡ fields_of (k ∷ capacity ∷ used ∷ []) ++ 10 ∷ more)

top_given : (text : List ℕ) → Given (TopText text) (take_top text)
top_given text =
    given_bind (TopText text) _ _ (number_found columns text) (λ k hk.
    given_bind (TopText text) _ _ (number_found columns k.1) (λ c hc.
    given_bind (TopText text) _ _ (number_found columns c.1) (λ u hu.
    given_bind (TopText text) _ _ (line_feed_text u.1) (λ more e.
    (hk.fits, hc.fits, hu.fits, three_found (field_of columns k.0) (field_of columns c.0) (field_of columns u.0) hk.same hc.same hu.same e)))))

pub top_text : (text : List ℕ) {k capacity used : ℕ} {more : List ℕ} → take_top text ≡ some (k, capacity, used, more) →
    FieldFits k × FieldFits capacity × FieldFits used × (text ≡ fields_of (k ∷ capacity ∷ used ∷ []) ++ 10 ∷ more)
top_text text = given_some (TopText text) (top_given text)

-- ---- the line of a table

zeros_are : (xs : List ℕ) → AllZero xs → xs ≡ replicate (length xs) 0
zeros_are [] h = refl
zeros_are (x ∷ xs) h = ap₂ ◌∷◌ (every_head h) (zeros_are xs (every_tail h))

-- the count of inputs, for a record that a line can say
says_count : (r : Table) → LineSays r → length (reads r) ≡ r.count
says_count r h = length-take-le r.count r.inputs (omega (arith, h.count.1, h.shaped))

-- whatever its level
pub says_level : (l : ℕ) (r : Table) → LineSays r → LineSays (at_level l r)
says_level l r h = record { count = h.count; shaped = h.shaped; padded = h.padded; numbers = h.numbers; truth = h.truth }

-- a record that a line can say is, but for its level, the record of its table
says_record : (l : ℕ) (r : Table) → LineSays r → record_of l (table_of r) ≡ at_level l r
says_record l r h =
    let u = says_count r h in
    let z : length (drop r.count r.inputs) ≡ input_room - length (reads r) = simp length-drop (omega (arith, u, h.shaped)) in
    let i : reads r ++ replicate (input_room - length (reads r)) 0 ≡ r.inputs =
    ap (λ n. reads r ++ replicate n 0) (sym z) ∙ ap (λ l. reads r ++ l) (sym (zeros_are (drop r.count r.inputs) h.padded)) ∙ take-append-drop r.count r.inputs in
    ap₂ (λ n xs. record { net = r.net; count = n; inputs = xs; truth = r.truth; level = l }) u i

-- the record of numbers that a line can say
record_says : (l : LookupTable) → 2 ≤ length l.inputs → length l.inputs ≤ input_room → Every FieldFits (l.drives ∷ l.inputs) → l.truth < 2 ^ 64 →
    LineSays (record_of 0 l)
record_says l low high fits word =
    let zeros : List ℕ = replicate (input_room - length l.inputs) 0 in
    record {
      count = (low, high);
      shaped = rw (length-append, length-replicate) (omega (arith, high));
      padded = rw (drop-append_seam l.inputs zeros) (every_replicate (λ x. x ≡ 0) (input_room - length l.inputs) 0 refl);
      numbers = rw (take-append_seam l.inputs zeros) fits;
      truth = word;
    }

module _ (a b c d e : List ℕ) where
  six : (x : List ℕ) → ((a ++ (b ++ (c ++ d))) ++ (e ++ 10 ∷ [])) ++ x ≡ a ++ (b ++ (c ++ (d ++ (e ++ 10 ∷ x))))
  six x = simp append_assoc

  six_found : {text v w x y z rest : List ℕ} → text ≡ a ++ v → v ≡ b ++ w → w ≡ c ++ x → x ≡ d ++ y → y ≡ e ++ z → z ≡ 10 ∷ rest →
      text ≡ ((a ++ (b ++ (c ++ d))) ++ (e ++ 10 ∷ [])) ++ rest
  six_found {rest = rest} p q r s t u =
      p ∙ ap (λ l. a ++ l) (q ∙ ap (λ l. b ++ l) (r ∙ ap (λ l. c ++ l) (s ∙ ap (λ l. d ++ l) (t ∙ ap (λ l. e ++ l) u)))) ∙ sym (six rest)

inputs_taken : (t : ℕ) (r : Table) (w : List ℕ) → LineSays r →
    cond (eqb t t) (cond (within 2 input_room r.count) (take_numbers r.count (fields_of (reads r) ++ w)) none) none ≡ some (reads r, w)
inputs_taken t r w h =
    rw (eq-eqb t t refl, reflects_true (reflects_within 2 input_room r.count) h.count)
    (ap (λ n. take_numbers n (fields_of (reads r) ++ w)) (sym (says_count r h)) ∙ numbers_taken (reads r) w (every_tail h.numbers))

module _ (t : ℕ) where
  pub table_taken : (r : Table) (rest : List ℕ) → FieldFits t → LineSays r → take_table t (table_line t r ++ rest) ≡ some (at_level 0 r, rest)
  table_taken r rest ht h =
      let f = field_of columns in
      let w = field_of 21 r.truth ++ 10 ∷ rest in
      ap (take_table t) (six (f t) (f r.net) (f r.count) (fields_of (reads r)) (field_of 21 r.truth) rest)
      ∙ bind_some _ _ (field_taken t (f r.net ++ (f r.count ++ (fields_of (reads r) ++ w))) ht)
      ∙ bind_some _ _ (field_taken r.net (f r.count ++ (fields_of (reads r) ++ w)) (every_head h.numbers))
      ∙ bind_some _ _ (field_taken r.count (fields_of (reads r) ++ w) (omega (arith, h.count.1)))
      ∙ bind_some _ _ (inputs_taken t r w h)
      ∙ bind_some _ _ (number_taken 21 r.truth (10 ∷ rest) (omega arith) (omega (arith, h.truth)) h.truth)
      ∙ bind_some _ _ refl
      ∙ ap (λ q. some (q, rest)) (says_record 0 r h)

  abbrev TableText : List ℕ → Table × List ℕ → Type 0
  TableText text (r, rest) = FieldFits t × LineSays r × (text ≡ table_line t r ++ rest)

  -- the line by its numbers, and by the record of them
  same_line : (n net u : ℕ) (inputs : List ℕ) (truth : ℕ) (rest : List ℕ) → n ≡ t → length inputs ≡ u →
      (fields_of (n ∷ net ∷ u ∷ inputs) ++ (field_of 21 truth ++ 10 ∷ [])) ++ rest ≡ table_line t (record_of 0 (record { drives = net; inputs = inputs; truth = truth })) ++ rest
  same_line n net u inputs truth rest e f =
      let end = field_of 21 truth ++ 10 ∷ [] in
      ap₂ (λ m v. (fields_of (m ∷ net ∷ v ∷ inputs) ++ end) ++ rest) e (sym f)
      ∙ ap (λ l. (fields_of (t ∷ net ∷ length inputs ∷ l) ++ end) ++ rest) (sym (take-append_seam inputs (replicate (input_room - length inputs) 0)))

  table_given : (text : List ℕ) → Given (TableText text) (take_table t text)
  table_given text =
      given_bind (TableText text) _ _ (number_found columns text) (λ n hn.
      given_bind (TableText text) _ _ (number_found columns n.1) (λ o ho.
      given_bind (TableText text) _ _ (number_found columns o.1) (λ u hu.
      given_bind (TableText text) _ _ (given_cond (λ q. (n.0 ≡ t) × (2 ≤ u.0) × (u.0 ≤ input_room) × NumbersText u.0 u.1 q) (eqb n.0 t) _ (λ en.
      given_cond (λ q. (n.0 ≡ t) × (2 ≤ u.0) × (u.0 ≤ input_room) × NumbersText u.0 u.1 q) (within 2 input_room u.0) _ (λ w.
      given_map (λ q h. let l = says_true (reflects_within 2 input_room u.0) w in (says_true (reflects_eq n.0 t) en, l.0, l.1, h)) (take_numbers u.0 u.1) (numbers_text u.0 u.1)))) (λ i hi.
      given_bind (TableText text) _ _ (number_found 21 i.1) (λ b hb.
      given_bind (TableText text) _ _ (line_feed_text b.1) (λ rest e. (
        subst FieldFits hi.0 hn.fits,
        record_says (record { drives = o.0; inputs = i.0; truth = b.0 }) (rw hi.3.count hi.1) (rw hi.3.count hi.2) (every_cons ho.fits hi.3.fits) hb.word,
        six_found (field_of columns n.0) (field_of columns o.0) (field_of columns u.0) (fields_of i.0) (field_of 21 b.0) hn.same ho.same hu.same hi.3.same hb.same e
            ∙ same_line n.0 o.0 u.0 i.0 b.0 rest hi.0 hi.3.count,
      )))))))

  pub table_text : (text : List ℕ) {r : Table} {rest : List ℕ} → take_table t text ≡ some (r, rest) → FieldFits t × LineSays r × (text ≡ table_line t r ++ rest)
  table_text text = given_some (TableText text) (table_given text)
