-- The cut loses nothing, it goes on, and to read what it cuts off is to read the next sheet.
use Rattle.std.specs.Prelude.{ℕ, zero, suc, ◌+◌, ◌-◌, ◌<◌, ◌≡◌, refl, ◌≢◌, true, false, List, [], ◌∷◌, ◌++◌, T, length}
use Rattle.std.proofs.Common.{arith, sym, ap, ◌∙◌, subst, append_assoc, append-nil, length-append}
use Rattle.std.proofs.Math.Option.{Option, none, some}
use Rattle.lists.specs.Trusted.Lists.{from}
use Rattle.lists.specs.Cases.{by_eqb}
use Rattle.sheet.specs.Trusted.Line.{after, line, fields}
use Rattle.sheet.specs.Trusted.Sheet.{DrawnGate, DrawnSheet}
use Rattle.sheet.specs.Trusted.Read.{is_empty, Head, Seen, nothing, read_gate, read_left, read_unread, read_sheet, head_of}
use Rattle.lists.specs.Trusted.Checked.{Checked, passed, refused, ◌>>=◌, require, given}
use Rattle.lists.specs.CheckedLaws.{Meets, on, off, meets_any, meets_self, meets_of, meets_bind, meets_require, meets_given}
use Rattle.sheet.specs.Trusted.Cut.{lines, gates_of, sheet_text, next_read}

-- ---- a line

pub line_step : (P : Option (List ℕ × List ℕ) → Type 0) (b : ℕ) (bs : List ℕ) → (b ≡ 10 → P (some ([], bs))) → (b ≢ 10 → P (after b (line bs))) → P (line (b ∷ bs))
line_step P b bs = by_eqb (λ c. P (elim c [ true ↦ some ([], bs) | false ↦ after b (line bs) ])) b 10

-- what is cut off is the bytes and the line feed, whatever follows
pub record Cut (text : List ℕ) (p : List ℕ × List ℕ) : Type 0 where
  pub whole : text ≡ p.0 ++ (10 ∷ p.1)
  pub again : (rest : List ℕ) → line (p.0 ++ (10 ∷ rest)) ≡ some (p.0, rest)

pub line_cut : (text : List ℕ) (p : List ℕ × List ℕ) → line text ≡ some p → Cut text p
line_cut [] p e = let z : ◌≡◌ {A = ℕ} 0 1 = cc in absurd (omega arith)
line_cut (b ∷ bs) p e =
    line_step (λ o. o ≡ some p → Cut (b ∷ bs) p) b bs
    (λ f q.
    let r : ([], bs) ≡ p = cc in
    subst (Cut (b ∷ bs)) r (record { whole = ap (λ c. c ∷ bs) f; again = λ rest. refl }))
    (λ d q. more d (line bs) (λ r h. line_cut bs r h) q) e
  where
    more : b ≢ 10 → (o : Option (List ℕ × List ℕ)) → ((r : List ℕ × List ℕ) → o ≡ some r → Cut bs r) → after b o ≡ some p → Cut (b ∷ bs) p
    more d none f q = let z : ◌≡◌ {A = ℕ} 0 1 = cc in absurd (omega arith)
    more d (some r) f q =
        let c = f r refl in
        let h : (b ∷ r.0, r.1) ≡ p = cc in
        subst (Cut (b ∷ bs)) h (record {
          whole = ap (λ l. b ∷ l) c.whole;
          again = λ rest. line_step (λ o. o ≡ some (b ∷ r.0, rest)) b (r.0 ++ (10 ∷ rest)) (λ t. absurd (d t)) (λ t. ap (after b) (c.again rest));
        })

-- ---- lines

lines_none : (n : ℕ) (text : List ℕ) → line text ≡ none → lines (suc n) text ≡ (text, [])
lines_none n text e = rw (e, lines)

lines_some : (n : ℕ) (text : List ℕ) (p : List ℕ × List ℕ) → line text ≡ some p →
    lines (suc n) text ≡ (p.0 ++ (10 ∷ (lines n p.1).0), (lines n p.1).1)
lines_some n text p e = rw (e, lines)

pub left_none : (out n g : ℕ) (seen : Seen) (text : List ℕ) → line text ≡ none → read_left out (suc n) g seen text ≡ refused 1 (suc g)
unfolding ◌>>=◌ given
left_none out n g seen text e = rw (e, read_left)

pub left_some : (out n g : ℕ) (seen : Seen) (text : List ℕ) (p : List ℕ × List ℕ) → line text ≡ some p →
    read_left out (suc n) g seen text
    ≡ (read_gate out g seen p.0 >>= λ q. read_left out n (suc g) q.1 p.1 >>= λ r. passed (q.0 ∷ r.0, r.1, r.2))
unfolding ◌>>=◌ given
left_some out n g seen text p e = rw (e, read_left)

-- the first lines and the rest are the text
lines_whole : (n : ℕ) (text : List ℕ) → (lines n text).0 ++ (lines n text).1 ≡ text
lines_whole zero text = refl
lines_whole (suc n) text = of (line text) refl (λ rest. lines_whole n rest)
  where
    of : (o : Option (List ℕ × List ℕ)) → line text ≡ o → ((rest : List ℕ) → (lines n rest).0 ++ (lines n rest).1 ≡ rest) →
        (lines (suc n) text).0 ++ (lines (suc n) text).1 ≡ text
    of none e h = ap (λ r. r.0 ++ r.1) (lines_none n text e) ∙ append-nil text
    of (some p) e h =
        ap (λ r. r.0 ++ r.1) (lines_some n text p e)
        ∙ (append_assoc p.0 (10 ∷ (lines n p.1).0) (lines n p.1).1 ∙ (ap (λ l. p.0 ++ (10 ∷ l)) (h p.1) ∙ sym (line_cut text p e).whole))

-- ---- gates read off the front of a text, and off their lines alone

abbrev pub Gates : Type 0
Gates = List DrawnGate × Seen × List ℕ

-- the one reading is the other with a rest, where that has none
abbrev Fronted : List ℕ → Checked Gates → Checked Gates → Type 0
Fronted rest f k = (f ≡ (k >>= λ r. passed (r.0, r.1, rest))) × Meets (λ r. r.2 ≡ []) k

abbrev pub added : DrawnGate → Checked Gates → Checked Gates
added x f = f >>= λ r. passed (x ∷ r.0, r.1, r.2)

fronted_more : (rest : List ℕ) (x : DrawnGate) (f k : Checked Gates) → Fronted rest f k → Fronted rest (added x f) (added x k)
unfolding ◌>>=◌
fronted_more rest x f k (e, on {a = a} q) = (ap (added x) e, on q)
fronted_more rest x f k (e, off) = (ap (added x) e, off)

fronted_step : (rest : List ℕ) (m : Checked (DrawnGate × Seen)) (f k : DrawnGate × Seen → Checked Gates) → ((q : DrawnGate × Seen) → Fronted rest (f q) (k q)) →
    Fronted rest (m >>= λ q. added q.0 (f q)) (m >>= λ q. added q.0 (k q))
unfolding ◌>>=◌
fronted_step rest (passed q) f k h = fronted_more rest q.0 (f q) (k q) (h q)
fronted_step rest (refused number place) f k h = (refl, off)

left_lines : (out n g : ℕ) (seen : Seen) (text : List ℕ) → Fronted (lines n text).1 (read_left out n g seen text) (read_left out n g seen (lines n text).0)
unfolding ◌>>=◌
left_lines out zero g seen text = (refl, on refl)
left_lines out (suc n) g seen text = of (line text) refl (λ q rest. left_lines out n (suc g) q.1 rest)
  where
    of : (o : Option (List ℕ × List ℕ)) → line text ≡ o →
        ((q : DrawnGate × Seen) (rest : List ℕ) → Fronted (lines n rest).1 (read_left out n (suc g) q.1 rest) (read_left out n (suc g) q.1 (lines n rest).0)) →
        Fronted (lines (suc n) text).1 (read_left out (suc n) g seen text) (read_left out (suc n) g seen (lines (suc n) text).0)
    of none e h =
        let l = left_none out n g seen text e in
        subst (λ r. Fronted r.1 (read_left out (suc n) g seen text) (read_left out (suc n) g seen r.0)) (sym (lines_none n text e))
        (subst (λ k. Fronted [] k k) (sym l) (refl, off))
    of (some p) e h =
        let rest = lines n p.1 in
        let l = left_some out n g seen text p e in
        let k = left_some out n g seen (p.0 ++ (10 ∷ rest.0)) (p.0, rest.0) ((line_cut text p e).again rest.0) in
        subst (λ r. Fronted r.1 (read_left out (suc n) g seen text) (read_left out (suc n) g seen r.0)) (sym (lines_some n text p e))
        (subst (λ f. Fronted rest.1 f (read_left out (suc n) g seen (p.0 ++ (10 ∷ rest.0)))) (sym l)
        (subst (λ f. Fronted rest.1 (read_gate out g seen p.0 >>= λ q. added q.0 (read_left out n (suc g) q.1 p.1)) f) (sym k)
        (fronted_step rest.1 (read_gate out g seen p.0) (λ q. read_left out n (suc g) q.1 p.1) (λ q. read_left out n (suc g) q.1 rest.0) (λ q. h q p.1))))

-- ---- a sheet

text_none : (text : List ℕ) → line text ≡ none → sheet_text text ≡ (text, [])
text_none text e = rw (e, sheet_text)

-- what is cut off, by what line 1 says
abbrev cut_by : List ℕ → Checked Head → List ℕ × List ℕ
cut_by text m = elim (gates_of m) [ none ↦ (text, []) | some n ↦ lines (suc n) text ]

text_refused : (text : List ℕ) (p : List ℕ × List ℕ) (number place : ℕ) → line text ≡ some p → head_of (fields p.0) ≡ refused number place →
    sheet_text text ≡ (text, [])
text_refused text p number place e h = rw (e, sheet_text) (ap (cut_by text) h)

text_passed : (text : List ℕ) (p : List ℕ × List ℕ) (h : Head) → line text ≡ some p → head_of (fields p.0) ≡ passed h →
    sheet_text text ≡ lines (suc h.count) text
text_passed text p h e g = rw (e, sheet_text) (ap (cut_by text) g)

abbrev pub sheet_of : Head → List DrawnGate → DrawnSheet
sheet_of h gs = record { out = h.out; inverted = h.inverted; gates = gs }

-- what comes after the gates, with a rest and without
abbrev pub with_the_rest : Head → Checked Gates → Checked (DrawnSheet × List ℕ)
with_the_rest h f = f >>= λ r. read_unread (from 1 (h.count - 1)) r.1.gates >>= λ _. passed (sheet_of h r.0, r.2)

abbrev with_nothing : Head → Checked Gates → Checked DrawnSheet
with_nothing h k = k >>= λ r. require (is_empty r.2) 1 (h.count + 2) >>= λ _. read_unread (from 1 (h.count - 1)) r.1.gates >>= λ _. passed (sheet_of h r.0)

pub next_none : (text : List ℕ) → line text ≡ none → (next_read text ≡ refused 1 1) × (read_sheet text ≡ refused 1 1)
unfolding ◌>>=◌ given
next_none text e = (rw e, rw e)

pub next_some : (text : List ℕ) (p : List ℕ × List ℕ) → line text ≡ some p →
    (next_read text ≡ (head_of (fields p.0) >>= λ h. with_the_rest h (read_left h.out h.count 1 nothing p.1)))
    × (read_sheet text ≡ (head_of (fields p.0) >>= λ h. with_nothing h (read_left h.out h.count 1 nothing p.1)))
unfolding ◌>>=◌ given
next_some text p e = (rw e, rw e)

-- the result, with a rest
abbrev pub leaving : {A : Type 0} → List ℕ → Checked A → Checked (A × List ℕ)
leaving rest m = m >>= λ a. passed (a, rest)

then_rest : {A : Type 0} (m : Checked (Unit {0})) (a : A) (rest : List ℕ) → ◌>>=◌ {B = A × List ℕ} m (λ _. passed (a, rest)) ≡ leaving rest (m >>= λ _. passed a)
unfolding ◌>>=◌
then_rest (passed u) a rest = refl
then_rest (refused number place) a rest = refl

with_rest : (h : Head) (rest : List ℕ) (f k : Checked Gates) → Fronted rest f k → with_the_rest h f ≡ leaving rest (with_nothing h k)
unfolding ◌>>=◌ require
with_rest h rest f k (e, off) = ap (with_the_rest h) e
with_rest h rest f k (e, on {a = a} q) =
    ap (with_the_rest h) e
    ∙ (then_rest (read_unread (from 1 (h.count - 1)) a.1.gates) (sheet_of h a.0) rest
    ∙ ap (λ l. leaving rest (with_nothing h (passed (a.0, a.1, l)))) (sym q))

-- TO READ WHAT IS CUT OFF IS TO READ THE NEXT SHEET, and what follows it is the rest
pub next_is : (text : List ℕ) → next_read text ≡ leaving (sheet_text text).1 (read_sheet (sheet_text text).0)
unfolding ◌>>=◌
next_is text = of (line text) refl
  where
    bads : (number place : ℕ) → sheet_text text ≡ (text, []) → next_read text ≡ refused number place → read_sheet text ≡ refused number place →
        next_read text ≡ leaving (sheet_text text).1 (read_sheet (sheet_text text).0)
    bads number place c n a = n ∙ (ap (leaving []) (sym a) ∙ ap (λ (r : List ℕ × List ℕ). leaving r.1 (read_sheet r.0)) (sym c))

    heads : (p : List ℕ × List ℕ) → line text ≡ some p → (m : Checked Head) → head_of (fields p.0) ≡ m →
        next_read text ≡ leaving (sheet_text text).1 (read_sheet (sheet_text text).0)
    heads p e (refused number place) h =
        let n = next_some text p e in
        bads number place (text_refused text p number place e h)
        (n.0 ∙ ap (λ (m : Checked Head). m >>= λ h. with_the_rest h (read_left h.out h.count 1 nothing p.1)) h)
        (n.1 ∙ ap (λ (m : Checked Head). m >>= λ h. with_nothing h (read_left h.out h.count 1 nothing p.1)) h)
    heads p e (passed h) g =
        let n = next_some text p e in
        let rest = lines h.count p.1 in
        let a = next_some (p.0 ++ (10 ∷ rest.0)) (p.0, rest.0) ((line_cut text p e).again rest.0) in
        n.0
        ∙ (ap (λ (m : Checked Head). m >>= λ h. with_the_rest h (read_left h.out h.count 1 nothing p.1)) g
        ∙ (with_rest h rest.1 (read_left h.out h.count 1 nothing p.1) (read_left h.out h.count 1 nothing rest.0) (left_lines h.out h.count 1 nothing p.1)
        ∙ (ap (λ (m : Checked Head). leaving rest.1 (m >>= λ h. with_nothing h (read_left h.out h.count 1 nothing rest.0))) (sym g)
        ∙ (ap (leaving rest.1) (sym a.1)
        ∙ ap (λ (r : List ℕ × List ℕ). leaving r.1 (read_sheet r.0)) (sym (text_passed text p h e g ∙ lines_some h.count text p e))))))

    of : (o : Option (List ℕ × List ℕ)) → line text ≡ o → next_read text ≡ leaving (sheet_text text).1 (read_sheet (sheet_text text).0)
    of none e = let n = next_none text e in bads 1 1 (text_none text e) n.0 n.1
    of (some p) e = heads p e (head_of (fields p.0)) refl

-- ---- the cut loses nothing, and it takes something

-- how a text is cut: all of it, or its lines
data Way (text : List ℕ) : Type 0 where
  all : sheet_text text ≡ (text, []) → Way text
  some_lines : (p : List ℕ × List ℕ) (n : ℕ) → line text ≡ some p → sheet_text text ≡ lines (suc n) text → Way text

way : (text : List ℕ) → Way text
way text = of (line text) refl
  where
    heads : (p : List ℕ × List ℕ) → line text ≡ some p → (m : Checked Head) → head_of (fields p.0) ≡ m → Way text
    heads p e (refused number place) h = all (text_refused text p number place e h)
    heads p e (passed h) g = some_lines p h.count e (text_passed text p h e g)

    of : (o : Option (List ℕ × List ℕ)) → line text ≡ o → Way text
    of none e = all (text_none text e)
    of (some p) e = heads p e (head_of (fields p.0)) refl

pub text_whole : (text : List ℕ) → (sheet_text text).0 ++ (sheet_text text).1 ≡ text
text_whole text = of (way text)
  where
    of : Way text → (sheet_text text).0 ++ (sheet_text text).1 ≡ text
    of (all c) = ap (λ (r : List ℕ × List ℕ). r.0 ++ r.1) c ∙ append-nil text
    of (some_lines p n e c) = ap (λ (r : List ℕ × List ℕ). r.0 ++ r.1) c ∙ lines_whole (suc n) text

-- so the sheets of a program come to an end
pub text_less : (text : List ℕ) → 0 < length text → length (sheet_text text).1 < length text
text_less text l = of (way text)
  where
    of : Way text → length (sheet_text text).1 < length text
    of (all c) = subst (λ (r : List ℕ × List ℕ). length r.1 < length text) (sym c) l
    of (some_lines p n e c) =
        let r = lines n p.1 in
        subst (λ (r : List ℕ × List ℕ). length r.1 < length text) (sym (c ∙ lines_some n text p e))
        (let h : length r.1 < length text = omega (arith, simp length-append at (ap length (lines_whole n p.1)), simp length-append at (ap length (line_cut text p e).whole)) in h)

-- ---- a text that was read is cut off whole, whatever follows

pub line_on : (text : List ℕ) (p : List ℕ × List ℕ) (rest : List ℕ) → line text ≡ some p → line (text ++ rest) ≡ some (p.0, p.1 ++ rest)
line_on text p rest e =
    let c = line_cut text p e in
    ap (λ l. line (l ++ rest)) c.whole ∙ (ap line (append_assoc p.0 (10 ∷ p.1) rest) ∙ c.again (p.1 ++ rest))

left_on : (out n g : ℕ) (seen : Seen) (text : List ℕ) → Meets (λ r. r.2 ≡ [] → (rest : List ℕ) → lines n (text ++ rest) ≡ (text, rest)) (read_left out n g seen text)
left_on out zero g seen text = on (λ z rest. subst (λ l. lines zero (l ++ rest) ≡ (l, rest)) (sym z) refl)
left_on out (suc n) g seen text =
    meets_given _ _ _ _ (λ p e.
    meets_bind _ _ (meets_any (read_gate out g seen p.0)) (λ q u.
    meets_bind _ _ (left_on out n (suc g) q.1 p.1) (λ r f.
    on (λ z rest.
    lines_some n (text ++ rest) (p.0, p.1 ++ rest) (line_on text p rest e)
    ∙ (ap (λ (x : List ℕ × List ℕ). (p.0 ++ (10 ∷ x.0), x.1)) (f z rest) ∙ ap (λ l. (l, rest)) (sym (line_cut text p e).whole))))))

pub empty_is : {A : Type 0} (xs : List A) → T (is_empty xs) → xs ≡ []
empty_is [] t = refl
empty_is (x ∷ xs) t = absurd t

all_on : (text : List ℕ) → Meets (λ s. (rest : List ℕ) → sheet_text (text ++ rest) ≡ (text, rest)) (read_sheet text)
all_on text =
    meets_given _ _ _ _ (λ p e.
    meets_bind _ _ (meets_self (head_of (fields p.0))) (λ h g.
    meets_bind _ _ (left_on h.out h.count 1 nothing p.1) (λ r f.
    meets_require _ _ _ _ (λ t.
    meets_bind _ _ (meets_any (read_unread (from 1 (h.count - 1)) r.1.gates)) (λ u v.
    on (λ rest.
    let l = line_on text p rest e in
    text_passed (text ++ rest) (p.0, p.1 ++ rest) h l g
    ∙ (lines_some h.count (text ++ rest) (p.0, p.1 ++ rest) l
    ∙ (ap (λ (x : List ℕ × List ℕ). (p.0 ++ (10 ∷ x.0), x.1)) (f (empty_is r.2 t) rest) ∙ ap (λ l. (l, rest)) (sym (line_cut text p e).whole)))))))))

pub text_of : (text : List ℕ) (s : DrawnSheet) (rest : List ℕ) → read_sheet text ≡ passed s → sheet_text (text ++ rest) ≡ (text, rest)
text_of text s rest e = meets_of (all_on text) e rest
