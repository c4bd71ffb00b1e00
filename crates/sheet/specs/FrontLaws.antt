-- What comes of a text's next sheet is decided by the text's first bytes, as many as 256 lines may have: a longer line is badly laid out
-- whatever follows.
use Rattle.std.specs.Prelude.{ℕ, zero, suc, ◌+◌, ◌-◌, ◌*◌, ◌≤◌, ◌≡◌, refl, List, [], ◌∷◌, ◌++◌, length}
use Rattle.std.proofs.Common.{arith, sym, ap, ◌∙◌, subst, append_assoc, length-append}
use Rattle.std.proofs.Math.Option.{Option, none, some}
use Rattle.lists.specs.Trusted.Lists.{from}
use Rattle.lists.specs.Cases.{by_leb}
use Rattle.lists.specs.Trusted.Checked.{Checked, passed, refused, ◌>>=◌, given}
use Rattle.lists.specs.CheckedLaws.{Meets, on, off, meets_map}
use Rattle.decimal.specs.Trusted.Number.{Number, columns}
use Rattle.sheet.specs.Trusted.Limits.{most_fields, most_gates}
use Rattle.sheet.specs.Trusted.Line.{after, line, fields}
use Rattle.sheet.specs.Trusted.Sheet.{DrawnGate, DrawnSheet}
use Rattle.sheet.specs.Trusted.Read.{Head, Seen, nothing, head_of, read_gate, read_left, read_unread, read_sheet}
use Rattle.sheet.specs.ReadLaws.{head_meets}
use Rattle.sheet.specs.Trusted.Cut.{sheet_text, next_read}
use Rattle.sheet.specs.CutLaws.{Gates, added, sheet_of, with_the_rest, leaving, line_step, line_cut, line_on, left_none, left_some, next_none, next_some, next_is, text_whole, text_of}
use Rattle.sheet.specs.SizeLaws.{fields_filled}

-- the most bytes of a line that is laid out, with its line feed
abbrev pub line_room : ℕ
line_room = columns * most_fields + 1

-- and of a sheet's lines
abbrev pub sheet_room : ℕ
sheet_room = line_room * (most_gates + 1)

-- ---- the first line

-- it is missing, or it is not made of fields
abbrev Unlaid : List ℕ → Type 0
Unlaid text = (p : List ℕ × List ℕ) → line text ≡ some p → fields p.0 ≡ none

long_unlaid : (bytes : List ℕ) → line_room ≤ length bytes → fields bytes ≡ none
long_unlaid bytes l = of (fields bytes) refl
  where
    of : (o : Option (List Number)) → fields bytes ≡ o → fields bytes ≡ none
    of none e = e
    of (some xs) e = absurd (omega (arith, fields_filled bytes xs e))

-- where a text has no line feed, its first line with more after it has all of the text
line_past : (text more : List ℕ) (p : List ℕ × List ℕ) → line text ≡ none → line (text ++ more) ≡ some p → length text ≤ length p.0
line_past [] more p = λ e f. omega arith
line_past (b ∷ bs) more p =
    line_step (λ o. o ≡ none → line (b ∷ bs ++ more) ≡ some p → length (b ∷ bs) ≤ length p.0) b bs
    (λ t e. let z : ◌≡◌ {A = ℕ} 0 1 = cc in absurd (omega arith))
    (λ d e. line_step (λ o. o ≡ some p → length (b ∷ bs) ≤ length p.0) b (bs ++ more)
    (λ t. absurd (d t))
    (λ t. of (line bs) (line (bs ++ more)) e (λ q g h. line_past bs more q g h)))
  where
    of : (o r : Option (List ℕ × List ℕ)) → after b o ≡ none → ((q : List ℕ × List ℕ) → o ≡ none → r ≡ some q → length bs ≤ length q.0) →
        after b r ≡ some p → length (b ∷ bs) ≤ length p.0
    of (some q) r e h f = let z : ◌≡◌ {A = ℕ} 0 1 = cc in absurd (omega arith)
    of none none e h f = let z : ◌≡◌ {A = ℕ} 0 1 = cc in absurd (omega arith)
    of none (some q) e h f =
        let i : (b ∷ q.0, q.1) ≡ p = cc in
        omega (arith, h q refl refl, ap (λ (r : List ℕ × List ℕ). length r.0) i)

-- the first line of a text that is long enough: whole, and no longer than a line, or not laid out, with more after it and without
data First (text more : List ℕ) : Type 0 where
  whole : (p : List ℕ × List ℕ) → line text ≡ some p → length text ≤ line_room + length p.1 → First text more
  unlaid : Unlaid text → Unlaid (text ++ more) → First text more

first : (text more : List ℕ) → line_room ≤ length text → First text more
first text more l = of (line text) refl
  where
    of : (o : Option (List ℕ × List ℕ)) → line text ≡ o → First text more
    of none e = unlaid (λ p f. let z : ◌≡◌ {A = ℕ} 0 1 = cc in absurd (omega arith)) (λ p f. long_unlaid p.0 (omega (arith, line_past text more p e f)))
    of (some p) e =
        by_leb (λ b. First text more) (length p.0 + 1) line_room
        (λ h. whole p e (omega (arith, simp length-append at (ap length (line_cut text p e).whole))))
        (λ h. let long = long_unlaid p.0 (omega arith) in unlaid
        (λ q f. let i : p ≡ q = cc in subst (λ (r : List ℕ × List ℕ). fields r.0 ≡ none) i long)
        (λ q f. let g = line_on text p more e in let i : (p.0, p.1 ++ more) ≡ q = cc in subst (λ (r : List ℕ × List ℕ). fields r.0 ≡ none) i long))

-- ---- gates

gate_unlaid : (out g : ℕ) (seen : Seen) (bytes : List ℕ) → fields bytes ≡ none → read_gate out g seen bytes ≡ refused 1 (suc g)
unfolding ◌>>=◌ given
gate_unlaid out g seen bytes e = rw e

left_unlaid : (out n g : ℕ) (seen : Seen) (text : List ℕ) → Unlaid text → read_left out (suc n) g seen text ≡ refused 1 (suc g)
unfolding ◌>>=◌
left_unlaid out n g seen text h = of (line text) refl
  where
    of : (o : Option (List ℕ × List ℕ)) → line text ≡ o → read_left out (suc n) g seen text ≡ refused 1 (suc g)
    of none e = left_none out n g seen text e
    of (some p) e = left_some out n g seen text p e ∙ rw (gate_unlaid out g seen p.0 (h p e))

-- the same reading, with more after the rest
abbrev trailing : List ℕ → Checked Gates → Checked Gates
trailing more f = f >>= λ r. passed (r.0, r.1, r.2 ++ more)

trailing_step : (more : List ℕ) (m : Checked (DrawnGate × Seen)) (f k : DrawnGate × Seen → Checked Gates) → ((q : DrawnGate × Seen) → f q ≡ trailing more (k q)) →
    (m >>= λ q. added q.0 (f q)) ≡ trailing more (m >>= λ q. added q.0 (k q))
unfolding ◌>>=◌
trailing_step more (refused number place) f k h = refl
trailing_step more (passed q) f k h = ap (added q.0) (h q) ∙ of (k q)
  where
    of : (s : Checked Gates) → added q.0 (trailing more s) ≡ trailing more (added q.0 s)
    of (passed r) = refl
    of (refused number place) = refl

left_front : (out n g : ℕ) (seen : Seen) (text more : List ℕ) → line_room * n ≤ length text →
    read_left out n g seen (text ++ more) ≡ trailing more (read_left out n g seen text)
unfolding ◌>>=◌
left_front out zero g seen text more l = refl
left_front out (suc n) g seen text more l = of (first text more (omega arith)) (λ q rest h. left_front out n (suc g) q.1 rest more h)
  where
    of : First text more →
        ((q : DrawnGate × Seen) (rest : List ℕ) → line_room * n ≤ length rest → read_left out n (suc g) q.1 (rest ++ more) ≡ trailing more (read_left out n (suc g) q.1 rest)) →
        read_left out (suc n) g seen (text ++ more) ≡ trailing more (read_left out (suc n) g seen text)
    of (unlaid h k) f = left_unlaid out n g seen (text ++ more) k ∙ ap (trailing more) (sym (left_unlaid out n g seen text h))
    of (whole p e h) f =
        left_some out n g seen (text ++ more) (p.0, p.1 ++ more) (line_on text p more e)
        ∙ (trailing_step more (read_gate out g seen p.0) (λ q. read_left out n (suc g) q.1 (p.1 ++ more)) (λ q. read_left out n (suc g) q.1 p.1) (λ q. f q p.1 (omega arith))
        ∙ ap (trailing more) (sym (left_some out n g seen text p e)))

-- ---- a sheet

head_unlaid : (bytes : List ℕ) → fields bytes ≡ none → head_of (fields bytes) ≡ refused 1 1
unfolding ◌>>=◌ given
head_unlaid bytes e = rw e

next_unlaid : (text : List ℕ) → Unlaid text → next_read text ≡ refused 1 1
unfolding ◌>>=◌
next_unlaid text h = of (line text) refl
  where
    of : (o : Option (List ℕ × List ℕ)) → line text ≡ o → next_read text ≡ refused 1 1
    of none e = (next_none text e).0
    of (some p) e = (next_some text p e).0 ∙ rw (head_unlaid p.0 (h p e))

abbrev followed : List ℕ → Checked (DrawnSheet × List ℕ) → Checked (DrawnSheet × List ℕ)
followed more m = m >>= λ r. passed (r.0, r.1 ++ more)

followed_rest : (more : List ℕ) (h : Head) (f : Checked Gates) → with_the_rest h (trailing more f) ≡ followed more (with_the_rest h f)
unfolding ◌>>=◌
followed_rest more h (refused number place) = refl
followed_rest more h (passed r) = of (read_unread (from 1 (h.count - 1)) r.1.gates) (sheet_of h r.0)
  where
    of : (m : Checked (Unit {0})) (s : DrawnSheet) → (m >>= λ _. passed (s, r.2 ++ more)) ≡ followed more (m >>= λ _. passed (s, r.2))
    of (passed u) s = refl
    of (refused number place) s = refl

next_front : (text more : List ℕ) → sheet_room ≤ length text → next_read (text ++ more) ≡ followed more (next_read text)
unfolding ◌>>=◌
next_front text more l = of (first text more (omega arith))
  where
    heads : (p : List ℕ × List ℕ) → length text ≤ line_room + length p.1 → (m : Checked Head) → Meets (λ h. h.count ≤ most_gates) m →
        (m >>= λ h. with_the_rest h (read_left h.out h.count 1 nothing (p.1 ++ more))) ≡ followed more (m >>= λ h. with_the_rest h (read_left h.out h.count 1 nothing p.1))
    heads p k m off = refl
    heads p k m (on {a = h} c) = ap (with_the_rest h) (left_front h.out h.count 1 nothing p.1 more (omega arith)) ∙ followed_rest more h (read_left h.out h.count 1 nothing p.1)

    of : First text more → next_read (text ++ more) ≡ followed more (next_read text)
    of (unlaid h k) = next_unlaid (text ++ more) k ∙ ap (followed more) (sym (next_unlaid text h))
    of (whole p e k) =
        (next_some (text ++ more) (p.0, p.1 ++ more) (line_on text p more e)).0
        ∙ (heads p k (head_of (fields p.0)) (meets_map (λ h c. c.2) (head_meets p.0))
        ∙ ap (followed more) (sym (next_some text p e).0))

-- ---- what is read of the text that is cut off

same_read : (rest rest₁ more : List ℕ) (m k : Checked DrawnSheet) → leaving rest₁ m ≡ followed more (leaving rest k) → m ≡ k
unfolding ◌>>=◌
same_read rest rest₁ more (passed s) (passed r) e =
    let h : ◌≡◌ {A = DrawnSheet × List ℕ} (s, rest₁) (r, rest ++ more) = cc in
    ap (λ (p : DrawnSheet × List ℕ). passed p.0) h
same_read rest rest₁ more (passed s) (refused number place) e = let z : ◌≡◌ {A = ℕ} 0 1 = cc in absurd (omega arith)
same_read rest rest₁ more (refused number place) (passed r) e = let z : ◌≡◌ {A = ℕ} 0 1 = cc in absurd (omega arith)
same_read rest rest₁ more (refused number place) (refused n l) e = cc

-- A LONG TEXT'S NEXT SHEET IS READ, OR TURNED DOWN, THE SAME WHATEVER FOLLOWS THE TEXT
pub front_read : (text more : List ℕ) → sheet_room ≤ length text → read_sheet (sheet_text (text ++ more)).0 ≡ read_sheet (sheet_text text).0
front_read text more l =
    same_read (sheet_text text).1 (sheet_text (text ++ more)).1 more (read_sheet (sheet_text (text ++ more)).0) (read_sheet (sheet_text text).0)
    (sym (next_is (text ++ more)) ∙ (next_front text more l ∙ ap (followed more) (next_is text)))

-- and where it is read, what follows it is the rest
pub front_rest : (text more : List ℕ) (s : DrawnSheet) → read_sheet (sheet_text text).0 ≡ passed s →
    sheet_text (text ++ more) ≡ ((sheet_text text).0, (sheet_text text).1 ++ more)
front_rest text more s e =
    let r = sheet_text text in
    ap (λ t. sheet_text (t ++ more)) (sym (text_whole text)) ∙ (ap sheet_text (append_assoc r.0 r.1 more) ∙ text_of r.0 s (r.1 ++ more) e)
