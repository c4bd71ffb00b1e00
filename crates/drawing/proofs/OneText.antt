-- A SHEET HAS ONE TEXT: a text that is read as a sheet is that sheet written.
use Rattle.std.specs.Prelude.{ℕ, zero, suc, ◌≡◌, refl, Bool, true, false, not, cond, List, [], ◌∷◌, ◌++◌, map, T, length, take, drop}
use Rattle.std.proofs.Common.{arith, sym, ap, ap₂, ◌∙◌, append_assoc, append-nil, eqb→eq, take-append-drop}
use Rattle.std.proofs.Math.Option.{Option, none, some}
use Rattle.std.proofs.lemmas.List.{length-map}
use Rattle.lists.specs.Trusted.Lists.{gather}
use Rattle.lists.specs.Cases.{by_test, and_split}
use Rattle.lists.specs.Trusted.Tests.{within}
use Rattle.lists.specs.Trusted.Checked.{passed}
use Rattle.lists.specs.CheckedLaws.{Meets, on, meets_any, meets_of, meets_bind, meets_require, meets_given}
use Rattle.tree.specs.declared.Kind.{Kind}
use Rattle.tree.specs.declared.Kind.TheVariants.{And as and, Or as or}
use Rattle.tree.specs.Trusted.Limits.{fewest_fanins, most_fanins}
use Rattle.decimal.specs.Trusted.Number.{Number, columns, field_number}
use Rattle.sheet.specs.Trusted.Limits.{most_gates, most_fields}
use Rattle.sheet.specs.Trusted.Line.{line, with, cells, fields}
use Rattle.sheet.specs.Trusted.Sheet.{DrawnSheet, code_of}
use Rattle.sheet.specs.Trusted.Read.{counts, two, Seen, nothing, head_of, read_fanin, read_fanins, kind_of, gate_head_of, read_gate, read_left, read_sheet}
use Rattle.sheet.specs.Trusted.Formed.{WellFormed}
use Rattle.sheet.specs.NumberLaws.{counts_holds}
use Rattle.sheet.specs.ReadLaws.{source_named, read_formed}
use Rattle.sheet.specs.CutLaws.{line_cut, empty_is}
use Rattle.drawing.specs.Trusted.Written.{signed_number, plain_number, fields_text, line_text, kind_number, fanin_number, gate_numbers, gate_text, written}
use Rattle.decimal.specs.FieldText.{no_some, field_text}
use Rattle.drawing.proofs.RoundTrip.{read_written}

-- ---- a line

cells_text : (n : ℕ) (bytes : List ℕ) (xs : List Number) → cells n bytes ≡ some xs → bytes ≡ fields_text xs
cells_text zero [] xs e = let h : [] ≡ xs = cc in ap fields_text h
cells_text zero (b ∷ bs) xs e = no_some e
cells_text (suc n) [] xs e = let h : [] ≡ xs = cc in ap fields_text h
cells_text (suc n) (b ∷ bs) xs e =
    of (field_number (take columns (b ∷ bs))) (cells n (drop columns (b ∷ bs))) (λ x h. field_text (take columns (b ∷ bs)) h) (λ ys h. cells_text n (drop columns (b ∷ bs)) ys h) e
  where
    of : (o : Option Number) (p : Option (List Number)) → ((x : Number) → o ≡ some x → take columns (b ∷ bs) ≡ fields_text (x ∷ [])) →
        ((ys : List Number) → p ≡ some ys → drop columns (b ∷ bs) ≡ fields_text ys) → with o p ≡ some xs → b ∷ bs ≡ fields_text xs
    of none p f g q = no_some q
    of (some x) none f g q = no_some q
    of (some x) (some ys) f g q =
        let h : x ∷ ys ≡ xs = cc in
        sym (take-append-drop columns (b ∷ bs)) ∙ ap₂ ◌++◌ (f x refl) (g ys refl) ∙ ap fields_text h

pub fields_text_lem : (bytes : List ℕ) (xs : List Number) → fields bytes ≡ some xs → bytes ≡ fields_text xs
fields_text_lem [] xs e = no_some e
fields_text_lem (b ∷ bs) xs e = cells_text most_fields (b ∷ bs) xs e

pub line_text_lem : (text : List ℕ) (p : List ℕ × List ℕ) (xs : List Number) → line text ≡ some p → p.0 ≡ fields_text xs → text ≡ line_text xs ++ p.1
line_text_lem text p xs e h = (line_cut text p e).whole ∙ ap (λ l. l ++ (10 ∷ p.1)) h ∙ sym (append_assoc (fields_text xs) (10 ∷ []) p.1)

two_is : {A : Type 0} (xs : List A) (r : A × A × List A) → two xs ≡ some r → xs ≡ r.0 ∷ r.1 ∷ r.2
two_is [] r e = no_some e
two_is (x ∷ []) r e = no_some e
two_is {A} (x ∷ y ∷ zs) r e = let h : ◌≡◌ {A = A × A × List A} (x, y, zs) r = cc in ap (λ (q : A × A × List A). q.0 ∷ q.1 ∷ q.2) h

-- a count has no sign
counts_plain : (low high : ℕ) (x : Number) → T (counts low high x) → x ≡ plain_number x.magnitude
counts_plain low high x t = of x.negative (and_split (not x.negative) (within low high x.magnitude) t).0
  where
    of : (b : Bool) → T (not b) → signed_number b x.magnitude ≡ plain_number x.magnitude
    of false u = refl
    of true u = absurd u

counts_one : (n : ℕ) (x : Number) → T (counts n n x) → x ≡ plain_number n
counts_one n x t = let h = counts_holds n n x t in let e : x.magnitude ≡ n = omega arith in counts_plain n n x t ∙ ap plain_number e

kind_text : (x : Number) (k : Kind) → kind_of x ≡ some k → x ≡ plain_number (kind_number k)
kind_text x k =
    by_test (λ b. cond b (some and) (cond (counts 2 2 x) (some or) none) ≡ some k → x ≡ plain_number (kind_number k)) (counts 1 1 x)
    (λ t e. let h : and ≡ k = cc in counts_one 1 x t ∙ ap (λ j. plain_number (kind_number j)) h)
    (λ f. by_test (λ b. cond b (some or) none ≡ some k → x ≡ plain_number (kind_number k)) (counts 2 2 x)
    (λ t e. let h : or ≡ k = cc in counts_one 2 x t ∙ ap (λ j. plain_number (kind_number j)) h)
    (λ t e. no_some e))

-- ---- the lines of a sheet

head_text : (bytes : List ℕ) → Meets (λ h. bytes ≡ fields_text (signed_number h.inverted h.out ∷ plain_number h.count ∷ [])) (head_of (fields bytes))
head_text bytes =
    meets_given _ _ _ _ (λ xs d. meets_given _ _ _ _ (λ x e.
    meets_require _ _ _ _ (λ t. meets_require _ _ _ _ (λ u. meets_require _ _ _ _ (λ v.
    on (fields_text_lem bytes xs d ∙ ap fields_text (two_is xs x e ∙ ap₂ (λ y ys. x.0 ∷ y ∷ ys) (counts_plain 1 most_gates x.1 v) (empty_is x.2 t))))))))

fanin_text : (out g : ℕ) (seen : Seen) (n : ℕ) → Meets (λ r. code_of r.0 ≡ n) (read_fanin out g seen n)
fanin_text out g seen n =
    meets_given _ _ _ _ (λ s e. meets_bind _ _ (meets_any _) (λ seen₁ u. on (source_named g n s e).code))

fanins_text : (out g : ℕ) (seen : Seen) (xs : List Number) → Meets (λ r. xs ≡ map fanin_number r.0) (read_fanins out g seen xs)
fanins_text out g seen [] = on refl
fanins_text out g seen (x ∷ xs) =
    meets_bind _ _ (fanin_text out g seen x.magnitude) (λ s c.
    meets_bind _ _ (fanins_text out g s.1 xs) (λ r f.
    on (ap₂ (λ n ys. signed_number x.negative n ∷ ys) (sym c) f)))

gate_head_text : (g : ℕ) (bytes : List ℕ) →
    Meets (λ r. bytes ≡ fields_text (plain_number (kind_number r.0) ∷ plain_number (length r.1) ∷ r.1)) (gate_head_of g (fields bytes))
gate_head_text g bytes =
    meets_given _ _ _ _ (λ xs d. meets_given _ _ _ _ (λ x e. meets_given _ _ _ _ (λ k f.
    meets_require _ _ _ _ (λ t. meets_require _ _ _ _ (λ u.
    let c : x.1 ≡ plain_number (length x.2) = counts_plain fewest_fanins most_fanins x.1 t ∙ ap plain_number (sym (eqb→eq (length x.2) x.1.magnitude u)) in
    on (fields_text_lem bytes xs d ∙ ap fields_text (two_is xs x e ∙ ap₂ (λ y z. y ∷ z ∷ x.2) (kind_text x.0 k f) c)))))))

gate_text_lem : (out g : ℕ) (seen : Seen) (bytes : List ℕ) → Meets (λ r. bytes ≡ fields_text (gate_numbers r.0)) (read_gate out g seen bytes)
gate_text_lem out g seen bytes =
    meets_bind _ _ (gate_head_text g bytes) (λ x h.
    meets_bind _ _ (fanins_text out g seen x.1) (λ r f.
    on (h ∙ ap (λ ys. fields_text (plain_number (kind_number x.0) ∷ plain_number (length ys) ∷ ys)) f
    ∙ ap (λ n. fields_text (plain_number (kind_number x.0) ∷ plain_number n ∷ map fanin_number r.0)) (length-map r.0 fanin_number))))

left_text : (out n g : ℕ) (seen : Seen) (text : List ℕ) → Meets (λ r. (text ≡ gather gate_text r.0 ++ r.2) × (length r.0 ≡ n)) (read_left out n g seen text)
left_text out zero g seen text = on {a = ([], seen, text)} (refl, refl)
left_text out (suc n) g seen text =
    meets_given _ _ _ _ (λ p e.
    meets_bind _ _ (gate_text_lem out g seen p.0) (λ x h.
    meets_bind _ _ (left_text out n (suc g) x.1 p.1) (λ r f.
    on (
      line_text_lem text p (gate_numbers x.0) e h ∙ ap (◌++◌ (gate_text x.0)) f.0 ∙ sym (append_assoc (gate_text x.0) (gather gate_text r.0) r.2),
      ap suc f.1,
    ))))

all_text : (text : List ℕ) → Meets (λ s. text ≡ written s) (read_sheet text)
all_text text =
    meets_given _ _ _ _ (λ p e.
    meets_bind _ _ (head_text p.0) (λ h b.
    meets_bind _ _ (left_text h.out h.count 1 nothing p.1) (λ r f.
    meets_require _ _ _ _ (λ t.
    meets_bind _ _ (meets_any _) (λ u v.
    on (line_text_lem text p (signed_number h.inverted h.out ∷ plain_number h.count ∷ []) e b
    ∙ ap₂ (λ n l. line_text (signed_number h.inverted h.out ∷ plain_number n ∷ []) ++ l) (sym f.1)
    (f.0 ∙ ap (λ l. gather gate_text r.0 ++ l) (empty_is r.2 t) ∙ append-nil (gather gate_text r.0))))))))

pub read_text : (text : List ℕ) (s : DrawnSheet) → read_sheet text ≡ passed s → text ≡ written s
read_text text s e = meets_of (all_text text) e

-- THE TEXTS THAT ARE READ ARE THE WELL-FORMED SHEETS WRITTEN, AND NO OTHERS
pub read_exactly : (text : List ℕ) (s : DrawnSheet) →
    (read_sheet text ≡ passed s → WellFormed s × (text ≡ written s)) × (WellFormed s × (text ≡ written s) → read_sheet text ≡ passed s)
read_exactly text s = (λ e. (read_formed text s e, read_text text s e), λ h. ap read_sheet h.1 ∙ read_written s h.0)
