-- The sentences of all refusals as the lines of one text: a test that computes says that each line is the sentence of its number.
use Rattle.std.specs.Prelude.{ℕ, zero, suc, ◌+◌, ◌-◌, ◌≤◌, ◌<◌, ◌≡◌, ◌==◌, refl, Bool, true, false, cond, ◌&&◌, List, [], ◌∷◌, T, ltb, eqb, length, get_or, take, drop}
use Rattle.std.proofs.Common.{add-one, arith, sym, ap, ap₂, subst, ◌∙◌, drop-cons, eq-eqb, ne_eqb}
use Rattle.std.proofs.Math.Seq.{take-length}
use Rattle.std.specs.List.{position_or_len}
use Rattle.lists.specs.Cases.{by_eqb, by_leb, and_split}
use Rattle.lists.specs.TestLaws.{reflects_eq, reflects_lt}
use Rattle.refusals.specs.Trusted.Sentences.{Entry, ◌means◌, sentence_in, bytes_of}
use Rattle.refusals.specs.Lines.{after_lines, text_line}

-- ---- a text byte by byte

pub after_none : (bs : List ℕ) → after_lines 0 bs ≡ bs
after_none [] = refl
after_none (b ∷ bs) = refl

pub after_feed : (bs : List ℕ) (n i : ℕ) → i < length bs → (n ≡ 0 → ⊥) → get_or bs i 0 ≡ 10 → after_lines n (drop i bs) ≡ after_lines (n - 1) (drop (i + 1) bs)
after_feed bs n i h z e = ap (after_lines n) (drop-cons bs i 0 h) ∙ rw (add-one i, ne_eqb n 0 z, eq-eqb (get_or bs i 0) 10 e)

pub after_other : (bs : List ℕ) (n i : ℕ) → i < length bs → (n ≡ 0 → ⊥) → (get_or bs i 0 ≡ 10 → ⊥) → after_lines n (drop i bs) ≡ after_lines n (drop (i + 1) bs)
after_other bs n i h z e = ap (after_lines n) (drop-cons bs i 0 h) ∙ rw (add-one i, ne_eqb n 0 z, ne_eqb (get_or bs i 0) 10 e)

-- from a line's start to the first line feed from there on
pub line_part : (text : List ℕ) (n start end : ℕ) → drop start text ≡ after_lines n text → end ≡ start + position_or_len (λ b. b == 10) (drop start (take (length text) text)) →
    take (end - start) (drop start text) ≡ text_line n text
line_part text n start end e f =
    let whole = ap (λ t. position_or_len (λ b. b == 10) (drop start t)) (take-length text) in
    let count : end - start ≡ position_or_len (λ b. b == 10) (drop start text) = omega (arith, f, whole) in
    ap (λ k. take k (drop start text)) count ∙ ap (λ bs. take (position_or_len (λ b. b == 10) bs) bs) e

-- ---- the lines against the sentences

cons_some : {b : ℕ} {bs : List ℕ} → b ∷ bs ≡ [] → ⊥
cons_some {b} {bs} e = let h : suc (length bs) ≡ 0 = ap length e in omega (arith, h)

-- a text that has ended after m lines has ended after more
past : (bs : List ℕ) (m n : ℕ) → after_lines m bs ≡ [] → m ≤ n → after_lines n bs ≡ []
past [] m n e h = refl
past (b ∷ bs) zero n e h = absurd (cons_some e)
past (b ∷ bs) (suc m) n e h =
    let step = subst (λ t. cond t (b ∷ bs) (after_lines (cond (eqb b 10) (suc m - 1) (suc m)) bs) ≡ []) (ne_eqb (suc m) 0 (λ z. omega (arith, z))) e in
    rw (ne_eqb n 0 (λ z. omega (arith, z, h)))
    (by_eqb (λ t. after_lines (cond t (suc m - 1) (suc m)) bs ≡ [] → after_lines (cond t (n - 1) n) bs ≡ []) b 10
    (λ _. λ f. past bs (suc m - 1) (n - 1) f (omega (arith, h))) (λ _. λ f. past bs (suc m) n f h) step)

-- the numbers of all entries are below k: a test
abbrev keys_below : List Entry → ℕ → Bool
keys_below [] k = true
keys_below ((j means s) ∷ es) k = ltb j k && keys_below es k

-- a number past them has no sentence
none_past : (es : List Entry) (k n : ℕ) → T (keys_below es k) → k ≤ n → sentence_in es n ≡ ""
none_past [] k n t h = refl
none_past ((j means s) ∷ es) k n t h =
    let b = and_split (ltb j k) (keys_below es k) t in
    rw (ne_eqb n j (λ e. omega (arith, (reflects_lt j k).to b.0))) (none_past es k n b.1 h)

-- two lists are the same: a test
abbrev same : List ℕ → List ℕ → Bool
same [] [] = true
same [] (y ∷ ys) = false
same (x ∷ xs) [] = false
same (x ∷ xs) (y ∷ ys) = eqb x y && same xs ys

same_is : (xs ys : List ℕ) → T (same xs ys) → xs ≡ ys
same_is [] [] t = refl
same_is [] (y ∷ ys) t = absurd t
same_is (x ∷ xs) [] t = absurd t
same_is (x ∷ xs) (y ∷ ys) t =
    let b = and_split (eqb x y) (same xs ys) t in
    ap₂ ◌∷◌ ((reflects_eq x y).to b.0) (same_is xs ys b.1)

-- each line before line k is the sentence of its number: a test
abbrev lines_equal : List ℕ → List Entry → ℕ → Bool
lines_equal text es zero = true
lines_equal text es (suc k) = same (text_line k text) (bytes_of (sentence_in es k)) && lines_equal text es k

line_same : (text : List ℕ) (es : List Entry) (k n : ℕ) → T (lines_equal text es k) → n < k → text_line n text ≡ bytes_of (sentence_in es n)
line_same text es zero n t h = absurd (omega (arith, h))
line_same text es (suc k) n t h =
    let b = and_split (same (text_line k text) (bytes_of (sentence_in es k))) (lines_equal text es k) t in
    by_leb (λ c. text_line n text ≡ bytes_of (sentence_in es n)) k n
    (λ le. subst (λ m. text_line m text ≡ bytes_of (sentence_in es m)) (let e : k ≡ n = omega (arith, le, h) in e) (same_is (text_line k text) (bytes_of (sentence_in es k)) b.0))
    (λ lt. line_same text es k n b.1 lt)

-- the text's lines before line k are the sentences of their numbers, the text ends there, and no entry has a greater number
abbrev pub LinesAre : List ℕ → List Entry → ℕ → Type 0
LinesAre text es k = T (lines_equal text es k) × T (keys_below es k) × (after_lines k text ≡ [])

-- so each line is the sentence of its number, and a number that has no line has no sentence
pub line_is_lem : (text : List ℕ) (es : List Entry) (k n : ℕ) → LinesAre text es k → text_line n text ≡ bytes_of (sentence_in es n)
line_is_lem text es k n l =
    by_leb (λ c. text_line n text ≡ bytes_of (sentence_in es n)) k n
    (λ le. ap (λ bs. take (position_or_len (λ b. eqb b 10) bs) bs) (past text k n l.2 le) ∙ sym (ap bytes_of (none_past es k n l.1 le)))
    (λ lt. line_same text es k n l.0 lt)
