-- Laws of the steps of a merge: what each loop adds in a turn, and what the whole makes.
use Rattle.std.specs.Prelude.{ℕ, zero, suc, ◌+◌, ◌-◌, ◌*◌, ◌/◌, ◌%◌, ◌^◌, ◌≤◌, ◌<◌, ◌≡◌, refl, ◌≢◌, Bool, true, false, not, cond, List, [], ◌∷◌, ◌++◌, map, eqb, length, get_or, take, drop, set, replicate}
use Rattle.std.proofs.Common.{add-zero, add-one, arith, ap, ap₂, ◌∙◌, subst, length-append, length-set, length-take, pow_pos, shl_exact, shr-shr, length-take-le, get_or-drop, get_or-set_same, get_or-set_other, take-suc, take-suc-set, drop-drop, drop_at, drop-set-lt, take_at}
use Rattle.std.proofs.Math.Path.{sym}
use Rattle.std.proofs.lemmas.List.{map-append, length-map, length-replicate, set_split}
use Rattle.std.specs.Int.Bits.{bit_and, bit_xor, mask_lt}
use Rattle.std.proofs.Math.Pow.{pow_mono, ones_split, high, ones_lt}
use Rattle.std.proofs.Math.Seq.{slice, slice-cons, slice_empty, length-slice, append_snoc}
use Rattle.lists.specs.Cases.{by_eqb, by_leb, if_leb}
use Rattle.lists.specs.Trusted.Lists.{insert, sorted}
use Rattle.lists.specs.Sequences.{Sorted}
use Rattle.lists.specs.ListLaws.{inserted_length, permuted_refl, permuted_length}
use Rattle.lists.specs.NumberLaws.{insert_inserted, insert_first, sorted_permuted, sorted_sorted, sorted_only}
use Rattle.tree.specs.declared.Kind.{Kind}
use Rattle.tree.specs.declared.Kind.TheVariants.{And as and}
use Rattle.tree.specs.Trusted.Tree.{turned, meet}
use Rattle.cover.specs.Trusted.Bits.{bit, digit, truth_of, index, place}
use Rattle.cover.specs.Trusted.Tables.{output, tabled}
use Rattle.cover.specs.BitLaws.{bit_shift, bit_truth_of, truth_of_lt, truth_of_only, bit_and_lem, bit_xor_lem, bit_zero}
use Rattle.table.specs.Trusted.Limits.{input_room}
use Rattle.pending.specs.declared.Lut.{Lut}
use Rattle.pending.specs.Luts.{lut_reads, lut_table, lut_of}
use Rattle.pending.specs.declared.Pending.{Pending}
use Rattle.pending.specs.Operands.{merged}
use Rattle.pending.specs.Pendings.{operand_of, Mergeable}
use Rattle.pending.specs.Merging.{padded, column_of, columns_of, row_value, Rows, Words, MergeRoom, Filled, Ordered, Tabled, inverted_of}

-- ---- a part of a list

pub slice_none : (i n : ℕ) (xs : List ℕ) → i ≡ n → slice i n xs ≡ []
slice_none i n xs e = ap (λ m. slice m n xs) e ∙ slice_empty n xs

slice_down : (i n : ℕ) (xs : List ℕ) → 0 < i → i ≤ n → n ≤ length xs → slice (i - 1) n xs ≡ get_or xs (i - 1) 0 ∷ slice i n xs
slice_down i n xs p l m =
    let e : suc (i - 1) ≡ i = omega arith in
    slice-cons (i - 1) n xs 0 (omega arith) m ∙ ap (λ k. get_or xs (i - 1) 0 ∷ slice k n xs) e

-- ---- the place of a code

pub place_here : (c i n : ℕ) (xs : List ℕ) → i < n → n ≤ length xs → get_or xs i 0 ≡ c → place c (slice i n xs) ≡ 0
place_here c i n xs l m e =
    ap (place c) (slice-cons i n xs 0 l m) ∙ by_eqb (λ b. cond b 0 (suc (place c (slice (suc i) n xs))) ≡ 0) c (get_or xs i 0) (λ q. refl) (λ q. absurd (q (sym e)))

pub place_later : (c i n : ℕ) (xs : List ℕ) → i < n → n ≤ length xs → get_or xs i 0 ≢ c → place c (slice i n xs) ≡ suc (place c (slice (suc i) n xs))
place_later c i n xs l m e =
    ap (place c) (slice-cons i n xs 0 l m)
    ∙ by_eqb (λ b. cond b 0 (suc (place c (slice (suc i) n xs))) ≡ suc (place c (slice (suc i) n xs))) c (get_or xs i 0) (λ q. absurd (e (sym q))) (λ q. refl)

place_le : (c : ℕ) (xs : List ℕ) → place c xs ≤ length xs
place_le c [] = omega arith
place_le c (x ∷ xs) = by_eqb (λ b. cond b 0 (suc (place c xs)) ≤ suc (length xs)) c x (λ q. omega arith) (λ q. omega (arith, place_le c xs))

-- the place of a code among inputs that there is room for
pub place_low : (c n : ℕ) (xs : List ℕ) → n ≤ input_room → place c (take n xs) ≤ input_room
place_low c n xs l = omega (arith, place_le c (take n xs), length-take n xs)

-- ---- words

bit_column : (p row : ℕ) → row < 64 → bit (column_of p) row ≡ bit row p
unfolding column_of
bit_column p row l = bit_truth_of (λ i. bit i p) 64 row l

turned_not : (b : Bool) → turned true b ≡ not b
turned_not true = refl
turned_not false = refl

-- a number of n bits taken from n ones
pub complement : (n t : ℕ) → t < 2 ^ n → truth_of (λ i. not (bit t i)) n ≡ 2 ^ n - 1 - t
complement zero t h = omega arith
complement (suc n) t h =
    ap (digit (not (bit t 0))) (complement n (t / 2) (omega arith))
    ∙ by_eqb (λ b. digit (not b) (2 ^ n - 1 - t / 2) ≡ 2 ^ suc n - 1 - t) (t % 2) 1 (λ e. omega arith) (λ e. omega arith)

bit_complement : (n t i : ℕ) → t < 2 ^ n → i < n → bit (2 ^ n - 1 - t) i ≡ not (bit t i)
bit_complement n t i h l = ap (λ m. bit m i) (sym (complement n t h)) ∙ bit_truth_of (λ j. not (bit t j)) n i l

pub bit_turned : (w row : ℕ) → w < 2 ^ 64 → row < 64 → bit (2 ^ 64 - 1 - w) row ≡ turned true (bit w row)
bit_turned w row h l = bit_complement 64 w row h l ∙ sym (turned_not (bit w row))

bit_ones : (n i : ℕ) → i < n → bit (2 ^ n - 1) i ≡ true
bit_ones n i l =
    let e : 2 ^ n - 1 ≡ 2 ^ n - 1 - 0 = omega arith in
    ap (λ m. bit m i) e ∙ bit_complement n 0 i (pow_pos n) l ∙ ap not (bit_zero i)

-- a word's first n rows
rows_of : (f : ℕ → Bool) (w n : ℕ) → ((row : ℕ) → row < n → bit w row ≡ f row) → bit_and w (2 ^ n - 1) ≡ truth_of f n
rows_of f w n h = sym (truth_of_only f n (bit_and w (2 ^ n - 1)) (mask_lt w n) each)
  where
    both : (b : Bool) → meet and b true ≡ b
    both true = refl
    both false = refl

    each : (i : ℕ) → i < n → bit (bit_and w (2 ^ n - 1)) i ≡ f i
    each i l = bit_and_lem w (2 ^ n - 1) i ∙ ap (meet and (bit w i)) (bit_ones n i l) ∙ both (bit w i) ∙ h i l

-- ---- words of two

-- one of two words, row by row
mux_bit : (ws : List ℕ) (j m row : ℕ) →
    bit (bit_xor (get_or ws (2 * j) 0) (bit_and (bit_xor (get_or ws (2 * j) 0) (get_or ws (1 + 2 * j) 0)) m)) row ≡ bit (get_or ws (digit (bit m row) j) 0) row
mux_bit ws j m row =
    bit_xor_lem v (bit_and (bit_xor v w) m) row
    ∙ ap (turned (bit v row)) (bit_and_lem (bit_xor v w) m row ∙ ap (λ b. meet and b (bit m row)) (bit_xor_lem v w row))
    ∙ choose (bit v row) (bit w row) (bit m row) refl refl
  where
    v : ℕ
    v = get_or ws (2 * j) 0

    w : ℕ
    w = get_or ws (1 + 2 * j) 0

    choose : (a b c : Bool) → bit v row ≡ a → bit w row ≡ b → turned a (meet and (turned a b) c) ≡ bit (get_or ws (digit c j) 0) row
    choose true true true e f = sym f
    choose true false true e f = sym f
    choose false true true e f = sym f
    choose false false true e f = sym f
    choose true true false e f = sym e
    choose true false false e f = sym e
    choose false true false e f = sym e
    choose false false false e f = sym e

-- two bits of a number
two_bits : (t j : ℕ) (b : Bool) → bit (t / 2 ^ (2 * j) % 4) (digit b 0) ≡ bit t (digit b j)
two_bits t j false =
    let e : t / 2 ^ (2 * j) % 4 % 2 ≡ t / 2 ^ (2 * j) % 2 = omega arith in
    ap (λ k. eqb k 1) e ∙ sym (bit_shift t (2 * j))
two_bits t j true =
    let e : t / 2 ^ (2 * j) % 4 / 2 % 2 ≡ t / 2 ^ (2 * j) / 2 % 2 = omega arith in
    let f : 2 * j + 1 ≡ 1 + 2 * j = omega arith in
    ap (λ k. eqb k 1) (e ∙ ap (λ k. k % 2) (shr-shr t (2 * j) 1 ∙ ap (λ k. t / 2 ^ k) f)) ∙ sym (bit_shift t (1 + 2 * j))

-- what two bits make of a column
abbrev cases : ℕ → List ℕ
cases m = 0 ∷ (2 ^ 64 - 1 - m) ∷ m ∷ (2 ^ 64 - 1) ∷ []

pub pair_bit : (t j m row : ℕ) → m < 2 ^ 64 → row < 64 →
    bit (get_or (cases m) (t / 2 ^ (2 * j) % 4) 0) row ≡ bit t (digit (bit m row) j)
pair_bit t j m row h l = which (t / 2 ^ (2 * j) % 4) (omega arith) (bit m row) refl ∙ two_bits t j (bit m row)
  where
    which : (v : ℕ) → v < 4 → (b : Bool) → bit m row ≡ b → bit (get_or (cases m) v 0) row ≡ bit v (digit b 0)
    which zero k true e = bit_zero row
    which zero k false e = bit_zero row
    which (suc zero) k true e = bit_turned m row h l ∙ ap (turned true) e
    which (suc zero) k false e = bit_turned m row h l ∙ ap (turned true) e
    which (suc (suc zero)) k true e = e
    which (suc (suc zero)) k false e = e
    which (suc (suc (suc zero))) k true e = bit_ones 64 row l
    which (suc (suc (suc zero))) k false e = bit_ones 64 row l
    which (suc (suc (suc (suc v)))) k b e = absurd (omega arith)

-- one word more
pub words_next : {f : ℕ → ℕ → Bool} {ws : List ℕ} {j v : ℕ} → j < 32 → Words f j ws → Rows (f j) v → Words f (j + 1) (set ws j v)
words_next {f} {ws} {j} {v} l h e = record {
  shape = length-set ws j v ∙ h.shape;
  rows = λ k m. by_eqb (λ b. Rows (f k) (get_or (set ws j v) k 0)) k j
      (λ q. rw (q, get_or-set_same ws j v 0 (omega (arith, h.shape))) e)
      (λ q. rw (get_or-set_other ws j k v 0 q) (h.rows k (omega arith)));
}

-- the loop that makes one word of each two of `ws`: the first j are made, and from j on they are as they were
pub record Folded (ws : List ℕ) (m : ℕ) (out : List ℕ) (j : ℕ) : Type 0 where
  pub made : Words (λ k row. bit (get_or ws (digit (bit m row) k) 0) row) j out
  pub rest : (k : ℕ) → j ≤ k → get_or out k 0 ≡ get_or ws k 0

pub words_none : {f : ℕ → ℕ → Bool} {ws : List ℕ} → length ws ≡ 32 → Words f 0 ws
words_none e = record { shape = e; rows = λ k l. absurd (omega arith) }

pub folded_none : (ws : List ℕ) (m : ℕ) → length ws ≡ 32 → Folded ws m ws 0
folded_none ws m e = record { made = words_none e; rest = λ k l. refl }

digit_ge : (b : Bool) (j : ℕ) → j ≤ digit b j
digit_ge true j = omega arith
digit_ge false j = omega arith

pub folded_next : {ws out : List ℕ} {m j : ℕ} → j < 32 → Folded ws m out j →
    Folded ws m (set out j (bit_xor (get_or out (2 * j) 0) (bit_and (bit_xor (get_or out (2 * j) 0) (get_or out (1 + 2 * j) 0)) m))) (j + 1)
folded_next {ws} {out} {m} {j} l h = record {
  made = words_next l h.made (record { bits = λ row r. mux_bit out j m row ∙ ap (λ w. bit w row) (h.rest (digit (bit m row) j) (digit_ge (bit m row) j)) });
  rest = λ k p. get_or-set_other out j k _ 0 (λ e. absurd (omega arith)) ∙ h.rest k (omega arith);
}

-- ---- inputs with zeros after them

padded_length : (xs : List ℕ) → length xs ≤ input_room → length (padded xs) ≡ input_room
padded_length xs l = length-append xs (replicate (input_room - length xs) 0) ∙ rw length-replicate (omega arith)

filled_shape : {n : ℕ} {xs : List ℕ} → Filled n xs → length xs ≡ input_room
filled_shape {n} {xs} f = ap length f.zeros ∙ padded_length (take n xs) (omega (arith, f.fits, length-take n xs))

-- after the first n inputs stand zeros
zeros_after : (n : ℕ) (xs : List ℕ) → n < input_room → Filled n xs → drop (suc n) xs ≡ replicate (input_room - suc n) 0
zeros_after n xs l f =
    sym (drop-drop 1 n xs ∙ ap (λ k. drop k xs) (add-one n))
    ∙ ap (drop 1) (ap (drop n) f.zeros ∙ drop_at (take n xs) (replicate (input_room - length (take n xs)) 0) n size ∙ ap (λ k. replicate k 0) more)
  where
    size : length (take n xs) ≡ n
    size = length-take-le n xs (omega (arith, filled_shape f))

    more : input_room - length (take n xs) ≡ suc (input_room - suc n)
    more = omega (arith, size)

-- a list with zeros after it
pub padded_filled : (n : ℕ) (ys xs : List ℕ) → xs ≡ padded ys → length ys ≡ n → n ≤ input_room → Filled n xs × (take n xs ≡ ys)
padded_filled n ys xs e s l = (record { fits = l; zeros = e ∙ ap padded (sym first) }, first)
  where
    first : take n xs ≡ ys
    first = ap (take n) e ∙ take_at ys (replicate (input_room - length ys) 0) n s

-- one input more
set_filled : (xs : List ℕ) (n v : ℕ) → n < input_room → Filled n xs → set xs n v ≡ padded (take n xs ++ (v ∷ []))
set_filled xs n v l f =
    set_split xs n v (omega (arith, filled_shape f)) ∙ ap (λ zs. take n xs ++ (v ∷ zs)) (zeros_after n xs l f)
    ∙ sym (append_snoc (take n xs) v (replicate (input_room - suc n) 0)) ∙ ap (λ k. (take n xs ++ (v ∷ [])) ++ replicate (input_room - k) 0) (sym size)
  where
    size : length (take n xs ++ (v ∷ [])) ≡ suc n
    size = length-append (take n xs) (v ∷ []) ∙ omega (arith, length-take-le n xs (omega (arith, filled_shape f)))

-- ---- the words of a truth table, one input after the other

-- the index whose lowest bits are the list's, with those of j above them
abbrev above : List Bool → ℕ → ℕ
above [] j = j
above (b ∷ bs) j = digit b (above bs j)

above_snoc : (bs : List Bool) (b : Bool) (j : ℕ) → above (bs ++ (b ∷ [])) j ≡ above bs (digit b j)
above_snoc [] b j = refl
above_snoc (c ∷ bs) b j = ap (digit c) (above_snoc bs b j)

above_none : (bs : List Bool) → above bs 0 ≡ index bs
above_none [] = refl
above_none (b ∷ bs) = ap (digit b) (above_none bs)

-- the first i inputs are used up, and a word is left for each row of the others
abbrev pub Level : ℕ → List ℕ → ℕ → ℕ → List ℕ → Type 0
Level t ms n i ws = Words (λ j row. bit t (above (map (λ m. bit m row) (take i ms)) j)) (2 ^ (n - i)) ws

digit_lt : (b : Bool) (j n : ℕ) → j < n → digit b j < 2 * n
digit_lt true j n l = omega arith
digit_lt false j n l = omega arith

pub rows_are : (n : ℕ) → n ≤ input_room → 1 * 2 ^ n % 2 ^ 64 ≡ 2 ^ n
rows_are n l = shl_exact {a = 1} 1 n 64 (omega arith) (omega arith) ∙ omega arith

half_rows : (n : ℕ) → (2 ^ n + 1) / 2 ≡ 2 ^ (n - 1)
half_rows zero = refl
half_rows (suc n) =
    let e : suc n - 1 ≡ n = omega arith in
    rw e (omega arith)

module _ (t n : ℕ) (ms : List ℕ) (f : Filled n ms) where
  one_more : (i row j : ℕ) → i < length ms → above (map (λ m. bit m row) (take (i + 1) ms)) j ≡ above (map (λ m. bit m row) (take i ms)) (digit (bit (get_or ms i 0) row) j)
  one_more i row j l =
      rw (add-one i, take-suc ms i 0 l, map-append (λ m. bit m row) (take i ms) (get_or ms i 0 ∷ []))
      (above_snoc (map (λ m. bit m row) (take i ms)) (bit (get_or ms i 0) row) j)

  pub level_first : {ws : List ℕ} → Words (λ j row. bit t (digit (bit (get_or ms 0 0) row) j)) ((1 * 2 ^ n % 2 ^ 64 + 1) / 2) ws → Level t ms n 1 ws
  level_first h = record {
    shape = h.shape;
    rows = λ j l. record {
      bits = λ row r.
          (h.rows j (rw (rows_are n f.fits, half_rows n) l)).bits row r ∙ ap (bit t) (sym (one_more 0 row j (omega (arith, filled_shape f))));
    };
  }

  pub level_next : {ws ws' : List ℕ} (i : ℕ) → i < n → Level t ms n i ws →
      Words (λ j row. bit (get_or ws (digit (bit (get_or ms i 0) row) j) 0) row) (1 * 2 ^ (n - i - 1) % 2 ^ 64) ws' → Level t ms n (i + 1) ws'
  level_next i l g h = record {
    shape = h.shape;
    rows = λ j m. record {
      bits = λ row r.
          (h.rows j (rw (rows_are (n - i - 1) (omega (arith, f.fits)), same) m)).bits row r
          ∙ (g.rows (digit (bit (get_or ms i 0) row) j) (rw double (digit_lt (bit (get_or ms i 0) row) j (2 ^ (n - (i + 1))) m))).bits row r
          ∙ ap (bit t) (sym (one_more i row j (omega (arith, f.fits, filled_shape f))));
    };
  }
    where
      same : n - i - 1 ≡ n - (i + 1)
      same = omega arith

      double : 2 ^ (n - i) ≡ 2 * 2 ^ (n - (i + 1))
      double =
          let e : n - i ≡ suc (n - (i + 1)) = omega arith in
          ap (λ k. 2 ^ k) e ∙ omega arith

  -- the inputs are used up, also where there is none, since the first column then is zero
  all_used : (i row : ℕ) → 0 < i → n ≤ i → i - 1 ≤ n - 1 → index (map (λ m. bit m row) (take i ms)) ≡ index (map (λ m. bit m row) (take n ms))
  all_used i row p l q = by_leb (λ b. first i ≡ first n) 1 n some none
    where
      first : ℕ → ℕ
      first k = index (map (λ m. bit m row) (take k ms))

      some : 1 ≤ n → first i ≡ first n
      some h =
          let e : i ≡ n = omega arith in
          ap first e

      none : n < 1 → first i ≡ first n
      none h =
          let e : i ≡ 1 = omega arith in
          let z : n ≡ 0 = omega arith in
          ap first e ∙ ap (λ xs. index (map (λ m. bit m row) (take 1 xs))) (f.zeros ∙ ap (λ k. padded (take k ms)) z) ∙ ap (λ b. digit b 0) (bit_zero row)
          ∙ ap first (sym z)

  pub level_last : {ws : List ℕ} (i : ℕ) → 0 < i → n ≤ i → i - 1 ≤ n - 1 → Level t ms n i ws → Rows (row_value t (take n ms)) (get_or ws 0 0)
  level_last i p l q g = record {
    bits = λ row r. (g.rows 0 (pow_pos (n - i))).bits row r ∙ ap (bit t) (above_none (map (λ m. bit m row) (take i ms)) ∙ all_used i row p l q);
  }

-- ---- the columns

-- the table of columns
pub column_is : (p : ℕ) → p ≤ input_room →
    get_or
    (0xAAAA_AAAA_AAAA_AAAA ∷ 0xCCCC_CCCC_CCCC_CCCC ∷ 0xF0F0_F0F0_F0F0_F0F0 ∷ 0xFF00_FF00_FF00_FF00 ∷ 0xFFFF_0000_FFFF_0000 ∷ 0xFFFF_FFFF_0000_0000 ∷ 0 ∷ [])
    p 0 ≡ column_of p
unfolding column_of
column_is zero l = refl
column_is (suc zero) l = refl
column_is (suc (suc zero)) l = refl
column_is (suc (suc (suc zero))) l = refl
column_is (suc (suc (suc (suc zero)))) l = refl
column_is (suc (suc (suc (suc (suc zero))))) l = refl
column_is (suc (suc (suc (suc (suc (suc zero)))))) l = refl
column_is (suc (suc (suc (suc (suc (suc (suc p))))))) l = absurd (omega arith)

pub columns_none : (xs : List ℕ) → replicate 6 0 ≡ padded (columns_of [] xs)
columns_none xs = refl

pub columns_next : (cs xs out : List ℕ) (i v : ℕ) → i < length cs → i < input_room → out ≡ padded (columns_of (take i cs) xs) →
    v ≡ column_of (place (get_or cs i 0) xs) → set out i v ≡ padded (columns_of (take (i + 1) cs) xs)
columns_next cs xs out i v l m h e =
    set_filled out i v m w.0 ∙ ap padded (ap₂ (λ ys y. ys ++ (y ∷ [])) w.1 e ∙ sym more)
  where
    more : columns_of (take (i + 1) cs) xs ≡ columns_of (take i cs) xs ++ (column_of (place (get_or cs i 0) xs) ∷ [])
    more = rw (add-one i, take-suc cs i 0 l) (map-append (λ c. column_of (place c xs)) (take i cs) (get_or cs i 0 ∷ []))

    w : Filled i out × (take i out ≡ columns_of (take i cs) xs)
    w = padded_filled i (columns_of (take i cs) xs) out h (length-map (take i cs) (λ c. column_of (place c xs)) ∙ length-take-le i cs (omega arith)) (omega arith)

pub columns_length : {n : ℕ} {cs : List ℕ} (xs : List ℕ) → MergeRoom n cs → length (columns_of (take n cs) xs) ≡ n
columns_length {n} {cs} xs r = length-map (take n cs) (λ c. column_of (place c xs)) ∙ length-take-le n cs (omega (arith, r.shape, r.fits))

-- ---- the inputs in order

-- what is left of two lists is the same
drop_head : (i : ℕ) (xs ys : List ℕ) → drop i xs ≡ drop i ys → get_or xs i 0 ≡ get_or ys i 0
drop_head i xs ys e = rw add-zero at (sym (get_or-drop i xs 0 0) ∙ ap (λ l. get_or l 0 0) e ∙ get_or-drop i ys 0 0)

drop_more : (i : ℕ) (xs ys : List ℕ) → drop i xs ≡ drop i ys → drop (i + 1) xs ≡ drop (i + 1) ys
drop_more i xs ys e = sym (drop-drop 1 i xs) ∙ ap (drop 1) e ∙ drop-drop 1 i ys

sorted_drop : (i : ℕ) (xs : List ℕ) → Sorted xs → Sorted (drop i xs)
sorted_drop zero xs s = s
sorted_drop (suc i) [] s = s
sorted_drop (suc i) (x ∷ xs) s = sorted_drop i xs s.1

insert_length : (x : ℕ) (ys : List ℕ) → length (insert x ys) ≡ suc (length ys)
insert_length x ys = inserted_length (insert_inserted x ys)

insert_after : (x y : ℕ) (ys : List ℕ) → y < x → insert x (y ∷ ys) ≡ y ∷ insert x ys
insert_after x y ys l = if_leb (λ zs. zs ≡ y ∷ insert x ys) x y (λ m. absurd (omega arith)) (λ m. refl)

insert_before : (x y : ℕ) (ys : List ℕ) → x ≤ y → Sorted (y ∷ ys) → insert x (y ∷ ys) ≡ x ∷ insert y ys
insert_before x y ys l s = if_leb (λ zs. zs ≡ x ∷ insert y ys) x y (λ m. ap (◌∷◌ x) (sym (insert_first y ys s.0))) (λ m. absurd (omega arith))

pub ordered_shape : {n : ℕ} {xs : List ℕ} → Ordered n xs → length xs ≡ input_room
ordered_shape o = filled_shape o.filled

-- the loop that puts the code c among the first n of `xs`: it has passed the first i, and `next` is still to be put in
pub record Inserting (xs : List ℕ) (n c : ℕ) (out : List ℕ) (next i : ℕ) : Type 0 where
  pub shape : length out ≡ length xs
  pub within : i ≤ n
  pub rest : drop i out ≡ drop i xs
  pub made : insert c (take n xs) ≡ take i out ++ insert next (slice i n xs)

module _ (xs : List ℕ) (n c : ℕ) (room : n < input_room) (o : Ordered n xs) where
  shape : length xs ≡ input_room
  shape = ordered_shape o

  pub inserting_start : Inserting xs n c xs c 0
  inserting_start = record { shape = refl; within = omega arith; rest = refl; made = refl }

  module _ {out : List ℕ} {next i : ℕ} (p : Inserting xs n c out next i) (l : i < n) where
    here_is : slice i n xs ≡ get_or out i 0 ∷ slice (i + 1) n xs
    here_is = slice-cons i n xs 0 l (omega (arith, shape)) ∙ ap₂ (λ y k. y ∷ slice k n xs) (sym (drop_head i out xs p.rest)) (sym (add-one i))

    -- the code at i is less, and stays
    pub inserting_stay : get_or out i 0 < next → Inserting xs n c out next (i + 1)
    inserting_stay h = record {
      shape = p.shape;
      within = omega arith;
      rest = drop_more i out xs p.rest;
      made =
          p.made
          ∙ ap (λ ys. take i out ++ ys) (ap (insert next) here_is ∙ insert_after next (get_or out i 0) (slice (i + 1) n xs) h)
          ∙ sym (rw (add-one i, take-suc out i 0 (omega (arith, p.shape, shape))) (append_snoc (take i out) (get_or out i 0) (insert next (slice (suc i) n xs))));
    }

    -- or it moves up
    pub inserting_up : next ≤ get_or out i 0 → Inserting xs n c (set out i next) (get_or out i 0) (i + 1)
    inserting_up h = record {
      shape = length-set out i next ∙ p.shape;
      within = omega arith;
      rest = drop-set-lt (i + 1) out i next (omega arith) ∙ drop_more i out xs p.rest;
      made =
          p.made
          ∙ ap (λ ys. take i out ++ ys)
          (ap (insert next) here_is ∙ insert_before next (get_or out i 0) (slice (i + 1) n xs) h (rw here_is at (sorted_drop i (take n xs) o.sorted)))
          ∙ sym (rw (add-one i, take-suc-set out i next (omega (arith, p.shape, shape))) (append_snoc (take i out) next (insert (get_or out i 0) (slice (suc i) n xs))));
    }

  pub inserting_end : {out : List ℕ} {next i : ℕ} → Inserting xs n c out next i → i ≡ n → set out n next ≡ padded (insert c (take n xs))
  inserting_end {out} {next} {i} p e =
      set_split out n next (omega (arith, p.shape, shape))
      ∙ ap (λ zs. take n out ++ (next ∷ zs)) (subst (λ k. drop k out ≡ drop k xs) after (drop_more i out xs p.rest) ∙ zeros_after n xs room o.filled)
      ∙ sym (append_snoc (take n out) next (replicate (input_room - suc n) 0))
      ∙ ap₂ (λ ys k. ys ++ replicate (input_room - k) 0) (sym made) (sym size)
    where
      after : i + 1 ≡ suc n
      after = omega arith

      made : insert c (take n xs) ≡ take n out ++ (next ∷ [])
      made = p.made ∙ ap₂ (λ k ys. take k out ++ insert next ys) e (slice_none i n xs e)

      size : length (insert c (take n xs)) ≡ suc n
      size = insert_length c (take n xs) ∙ ap suc (length-take-le n xs (omega (arith, shape)))

-- the first n of the codes `cs` put among the first m of `xs`, from the last code on: those from i on are there
pub record InsertedFrom (cs : List ℕ) (n : ℕ) (ys out : List ℕ) (size i : ℕ) : Type 0 where
  pub within : i ≤ n
  pub count : size ≡ n - i + length ys
  pub made : out ≡ padded (sorted (slice i n cs ++ ys))

sorted_length : (xs : List ℕ) → length (sorted xs) ≡ length xs
sorted_length xs = sym (permuted_length (sorted_permuted xs))

module _ (cs : List ℕ) (n : ℕ) (r : MergeRoom n cs) (xs : List ℕ) (m : ℕ) (o : Ordered m xs) (fits : n + m ≤ input_room) where
  ys_length : length (take m xs) ≡ m
  ys_length = length-take-le m xs (omega (arith, ordered_shape o))

  pub inserted_none : InsertedFrom cs n (take m xs) xs m n
  inserted_none = record {
    within = omega arith;
    count = omega (arith, ys_length);
    made = o.filled.zeros ∙ ap padded (sym (ap (λ ws. sorted (ws ++ take m xs)) (slice_empty n cs) ∙ sorted_only (permuted_refl (take m xs)) o.sorted));
  }

  module _ {out : List ℕ} {size i : ℕ} (g : InsertedFrom cs n (take m xs) out size i) where
    first_are : take size out ≡ sorted (slice i n cs ++ take m xs)
    first_are =
        ap (take size) g.made
        ∙ take_at (sorted (slice i n cs ++ take m xs)) _ size
        (sorted_length (slice i n cs ++ take m xs) ∙ length-append (slice i n cs) (take m xs) ∙ omega (arith, g.count, length-slice i n cs (omega (arith, r.shape))))

    pub inserted_ordered : 0 < i → (size < input_room) × Ordered size out
    inserted_ordered p = (
      omega (arith, g.count, g.within, ys_length),
      record {
        filled = record { fits = omega (arith, g.count, g.within, ys_length); zeros = g.made ∙ ap padded (sym first_are) };
        sorted = rw first_are (sorted_sorted (slice i n cs ++ take m xs));
      },
    )

    pub inserted_next : {out' : List ℕ} → 0 < i → out' ≡ padded (insert (get_or cs (i - 1) 0) (take size out)) → InsertedFrom cs n (take m xs) out' (size + 1) (i - 1)
    inserted_next p e = record {
      within = omega (arith, g.within);
      count = omega (arith, g.count, g.within);
      made =
          e ∙ ap (λ ws. padded (insert (get_or cs (i - 1) 0) ws)) first_are
          ∙ ap (λ ws. padded (sorted (ws ++ take m xs))) (sym (slice_down i n cs p g.within (omega (arith, r.shape, r.fits))));
    }

    pub inserted_all : i ≡ 0 → out ≡ padded (sorted (take n cs ++ take m xs))
    inserted_all z = g.made ∙ ap (λ k. padded (sorted (slice k n cs ++ take m xs))) z

-- ---- the whole

pub ordered_right : {x y : Pending} → Mergeable x y → Ordered y.table.count y.table.inputs
ordered_right m = record { filled = record { fits = m.kept.fits; zeros = ap (λ r. r.inputs) m.kept.padded }; sorted = m.sorted }

pub rows_some : (n : ℕ) → n ≤ input_room → 0 < 1 * 2 ^ n % 2 ^ 64
rows_some n l = rw (rows_are n l) (pow_pos n)

pub rows_low : (n : ℕ) → n ≤ input_room → 1 * 2 ^ n % 2 ^ 64 ≤ 64
rows_low n l = rw (rows_are n l) (pow_mono {i = n} {j = 6} l)

-- what is read of a pending table in a row of the inputs `zs`
abbrev operand_at : Pending → List ℕ → ℕ → Bool
operand_at x zs row = turned x.inverted (output (lut_table x.table) (λ c. bit row (place c zs)))

operand_is : {v w : ℕ} (x : Pending) (zs : List ℕ) → Rows (row_value x.table.truth (columns_of (lut_reads x.table) zs)) v →
    Rows (λ row. turned x.inverted (bit v row)) w → Rows (operand_at x zs) w
operand_is x zs e f = record {
  bits = λ row l. f.bits row l ∙ ap (turned x.inverted) (e.bits row l ∙ ap (λ bs. bit x.table.truth (index bs)) (each row l (lut_reads x.table)));
}
  where
    each : (row : ℕ) → row < 64 → (cs : List ℕ) → map (λ m. bit m row) (columns_of cs zs) ≡ map (λ c. bit row (place c zs)) cs
    each row l [] = refl
    each row l (c ∷ cs) = ap₂ ◌∷◌ (bit_column (place c zs) row l) (each row l cs)

abbrev codes : Pending → Pending → List ℕ
codes x y = lut_reads x.table ++ lut_reads y.table

abbrev count : Pending → Pending → ℕ
count x y = x.table.count + y.table.count

module _ (x y : Pending) (m : Mergeable x y) (shape : length x.table.inputs ≡ input_room) (inputs : List ℕ) (i : inputs ≡ padded (sorted (codes x y))) where
  codes_count : length (sorted (codes x y)) ≡ count x y
  codes_count =
      sorted_length (codes x y) ∙ length-append (lut_reads x.table) (lut_reads y.table)
      ∙ ap₂ ◌+◌ (length-take-le x.table.count x.table.inputs (omega (arith, m.fits)))
      (length-take-le y.table.count y.table.inputs (omega (arith, m.fits, ordered_shape (ordered_right m))))

  codes_are : take (count x y) inputs ≡ sorted (codes x y)
  codes_are = ap (take (count x y)) i ∙ take_at (sorted (codes x y)) _ (count x y) codes_count

  pub inputs_room : MergeRoom (count x y) inputs
  inputs_room = record { fits = m.fits; shape = ap length i ∙ padded_length (sorted (codes x y)) (omega (arith, codes_count, m.fits)) }

  pub merged_is : (k : Kind) {v v' w w' t : ℕ} → Rows (row_value x.table.truth (columns_of (lut_reads x.table) (take (count x y) inputs))) v →
      Rows (row_value y.table.truth (columns_of (lut_reads y.table) (take (count x y) inputs))) v' → Rows (λ row. turned x.inverted (bit v row)) w →
      Rows (λ row. turned y.inverted (bit v' row)) w' → Rows (λ row. meet k (bit w row) (bit w' row)) t →
      ◌≡◌ {A = Lut} (record { net = 0; count = count x y; inputs = inputs; truth = bit_and t (2 ^ 2 ^ count x y - 1) })
      (lut_of (merged k (operand_of x) (operand_of y)))
  unfolding merged
  merged_is k {v} {v'} {w} {w'} {t} p p' q q' e = λ j. record { net = 0; count = sym codes_count j; inputs = i j; truth = truth_is j }
    where
      low : (row : ℕ) → row < 2 ^ count x y → row < 64
      low row l = omega (arith, pow_mono {i = count x y} {j = 6} m.fits)

      value : ℕ → Bool
      value row = meet k (operand_at x (sorted (codes x y)) row) (operand_at y (sorted (codes x y)) row)

      left : Rows (operand_at x (sorted (codes x y))) w
      left = operand_is x (sorted (codes x y)) (rw codes_are at p) q

      right : Rows (operand_at y (sorted (codes x y))) w'
      right = operand_is y (sorted (codes x y)) (rw codes_are at p') q'

      truth_is : bit_and t (2 ^ 2 ^ count x y - 1) ≡ (merged k (operand_of x) (operand_of y)).truth
      truth_is =
          rows_of value t (2 ^ count x y) (λ row l. e.bits row (low row l) ∙ ap₂ (meet k) (left.bits row (low row l)) (right.bits row (low row l)))
          ∙ ap (λ n. truth_of value (2 ^ n)) (sym codes_count)

-- ---- the table of the other value

-- a one for each row
pub ones_are : (n : ℕ) → n ≤ input_room → (2 ^ 64 - 1) / 2 ^ (64 - 1 * 2 ^ n % 2 ^ 64) ≡ 2 ^ 2 ^ n - 1
ones_are n l =
    ap (λ m. (2 ^ 64 - 1) / 2 ^ (64 - m)) (rows_are n l) ∙ ap (λ m. (2 ^ m - 1) / 2 ^ (64 - 2 ^ n)) all
    ∙ ap (λ m. m / 2 ^ (64 - 2 ^ n)) (ones_split (2 ^ n) (64 - 2 ^ n)) ∙ high (2 ^ 2 ^ n - 1) (64 - 2 ^ n) (ones_lt (64 - 2 ^ n))
  where
    all : 64 ≡ 2 ^ n + (64 - 2 ^ n)
    all = omega (arith, pow_mono {i = n} {j = 6} l)

module _ (n : ℕ) (xs : List ℕ) (f : (ℕ → Bool) → Bool) where
  pub tabled_record : length xs ≤ input_room → Tabled (lut_of (tabled n xs f))
  tabled_record l = record { fits = l; small = truth_of_lt (λ i. f (λ c. bit i (place c xs))) (2 ^ length xs) }

  -- its value is turned over
  pub tabled_inverted : inverted_of (lut_of (tabled n xs f)) ≡ lut_of (tabled n xs (λ e. turned true (f e)))
  tabled_inverted = λ j. record { net = n; count = length xs; inputs = padded xs; truth = turned_over_lem j }
    where
      rows : ℕ
      rows = 2 ^ length xs

      value : ℕ → Bool
      value i = f (λ c. bit i (place c xs))

      turned_over_lem : truth_of (λ i. not (bit (truth_of value rows) i)) rows ≡ truth_of (λ i. turned true (value i)) rows
      turned_over_lem =
          truth_of_only (λ i. not (bit (truth_of value rows) i)) rows (truth_of (λ i. turned true (value i)) rows) (truth_of_lt (λ i. turned true (value i)) rows)
          (λ i l. bit_truth_of (λ i. turned true (value i)) rows i l ∙ turned_not (value i) ∙ ap not (sym (bit_truth_of value rows i l)))
