-- Laws of what tables work out, values and levels: a table made for a function has its value; a code that no table writes keeps
-- what it has; and what a table holds goes on holding where no later table writes what it uses.
use Rattle.std.specs.Prelude.{ℕ, zero, suc, ◌+◌, ◌^◌, ◌≤◌, ◌<◌, ◌≡◌, refl, Bool, cond, List, [], ◌∷◌, ◌++◌, map, length}
use Rattle.std.proofs.Common.{arith, sym, ap, ap₂, ◌∙◌}
use mathlib.Core.List.Memᴰ
use Rattle.std.proofs.lemmas.List.{length-map}
use Rattle.lists.specs.Cases.{by_eqb}
use Rattle.lists.specs.Trusted.Lists.{◌∈◌, first, later, Every}
use Rattle.lists.specs.ListLaws.{not_first, every_none, every_cons, every_head, every_tail, every_left, every_right}
use Rattle.cover.specs.Trusted.Bits.{bit, index, place}
use Rattle.cover.specs.BitLaws.{bit_truth_of, index_lt, bit_index}
use Rattle.cover.specs.Trusted.Tables.{LookupTable, output, tabled, Placed, numbered, driven, put, writes, step, run, settled}

-- `d` and `e` have the same at the codes
abbrev pub Agree : {A : Type 0} → (ℕ → A) → (ℕ → A) → List ℕ → Type 0
Agree d e = Every (λ c. d c ≡ e c)

pub map_same : {A : Type 0} (d e : ℕ → A) (xs : List ℕ) → Agree d e xs → map d xs ≡ map e xs
map_same d e [] h = refl
map_same d e (x ∷ xs) h = ap₂ ◌∷◌ (every_head h) (map_same d e xs (every_tail h))

-- a table's value is made of its inputs' values
pub output_same : (r : LookupTable) (d e : ℕ → Bool) → Agree d e r.inputs → output r d ≡ output r e
output_same r d e h = ap (λ bs. bit r.truth (index bs)) (map_same d e r.inputs h)

-- a table made for `f` has the value `f`, where `f` looks at nothing but the inputs
pub tabled_output : (n : ℕ) (xs : List ℕ) (f : (ℕ → Bool) → Bool) → ((d e : ℕ → Bool) → Agree d e xs → f d ≡ f e) →
    (e : ℕ → Bool) → output (tabled n xs f) e ≡ f e
tabled_output n xs f same e =
    bit_truth_of (λ i. f (λ c. bit i (place c xs))) (2 ^ length xs) (index (map e xs)) (rw length-map at (index_lt (map e xs)))
    ∙ same (λ c. bit (index (map e xs)) (place c xs)) e (λ c m. bit_index e c xs m)

pub put_in : {A : Type 0} (xs : List ℕ) (b : A) (e : ℕ → A) → Every (λ c. put xs b e c ≡ b) xs
put_in [] b e = every_none _
put_in (x ∷ xs) b e = λ c m. by_eqb (λ t. cond t b (put xs b e c) ≡ b) c x (λ q. refl) (λ n. put_in xs b e c (not_first n m))

put_out : {A : Type 0} (xs : List ℕ) (b : A) (e : ℕ → A) (c : ℕ) → ¬ (c ∈ xs) → put xs b e c ≡ e c
put_out [] b e c h = refl
put_out (x ∷ xs) b e c h = by_eqb (λ t. cond t b (put xs b e c) ≡ e c) c x (λ q. absurd (h (first q))) (λ n. put_out xs b e c (λ m. h (later m)))

-- what a code has, where the same is put and it had the same
pub put_same : {A : Type 0} (xs : List ℕ) (a b : A) (d e : ℕ → A) (c : ℕ) → a ≡ b → (¬ (c ∈ xs) → d c ≡ e c) → put xs a d c ≡ put xs b e c
put_same [] a b d e c f h = h Memᴰ.not-nil
put_same (x ∷ xs) a b d e c f h =
    by_eqb (λ t. cond t a (put xs a d c) ≡ cond t b (put xs b e c)) c x (λ q. f) (λ n. put_same xs a b d e c f (λ m. h (λ i. m (not_first n i))))

pub in_driven : (n : ℕ) → 0 < n → n ∈ driven n
in_driven zero h = absurd (omega arith)
in_driven (suc n) h = first refl

pub driven_in : (n : ℕ) → Every (λ c. (c ≡ n) × (0 < n)) (driven n)
driven_in zero = every_none _
driven_in (suc n) = every_cons (refl, omega arith) (every_none _)

pub numbered_append : (n m : ℕ) (xs ys : List LookupTable) → n + length xs ≡ m → numbered n (xs ++ ys) ≡ numbered n xs ++ numbered m ys
numbered_append n m [] ys e = ap (λ i. numbered i ys) (omega arith)
numbered_append n m (x ∷ xs) ys e = ap (◌∷◌ (suc n, x)) (numbered_append (suc n) m xs ys (omega arith))

pub numbered_length : (n : ℕ) (rs : List LookupTable) → length (numbered n rs) ≡ length rs
numbered_length n [] = refl
numbered_length n (r ∷ rs) = ap suc (numbered_length (suc n) rs)

-- each is a table of the list, and its number is above n, and not past the list's end
pub numbered_is : (n : ℕ) (rs : List LookupTable) → Every (λ p. (n < p.0) × (p.0 ≤ n + length rs) × (p.1 ∈ rs)) (numbered n rs)
numbered_is n [] = every_none _
numbered_is n (r ∷ rs) = every_cons (omega arith, omega arith, first refl)
    (λ p m. let h = numbered_is (suc n) rs p m in (omega arith, omega arith, later h.2))

-- a number is that of one table
pub numbered_one : (n : ℕ) (rs : List LookupTable) (p q : Placed) → p ∈ numbered n rs → q ∈ numbered n rs → p.0 ≡ q.0 → p ≡ q
numbered_one n [] p q x3 _ h = elim x3 [ ]
numbered_one n (r ∷ rs) p q (first e) (first f) h = e ∙ sym f
numbered_one n (r ∷ rs) p q (first e) (later j) h = absurd (omega (arith, ap (λ x. x.0) e, (numbered_is (suc n) rs q j).0))
numbered_one n (r ∷ rs) p q (later i) (first f) h = absurd (omega (arith, ap (λ x. x.0) f, (numbered_is (suc n) rs p i).0))
numbered_one n (r ∷ rs) p q (later i) (later j) h = numbered_one (suc n) rs p q i j h

-- what holds of numbered tables holds of the tables
pub every_numbered : (P : LookupTable → Type 0) (n : ℕ) (ts : List LookupTable) → Every (λ p. P p.1) (numbered n ts) → Every P ts
every_numbered P n [] h = every_none _
every_numbered P n (t ∷ ts) h = every_cons (every_head h) (every_numbered P (suc n) ts (every_tail h))

module _ (base : ℕ) where
  -- the codes that a table writes or reads
  abbrev pub uses : Placed → List ℕ
  uses p = writes base p ++ p.1.inputs

  -- `q` writes no code that `p` writes or reads
  abbrev pub Untouched : Placed → Placed → Type 0
  Untouched p q = Every (λ c. ¬ (c ∈ writes base q)) (uses p)

  -- of values and of levels
  module _ {A : Type 0} (f : LookupTable → (ℕ → A) → A) where
    -- a part goes on from where its beginning ends
    pub run_append : (ps qs : List Placed) (e : ℕ → A) → run base f (ps ++ qs) e ≡ run base f qs (run base f ps e)
    run_append [] qs e = refl
    run_append (p ∷ ps) qs e = run_append ps qs (step base f p e)

    -- a code that no table writes keeps what it has
    pub run_keeps : (ps : List Placed) (e : ℕ → A) (c : ℕ) → Every (λ p. ¬ (c ∈ writes base p)) ps → run base f ps e c ≡ e c
    run_keeps [] e c h = refl
    run_keeps (p ∷ ps) e c h = run_keeps ps (step base f p e) c (every_tail h) ∙ put_out (writes base p) (f p.1 e) e c (every_head h)

    -- in `e`, the codes that the table writes have what it works out
    abbrev pub ResultsHold : (ℕ → A) → Placed → Type 0
    ResultsHold e p = Every (λ c. e c ≡ f p.1 e) (writes base p)

    -- where `f` looks at nothing but the inputs
    module _ (same : (r : LookupTable) (d e : ℕ → A) → Agree d e r.inputs → f r d ≡ f r e) where
      -- what holds goes on holding
      pub holds_on : (p : Placed) (ps : List Placed) (e : ℕ → A) → Every (Untouched p) ps → ResultsHold e p → ResultsHold (run base f ps e) p
      holds_on p ps e clear h c m =
          every_left (writes base p) p.1.inputs keep c m ∙ h c m
          ∙ sym (same p.1 (run base f ps e) e (every_right (writes base p) p.1.inputs keep))
        where
          keep : Agree (run base f ps e) e (uses p)
          keep x i = run_keeps ps e x (λ q j. clear q j x i)

      -- where no table writes what it or an earlier one reads, or what an earlier one writes, in the end every table holds
      pub run_holds : (n : ℕ) (rs : List LookupTable) (e : ℕ → A) →
          Every (λ p. Every (λ c. ¬ (c ∈ writes base p)) p.1.inputs) (numbered n rs) →
          Every (λ p. Every (λ q. p.0 < q.0 → Untouched p q) (numbered n rs)) (numbered n rs) →
          Every (ResultsHold (run base f (numbered n rs) e)) (numbered n rs)
      run_holds n [] e own clear = every_none _
      run_holds n (r ∷ rs) e own clear =
          every_cons (holds_on p (numbered (suc n) rs) (step base f p e) (λ q m. every_tail (every_head clear) q m (numbered_is (suc n) rs q m).0) now)
          (run_holds (suc n) rs (step base f p e) (every_tail own) (λ q m. every_tail (every_tail clear q m)))
        where
          p : Placed
          p = (suc n, r)

          now : ResultsHold (step base f p e) p
          now c m =
              put_in (writes base p) (f r e) e c m
              ∙ sym (same r (step base f p e) e (λ x i. put_out (writes base p) (f r e) e x (every_head own x i)))

  -- in the values `e`, the codes that the table writes have the table's value
  abbrev pub ValuesHold : (ℕ → Bool) → Placed → Type 0
  ValuesHold = ResultsHold output

  pub settled_append : (xs ys : List LookupTable) (σ : ℕ → Bool) →
      settled base (xs ++ ys) σ ≡ run base output (numbered (length xs) ys) (settled base xs σ)
  settled_append xs ys σ =
      ap (λ ps. run base output ps σ) (numbered_append 0 (length xs) xs ys (omega arith)) ∙ run_append output (numbered 0 xs) (numbered (length xs) ys) σ
