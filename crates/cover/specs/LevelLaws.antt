-- Laws of levels: those of tables stay as they were when tables follow; a table's level is above that of all that it reads; and none is
-- above the number of tables.
use Rattle.std.specs.Prelude.{ℕ, zero, suc, ◌+◌, ◌≤◌, ◌<◌, ◌≡◌, refl, cond, List, [], ◌∷◌, ◌++◌, map, length, get_or, take}
use Rattle.std.proofs.Common.{arith, sym, ap, ap₂, ◌∙◌, append_assoc, append-nil, length-append}
use mathlib.Core.List.Memᴰ
use Rattle.lists.specs.Cases.{by_eqb}
use Rattle.lists.specs.Trusted.Lists.{◌∈◌, Every}
use Rattle.lists.specs.ListLaws.{every_none, every_cons}
use Rattle.cover.specs.Trusted.Tables.{LookupTable, greatest, table_level, Placed, numbered, put, writes, step, run, code_levels, levels_from, levels_of, levels_after}
use Rattle.cover.specs.Eval.{Agree, map_same, put_in, numbered_append, run_append, run_keeps}

-- ---- the greatest of some numbers

greatest_above : (xs : List ℕ) → Every (λ x. x ≤ greatest xs) xs
greatest_above [] = every_none _
greatest_above (x ∷ xs) = every_cons (omega arith) (λ y m. let h = greatest_above xs y m in omega arith)

pub greatest_most : (n : ℕ) (e : ℕ → ℕ) → ((c : ℕ) → e c ≤ n) → (xs : List ℕ) → greatest (map e xs) ≤ n
greatest_most n e h [] = omega arith
greatest_most n e h (x ∷ xs) = omega (arith, h x, greatest_most n e h xs)

-- ---- a table's level

-- a table's level is made of its inputs' levels
pub level_same : (r : LookupTable) (d e : ℕ → ℕ) → Agree d e r.inputs → table_level r d ≡ table_level r e
level_same r d e h = ap (λ ls. suc (greatest ls)) (map_same d e r.inputs h)

-- it is above every input's
level_above : (r : LookupTable) (e : ℕ → ℕ) → Every (λ x. e x < table_level r e) r.inputs
level_above r e x m = let h = greatest_above (map e r.inputs) (e x) (Memᴰ.map e m) in omega arith

module _ (base : ℕ) where
  levels_append : (e : ℕ → ℕ) (ps qs : List Placed) → levels_from base e (ps ++ qs) ≡ levels_from base e ps ++ levels_from base (run base table_level ps e) qs
  levels_append e [] qs = refl
  levels_append e (p ∷ ps) qs = ap (◌∷◌ (table_level p.1 e)) (levels_append (step base table_level p e) ps qs)

  -- APPENDING TABLES leaves the levels before them as they were
  pub levels_after_lem : (old new : List LookupTable) → levels_of base (old ++ new) ≡ levels_of base old ++ levels_after base old new
  levels_after_lem old new =
      ap (levels_from base (λ c. 0)) (numbered_append 0 (length old) old new (omega arith)) ∙ levels_append (λ c. 0) (numbered 0 old) (numbered (length old) new)

  -- the levels of the codes go on from where those of the beginning end
  pub codes_after : (old new : List LookupTable) → code_levels base (old ++ new) ≡ run base table_level (numbered (length old) new) (code_levels base old)
  codes_after old new =
      ap (λ ps. run base table_level ps (λ c. 0)) (numbered_append 0 (length old) old new (omega arith))
      ∙ run_append base table_level (numbered 0 old) (numbered (length old) new) (λ c. 0)

  pub levels_length : (e : ℕ → ℕ) (n : ℕ) (rs : List LookupTable) → length (levels_from base e (numbered n rs)) ≡ length rs
  levels_length e n [] = refl
  levels_length e n (r ∷ rs) = ap suc (levels_length (step base table_level (suc n, r) e) (suc n) rs)

  -- one more table at the front of those that follow
  after_front : (old : List LookupTable) (t : LookupTable) (new : List LookupTable) →
      levels_after base old (t ∷ new) ≡ table_level t (code_levels base old) ∷ levels_after base (old ++ t ∷ []) new
  after_front old t new =
      let n : suc (length old) ≡ length (old ++ t ∷ []) = simp length-append (omega arith) in
      ap (◌∷◌ (table_level t (code_levels base old))) (ap₂ (λ e m. levels_from base e (numbered m new)) (sym (codes_after old (t ∷ []))) n)

  -- the level of each of them
  pub levels_at : (old new : List LookupTable) (i : ℕ) (z : LookupTable) → i < length new →
      get_or (levels_after base old new) i 0 ≡ table_level (get_or new i z) (code_levels base (old ++ take i new))
  levels_at old [] i z h = absurd (omega arith)
  levels_at old (t ∷ new) zero z h = ap (λ ts. table_level t (code_levels base ts)) (sym (append-nil old))
  levels_at old (t ∷ new) (suc i) z h =
      ap (λ ls. get_or ls (suc i) 0) (after_front old t new) ∙ levels_at (old ++ t ∷ []) new i z (omega arith)
      ∙ ap (λ ts. table_level (get_or new i z) (code_levels base ts)) (append_assoc old (t ∷ []) (take i new))

  -- ---- none is above the number of tables

  put_most : (n : ℕ) (xs : List ℕ) (b : ℕ) (e : ℕ → ℕ) → b ≤ n → ((c : ℕ) → e c ≤ n) → (c : ℕ) → put xs b e c ≤ n
  put_most n [] b e l h c = h c
  put_most n (x ∷ xs) b e l h c = by_eqb (λ t. cond t b (put xs b e c) ≤ n) c x (λ q. l) (λ q. put_most n xs b e l h c)

  -- after one more table
  level_most : (n : ℕ) (r : LookupTable) (e : ℕ → ℕ) → ((c : ℕ) → e c ≤ n) → table_level r e ≤ suc n
  level_most n r e h = let l = greatest_most n e h r.inputs in omega arith

  step_most : (n : ℕ) (p : Placed) (e : ℕ → ℕ) → ((c : ℕ) → e c ≤ n) → (c : ℕ) → step base table_level p e c ≤ suc n
  step_most n p e h = put_most (suc n) (writes base p) (table_level p.1 e) e (level_most n p.1 e h) (λ c. let l = h c in omega arith)

  run_most : (n : ℕ) (e : ℕ → ℕ) → ((c : ℕ) → e c ≤ n) → (rs : List LookupTable) (c : ℕ) → run base table_level (numbered n rs) e c ≤ n + length rs
  run_most n e h [] c = let l = h c in omega arith
  run_most n e h (r ∷ rs) c =
      let l = run_most (suc n) (step base table_level (suc n, r) e) (step_most n (suc n, r) e h) rs c in omega arith

  -- THE GREATEST LEVEL is at most the number of tables: of a code, and of a table
  pub codes_most : (rs : List LookupTable) (c : ℕ) → code_levels base rs c ≤ length rs
  codes_most rs c = let l = run_most 0 (λ c. 0) (λ c. omega arith) rs c in omega arith

  from_most : (n : ℕ) (e : ℕ → ℕ) → ((c : ℕ) → e c ≤ n) → (rs : List LookupTable) → Every (λ l. l ≤ n + length rs) (levels_from base e (numbered n rs))
  from_most n e h [] = every_none _
  from_most n e h (r ∷ rs) =
      every_cons (let l = level_most n r e h in omega arith)
      (λ l m. let b = from_most (suc n) (step base table_level (suc n, r) e) (step_most n (suc n, r) e h) rs l m in omega arith)

  pub levels_most : (rs : List LookupTable) → Every (λ l. l ≤ length rs) (levels_of base rs)
  levels_most rs l m = let h = from_most 0 (λ c. 0) (λ c. omega arith) rs l m in omega arith

  -- ---- A TABLE IS ABOVE ALL THAT IT READS

  -- a code that r writes, and no table of `mid` after it, has the level of r
  written_level : (old mid : List LookupTable) (r : LookupTable) (x : ℕ) → x ∈ writes base (suc (length old), r) →
      Every (λ p. ¬ (x ∈ writes base p)) (numbered (suc (length old)) mid) → code_levels base (old ++ r ∷ mid) x ≡ table_level r (code_levels base old)
  written_level old mid r x m h =
      ap (λ e. e x) (codes_after old (r ∷ mid))
      ∙ run_keeps base table_level (numbered (suc (length old)) mid) (step base table_level (suc (length old), r) (code_levels base old)) x h
      ∙ put_in (writes base (suc (length old), r)) (table_level r (code_levels base old)) (code_levels base old) x m

  -- so a later table that reads it is above r
  pub reader_above : (old mid : List LookupTable) (r s : LookupTable) (x : ℕ) → x ∈ s.inputs → x ∈ writes base (suc (length old), r) →
      Every (λ p. ¬ (x ∈ writes base p)) (numbered (suc (length old)) mid) → table_level r (code_levels base old) < table_level s (code_levels base (old ++ r ∷ mid))
  reader_above old mid r s x i m h = let l = level_above s (code_levels base (old ++ r ∷ mid)) x i in omega (arith, l, written_level old mid r x m h)
