-- THE LEVEL OF THE ROOT'S TABLE in a part's list, after a sheet is added, is the root level of the sheet's cover; the output net has
-- it, too, and no other net's level changes.
-- As for values: in the end each new table holds, and where the tables hold, a gate's table has the level of the cover's part under it.
use Rattle.std.specs.Prelude.{ℕ, zero, suc, ◌+◌, ◌-◌, ◌≤◌, ◌<◌, max, ◌≡◌, refl, ◌⊎◌, ◌≢◌, Bool, false, List, [], ◌∷◌, ◌++◌, map, length, get_or}
use Rattle.std.proofs.Common.{arith, sym, ap, ◌∙◌, inl, inr, ⊎_elim}
use Rattle.lists.specs.Trusted.Lists.{first, later, Every, Inserted, here, there, Permuted, empty, more}
use Rattle.lists.specs.ListLaws.{every_cons, every_head, every_left, every_right, permuted_to}
use Rattle.lists.specs.NumberLaws.{sorted_permuted}
use Rattle.tree.specs.declared.Kind.{Kind}
use Rattle.cover.specs.Trusted.Cover.{Cover, net, top, Fanins, end, old, new, pick, Rooted, rooted}
use Rattle.cover.specs.Trusted.Tables.{LookupTable, greatest, table_level, Placed, numbered, driven, writes, step, run, code_levels, levels_from, levels_after}
use Rattle.cover.specs.Trusted.Placed.{root_number, placed, code, codes, codes*, gate_table, records, records*}
use Rattle.cover.specs.Trusted.CoverTables.{Circuit, CoverTables}
use Rattle.cover.specs.Eval.{Agree, put_in, in_driven, driven_in, numbered_is, run_keeps, ResultsHold, run_holds}
use Rattle.cover.specs.LevelLaws.{level_same, codes_after}
use Rattle.cover.proofs.Inputs.{root_in}
use Rattle.cover.specs.Legal.{Legal}
use Rattle.cover.proofs.CoverTableLaws.{added_tidy}
use Rattle.cover.proofs.CoverValueLaws.{new_low}
use Rattle.levels.specs.Trusted.Levels.{level, levels, Fastest}
use Rattle.levels.specs.Trusted.LevelTables.{FastestCoverTables}
use Rattle.levels.proofs.SameLaws.{split_level}

-- ---- the greatest of some levels

module _ (e : ℕ → ℕ) where
  greatest_append : (xs ys : List ℕ) → greatest (map e (xs ++ ys)) ≡ max (greatest (map e xs)) (greatest (map e ys))
  greatest_append [] ys = omega arith
  greatest_append (x ∷ xs) ys = omega (arith, greatest_append xs ys)

  greatest_inserted : {x : ℕ} {xs ys : List ℕ} → Inserted x xs ys → greatest (map e xs) ≡ max (e x) (greatest (map e ys))
  greatest_inserted here = refl
  greatest_inserted (there i) = omega (arith, greatest_inserted i)

  greatest_permuted : {xs ys : List ℕ} → Permuted xs ys → greatest (map e xs) ≡ greatest (map e ys)
  greatest_permuted empty = refl
  greatest_permuted (more i p) = omega (arith, greatest_inserted i, greatest_permuted p)

-- ---- where the tables hold, a gate has the level of the cover's part under it

module _ (base : ℕ) (e : ℕ → ℕ) where
  -- in the levels `e`, the codes that the table writes have the table's level
  abbrev LevelsHold : Placed → Type 0
  LevelsHold = ResultsHold base table_level e

  -- a gate's table reads the gate's codes, sorted
  gate_table_lem : (n : ℕ) (v : Bool) (k : Kind) (fs : Fanins) → table_level (gate_table base n v k fs) e ≡ suc (greatest (map e (codes* base fs)))
  gate_table_lem n v k fs = ap suc (sym (greatest_permuted e (sorted_permuted (codes* base fs))))

  -- read through its table or held
  gate_level : (m : ℕ) (k : Kind) (fs : Fanins) → (Every LevelsHold (records* base fs k) → greatest (map e (codes* base fs)) ≡ levels e fs) →
      Every LevelsHold (records* base fs k ++ placed m (gate_table base 0 false k fs)) →
      greatest (map e (code base m (codes* base fs))) ≡ pick m (levels e fs) (1 + levels e fs)
  gate_level zero k fs g h = g (every_left (records* base fs k) [] h)
  gate_level (suc m) k fs g h =
      let own = placed (suc m) (gate_table base 0 false k fs) in
      omega (
        arith,
        g (every_left (records* base fs k) own h),
        gate_table_lem 0 false k fs,
        every_head (every_head (every_right (records* base fs k) own h)),
      )

  mutual
    codes_level : (c : Cover) → Every LevelsHold (records base c 0 false) → greatest (map e (codes base c)) ≡ level e c
    codes_level (net n) h = omega arith
    codes_level (top m k fs) h = gate_level m k fs (λ g. codes_levels fs k g) h

    codes_levels : (fs : Fanins) (k : Kind) → Every LevelsHold (records* base fs k) → greatest (map e (codes* base fs)) ≡ levels e fs
    codes_levels end k h = refl
    codes_levels (old i c fs) k h =
        let ps = records base c 0 false in
        let qs = records* base fs k in
        omega (
          arith,
          greatest_append e (codes base c) (codes* base fs),
          codes_level c (every_left ps qs h),
          codes_levels fs k (every_right ps qs h),
        )
    codes_levels (new m s fs) k h =
        let ps = records* base s k ++ placed m (gate_table base 0 false k s) in
        let qs = records* base fs k in
        omega (
          arith,
          greatest_append e (code base m (codes* base s)) (codes* base fs),
          gate_level m k s (λ g. codes_levels s k g) (every_left ps qs h),
          codes_levels fs k (every_right ps qs h),
        )

  -- and so has the root
  root_codes : {c : Cover} (n : ℕ) (v : Bool) → Rooted c → Every LevelsHold (records base c n v) →
      Every (λ x. e x ≡ level e c) ((base + root_number c) ∷ driven n)
  root_codes n v (rooted {n = m} {k = k} {fs = fs}) h =
      let own = placed (suc m) (gate_table base n v k fs) in
      let g = codes_levels fs k (every_left (records* base fs k) own h) in
      λ x i. omega (arith, gate_table_lem n v k fs, every_head (every_right (records* base fs k) own h) x i)

-- the last of some tables has the level of its code
last_level : (base : ℕ) (e : ℕ → ℕ) (n : ℕ) (rs : List LookupTable) → 0 < length rs →
    get_or (levels_from base e (numbered n rs)) (length rs - 1) 0 ≡ run base table_level (numbered n rs) e (base + (n + length rs))
last_level base e n [] h = absurd (omega arith)
last_level base e n (r ∷ []) h = sym (put_in (writes base (suc n, r)) (table_level r e) e (base + (n + 1)) (first (omega arith)))
last_level base e n (r ∷ q ∷ rs) h =
    let i : suc (suc (length rs)) - 1 ≡ suc (suc (length rs) - 1) = omega arith in
    let j : n + suc (suc (length rs)) ≡ suc n + suc (length rs) = omega arith in
    rw (i, j) (last_level base (step base table_level (suc n, r) e) (suc n) (q ∷ rs) (omega arith))

-- ---- a sheet that is added

module _ {base K : ℕ} {old new : List LookupTable} {s : Circuit} (a : CoverTables base K old new s) where
  -- a new table writes its own code and, if it is the root's, the output net
  added_writes : Every (λ p. Every (λ x. (x ≡ base + p.0) ⊎ ((x ≡ s.out) × (p.0 ≡ root_number a.cover))) (writes base p)) (numbered (length old) new)
  added_writes p m =
      every_cons (inl refl)
      (λ x i.
      let d = driven_in p.1.drives x i in
      ⊎_elim (λ z. absurd (omega arith)) (λ f. inr (d.0 ∙ f.0, f.1)) (added_tidy base K old new s a p m).0)

  -- so the level of every other net, and of every table before them, is as it was
  pub added_keeps : (x : ℕ) → x ≤ base + length old → x ≢ s.out → code_levels base (old ++ new) x ≡ code_levels base old x
  added_keeps x l n =
      ap (λ e. e x) (codes_after base old new)
      ∙ run_keeps base table_level (numbered (length old) new) (code_levels base old) x
      (λ p m i. ⊎_elim (λ q. omega (arith, (numbered_is (length old) new p m).0)) (λ f. n f.0) (added_writes p m x i))

  added_some : 0 < length new
  added_some =
      let r = root_in base s.out s.inverted a.covers.root in
      let i = permuted_to a.taken (λ q j. j) (root_number a.cover, r.0) r.1 in
      omega (arith, a.last, (numbered_is (length old) new (root_number a.cover, r.0) i).0)

module _ {base K : ℕ} {old new : List LookupTable} {s : Circuit} (legal : Legal base s) (a : CoverTables base K old new s) where
  -- whatever tables work out, values or levels, each new one holds in the end
  added_holds : {A : Type 0} (f : LookupTable → (ℕ → A) → A) →
      ((r : LookupTable) (d e : ℕ → A) → Agree d e r.inputs → f r d ≡ f r e) → (e : ℕ → A) →
      Every (ResultsHold base f (run base f (numbered (length old) new) e)) (numbered (length old) new)
  added_holds f same e =
      run_holds base f same (length old) new e
      (λ p m x i j. ⊎_elim (λ q. let l = a.earlier p m x i in omega arith) (λ q. unread p m x i q.0) (added_writes a p m x j))
      (λ p m q n l x i j.
      let u = new_low base K old new s legal a p m x i in
      ⊎_elim (λ f. omega (arith, u.0)) (λ f. omega (arith, u.1 f.0)) (added_writes a q n x j))
    where
      unread : Every (λ p. Every (λ x. x ≢ s.out) p.1.inputs) (numbered (length old) new)
      unread p m x i = ⊎_elim (λ l. (legal.leaf_nets_lem x l).2) (λ r. omega (arith, r.1, legal.out_net)) ((added_tidy base K old new s a p m).1 x i)

  root_written : Every (λ x. code_levels base (old ++ new) x ≡ level (code_levels base old) a.cover) ((base + root_number a.cover) ∷ driven s.out)
  root_written x i =
      root_codes base (code_levels base (old ++ new)) s.out s.inverted a.covers.root
      (permuted_to a.taken (rw (codes_after base old new) (added_holds table_level level_same (code_levels base old)))) x i
      ∙ split_level (code_levels base (old ++ new)) (code_levels base old) a.covers.split
      (λ y m. let l = legal.leaf_nets_lem y m in added_keeps a y (omega arith) l.2)

  -- the output net's level
  pub out_level : code_levels base (old ++ new) s.out ≡ level (code_levels base old) a.cover
  out_level = root_written s.out (later (in_driven s.out legal.out_net.0))

  -- and that of the last new table, which is the root's
  pub root_level : get_or (levels_after base old new) (length new - 1) 0 ≡ level (code_levels base old) a.cover
  root_level =
      last_level base (code_levels base old) (length old) new (added_some a)
      ∙ ap (λ e. e (base + (length old + length new))) (sym (codes_after base old new))
      ∙ root_written (base + (length old + length new)) (first (ap (λ m. base + m) (sym a.last)))

-- So where the cover is a fastest one, the output net's level is the least root level.
pub fastest_out : {base K : ℕ} {old new : List LookupTable} {s : Circuit} → Legal base s → FastestCoverTables base K old new s →
    Fastest (code_levels base old) K s.tree (length new) (code_levels base (old ++ new) s.out)
fastest_out legal f = rw (out_level legal f.added) f.fastest
