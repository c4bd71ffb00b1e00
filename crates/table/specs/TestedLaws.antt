-- The tests of RecordTest say what Sound says: of a run of records the first bad one is found, and a part that passes is sound.
use Rattle.std.specs.Prelude.{ℕ, suc, ◌+◌, ◌≤◌, ◌≡◌, refl, cond, ◌&&◌, List, [], ◌∷◌, ◌++◌, ltb, eqb, length, take, drop}
use Rattle.std.proofs.Common.{arith, sym, subst, inl, inr, ⊎_elim, append_assoc, append-nil, length-append, take-append-drop}
use Rattle.std.proofs.lemmas.List.{take-append-le}
use Rattle.std.proofs.Math.Seq.{take-append-add}
use Rattle.lists.specs.ListLaws.{every_none}
use Rattle.lists.specs.Trusted.Tests.{within}
use Rattle.lists.specs.TestLaws.{reflects_le, reflects_lt, reflects_eq, reflects_map, reflects_not, reflects_and, reflects_or, reflects_all, reflects_elem, reflects_pairwise, reflects_within, by_reflects}
use Rattle.lists.specs.Trusted.Tests.{Reflects}
use Rattle.tree.specs.Trusted.Limits.{greatest_net, code_base}
use Rattle.table.specs.Trusted.Limits.{input_room, table_room, KRange, CapacityRange}
use Rattle.table.specs.Trusted.Records.{reads, level_after}
use Rattle.table.specs.Trusted.Rules.{AllZero, Blank, Coded, Sized, Fine, FirstBad}
use Rattle.table.specs.RuleLaws.{Known, Clear, Unclaimed, Points, Keeps, rules_snoc, rules_keeps, rules_prefix}
use Rattle.table.specs.Trusted.RecordTest.{all_zero, is_blank, is_coded, is_sized, sourced, clear, unclaimed, keeps_points, keeps, Verdict, none, bad, refused, walk, tested, Says, is_none}
use Rattle.table.specs.declared.Table.{Table}

-- ---- one record

zero_reflects : (xs : List ℕ) → Reflects (all_zero xs) (AllZero xs)
zero_reflects = reflects_all (λ x. eqb x 0) (λ x. reflects_eq x 0)

pub blank_reflects : (r : Table) → Reflects (is_blank r) (Blank r)
blank_reflects r =
    reflects_map (λ h. record { net = h.0; count = h.1.0; inputs = h.1.1.0; truth = h.1.1.1.0; level = h.1.1.1.1 })
    (λ h. (h.net, (h.count, (h.inputs, (h.truth, h.level)))))
    (reflects_and (reflects_eq r.net 0) (reflects_and (reflects_eq r.count 0) (reflects_and (zero_reflects r.inputs)
    (reflects_and (reflects_eq r.truth 0) (reflects_eq r.level 0)))))

coded_reflects : (r : Table) → Reflects (is_coded r) (Coded r)
coded_reflects r =
    reflects_and (reflects_le r.net greatest_net) (reflects_all _ (λ x. reflects_or (reflects_within 1 greatest_net x) (reflects_lt code_base x)) (reads r))

sized_reflects : (k : ℕ) (r : Table) → Reflects (is_sized k r) (Sized k r)
sized_reflects k r =
    reflects_map (λ h. (h.0, h.1.0, h.1.1.0, h.1.1.1)) (λ h. (h.0, (h.1, (h.2, h.3))))
    (reflects_and (reflects_le 2 r.count) (reflects_and (reflects_le r.count k)
    (reflects_and (reflects_pairwise ltb reflects_lt (reads r)) (reflects_lt r.truth _))))

known_reflects : (old : List Table) (x : ℕ) → Reflects (sourced old x) (Known old x)
known_reflects old x = reflects_or (reflects_le x code_base) (reflects_and (reflects_le x (code_base + length old)) (reflects_eq _ 0))

clear_reflects : (n : ℕ) (r : Table) → Reflects (clear n r) (Clear n r)
clear_reflects n r = reflects_and (reflects_not (reflects_eq r.net n)) (reflects_not (reflects_elem n (reads r)))

unclaimed_reflects : (old : List Table) (r : Table) → Reflects (unclaimed old r) (Unclaimed old r)
unclaimed_reflects old r =
    reflects_or (reflects_eq r.net 0)
    (reflects_and (reflects_all (clear r.net) (clear_reflects r.net) old) (reflects_not (reflects_elem r.net (reads r))))

pub points_reflect : (k : ℕ) (old : List Table) (r : Table) → Reflects (keeps_points k old r) (Points k old r)
points_reflect k old r =
    reflects_map (λ h. record { padded = h.0; coded = h.1.0; sized = h.1.1.0; sourced = h.1.1.1.0; unclaimed = h.1.1.1.1 })
    (λ h. (h.padded, (h.coded, (h.sized, (h.sourced, h.unclaimed)))))
    (reflects_and (zero_reflects _) (reflects_and (coded_reflects r) (reflects_and (sized_reflects k r)
    (reflects_and (reflects_all (sourced old) (known_reflects old) (reads r)) (unclaimed_reflects old r)))))

pub keeps_reflects : (k : ℕ) (old : List Table) (r : Table) → Reflects (keeps k old r) (Keeps k old r)
keeps_reflects k old r =
    reflects_map (λ h. record { points = h.0; level = sym h.1 }) (λ h. (h.points, sym h.level))
    (reflects_and (points_reflect k old r) (reflects_eq (level_after old r) r.level))

-- ---- a run of records

module _ (k capacity : ℕ) where
  -- a beginning of a fine run is fine
  pub fine_prefix : (xs ys : List Table) → Fine k capacity (xs ++ ys) → Fine k capacity xs
  fine_prefix xs ys h = record { rules = rules_prefix k xs ys h.rules; fits = omega (arith, simp length-append at h.fits) }

  pub fine_take : (rs : List Table) (m : ℕ) → Fine k capacity rs → Fine k capacity (take m rs)
  fine_take rs m h = fine_prefix (take m rs) (drop m rs) (rw take-append-drop h)

  -- one more record
  snoc_reflects : (before : List Table) (r : Table) → Fine k capacity before →
      Reflects (ltb (length before) capacity && keeps k before r) (Fine k capacity (before ++ r ∷ []))
  snoc_reflects before r f =
      reflects_map (λ h. record { rules = rules_snoc k before r f.rules h.1; fits = simp length-append (omega (arith, h.0)) })
      (λ h. (omega (arith, simp length-append at h.fits), rules_keeps k before r h.rules))
      (reflects_and (reflects_lt (length before) capacity) (keeps_reflects k before r))

  abbrev Walked : List Table → Verdict → Type 0
  Walked rs none = Fine k capacity rs
  Walked rs (bad n) = FirstBad k capacity rs n
  Walked rs (refused n) = ⊥

  take_one_more : (before : List Table) (r : Table) (rs : List Table) → take (suc (length before)) (before ++ r ∷ rs) ≡ before ++ r ∷ []
  take_one_more before r rs = let e : suc (length before) ≡ length before + 1 = omega arith in rw e (take-append-add before (r ∷ rs) 1)

  first_bad : (before : List Table) (r : Table) (rs : List Table) → Fine k capacity before → ¬ (Fine k capacity (before ++ r ∷ [])) →
      FirstBad k capacity (before ++ r ∷ rs) (suc (length before))
  first_bad before r rs f n = record {
    inside = (omega arith, simp length-append (omega arith));
    before = λ m l. let i : m ≤ length before = omega arith in rw (take-append-le m before (r ∷ rs) i) (fine_take before m f);
    bad = rw take_one_more n;
  }

  walk_says : (before rs : List Table) → Fine k capacity before → Walked (before ++ rs) (walk k capacity before rs)
  walk_says before [] f = rw append-nil f
  walk_says before (r ∷ rs) f =
      by_reflects (λ b. Walked (before ++ r ∷ rs) (cond b (walk k capacity (before ++ r ∷ []) rs) (bad (suc (length before)))))
      (snoc_reflects before r f)
      (λ h. subst (λ l. Walked l (walk k capacity (before ++ r ∷ []) rs)) (append_assoc before (r ∷ []) rs) (walk_says (before ++ r ∷ []) rs h))
      (first_bad before r rs f)

  pub no_records : Fine k capacity []
  no_records = record {
    rules = record { padded = every_none _; coded = every_none _; sized = every_none _; sourced = every_none _; driven_once = every_none _; read_after = every_none _; levels = refl };
    fits = omega arith;
  }

  walked_says : KRange k → CapacityRange capacity → (rs : List Table) (v : Verdict) → Walked rs v → Says k capacity rs v
  walked_says g h rs none w = (g, h, w)
  walked_says g h rs (bad n) w = (g, h, w)
  walked_says g h rs (refused n) w = absurd w

  -- THE TEST OF A RUN SAYS what its verdict says
  pub tested_says : (rs : List Table) → Says k capacity rs (tested k capacity rs)
  tested_says rs =
      by_reflects (λ b. Says k capacity rs (cond b (cond (within 1 table_room capacity) (walk k capacity [] rs) (refused 3)) (refused 2)))
      (reflects_within 2 input_room k)
      (λ g. by_reflects (λ b. Says k capacity rs (cond b (walk k capacity [] rs) (refused 3))) (reflects_within 1 table_room capacity)
      (λ h. walked_says g h rs (walk k capacity [] rs) (walk_says [] rs no_records))
      (λ n. inr (refl, g, n)))
      (λ n. inl (refl, n))

  says_none : (rs : List Table) (v : Verdict) → Says k capacity rs v → Reflects (is_none v) (KRange k × CapacityRange capacity × Fine k capacity rs)
  says_none rs none s = record { to = λ t. s; from = λ h. tt }
  says_none rs (bad n) s = record { to = λ t. absurd t; from = λ h. s.2.bad (fine_take rs n h.2) }
  says_none rs (refused n) s = record { to = λ t. absurd t; from = λ h. ⊎_elim (λ g. g.1 h.0) (λ g. g.2 h.1) s }

  pub none_reflects : (rs : List Table) → Reflects (is_none (tested k capacity rs)) (KRange k × CapacityRange capacity × Fine k capacity rs)
  none_reflects rs = says_none rs (tested k capacity rs) (tested_says rs)
