-- The rules of a run of records, record by record: a run keeps them where its beginning does and the records that follow keep
-- to it; and a beginning of a run that keeps them keeps them.
use Prim.Native.Nat.{ℕ, zero, suc, ◌+◌, ◌-◌, ◌≤◌, ◌<◌}
use Rattle.std.proofs.Common.{arith, sym, ap₂, ◌∙◌, inl, inr, take_at, drop_at}
use Rattle.std.specs.Prelude.{◌≡◌, refl, ◌⊎◌, ◌≢◌, List, [], ◌∷◌, ◌++◌, map, get_or, take, drop}
use Rattle.std.proofs.Math.Path.{ap, subst}
use Rattle.std.proofs.Math.Logic.{⊎_elim}
use mathlib.Core.List.Memᴰ
use Rattle.std.proofs.Math.ListN.{length}
use Rattle.std.proofs.lemmas.List.{length-map}
use Rattle.lists.specs.Cases.{by_leb}
use Rattle.lists.specs.Trusted.Lists.{◌∈◌, first, later, Every}
use Rattle.lists.specs.ListLaws.{every_none, every_cons, every_head, every_append, every_left, every_right}
use Rattle.tree.specs.Trusted.Limits.{code_base}
use Rattle.cover.specs.Trusted.Tables.{Placed, numbered, levels_of, levels_after}
use Rattle.cover.specs.LevelLaws.{levels_after_lem, levels_length}
use Rattle.cover.specs.Eval.{numbered_append, numbered_is, numbered_one}
use Rattle.table.specs.Trusted.Records.{reads, table_of, level_after, blank}
use Rattle.table.specs.Trusted.Rules.{NamesTable, Padded, Coded, Sized, Sourced, DrivenOnce, ReadAfter, EveryTwo, places, Rules}
use Rattle.table.specs.declared.Table.{Table}

pub map_append : {A B : Type 0} (f : A → B) (xs ys : List A) → map f (xs ++ ys) ≡ map f xs ++ map f ys
map_append f [] ys = refl
map_append f (x ∷ xs) ys = ap (◌∷◌ (f x)) (map_append f xs ys)

-- the places of records that follow the records `old`
abbrev pub places_after : List Table → List Table → List Placed
places_after old new = numbered (length old) (map table_of new)

pub places_append : (old new : List Table) → places (old ++ new) ≡ places old ++ places_after old new
places_append old new =
    ap (numbered 0) (map_append table_of old new)
    ∙ numbered_append 0 (length old) (map table_of old) (map table_of new) (simp length-map (omega arith))

-- an old place is not past the old records, and a new one is
pub old_place : (old : List Table) (p : Placed) → p ∈ places old → (0 < p.0) × (p.0 ≤ length old)
old_place old p m =
    let h = numbered_is 0 (map table_of old) p m in
    (h.0, omega (arith, h.1, length-map old table_of))

pub new_place : (old new : List Table) (p : Placed) → p ∈ places_after old new → length old < p.0
new_place old new p m = (numbered_is (length old) (map table_of new) p m).0

-- a place that is not past the old records is an old one
in_old : (old new : List Table) (p : Placed) → p ∈ places old ++ places_after old new → p.0 ≤ length old → p ∈ places old
in_old old new p m l = ⊎_elim (λ j. j) (λ j. absurd (omega (arith, new_place old new p j))) (Memᴰ.append_cases (places old) m)

-- the place of the record i
place_at : (n : ℕ) (rs : List Table) (i : ℕ) → i < length rs → (suc (n + i), table_of (get_or rs i blank)) ∈ numbered n (map table_of rs)
place_at n [] i h = absurd (omega arith)
place_at n (r ∷ rs) zero h =
    let e : n + 0 ≡ n = omega arith in
    first (ap (λ m. (suc m, table_of r)) e)
place_at n (r ∷ rs) (suc i) h =
    let e : suc (n + suc i) ≡ suc (suc n + i) = omega arith in
    later (Memᴰ.cast (ap (λ m. (m, table_of (get_or rs i blank))) e) (place_at (suc n) rs i (omega arith)))

-- each record has a place
pub record_placed : (n : ℕ) (rs : List Table) (r : Table) → r ∈ rs → (p : Placed) × (p ∈ numbered n (map table_of rs)) × (p.1 ≡ table_of r)
record_placed n [] r x' = elim x' [ ]
record_placed n (s ∷ rs) r (first e) = ((suc n, table_of s), first refl, ap table_of (sym e))
record_placed n (s ∷ rs) r (later m) = let h = record_placed (suc n) rs r m in (h.0, later h.1, h.2)

module _ (R : Placed → Placed → Type 0) (ps qs : List Placed) where
  two_append : EveryTwo R ps → Every (λ p. Every (R p) qs) ps → Every (λ p. Every (R p) ps) qs → EveryTwo R qs → EveryTwo R (ps ++ qs)
  two_append a b c d =
      every_append ps qs (λ p m. every_append ps qs (a p m) (b p m)) (λ p m. every_append ps qs (c p m) (d p m))

  two_left : EveryTwo R (ps ++ qs) → EveryTwo R ps
  two_left h p m = every_left ps qs (every_left ps qs h p m)

-- the new records keep the rules among themselves, and drive no net that an old one drives or reads
pub record Follows (k : ℕ) (old new : List Table) : Type 0 where
  pub padded : Every Padded new
  pub coded : Every Coded new
  pub sized : Every (Sized k) new
  pub sourced : Every (Sourced (places old ++ places_after old new)) (places_after old new)
  pub driven_once : EveryTwo DrivenOnce (places_after old new)
  pub read_after : EveryTwo ReadAfter (places_after old new)
  pub fresh : Every (λ p. 0 < p.1.drives → Every (λ q. (q.1.drives ≢ p.1.drives) × (¬ (p.1.drives ∈ q.1.inputs))) (places old)) (places_after old new)
  pub levels : map (λ r. r.level) new ≡ levels_after code_base (map table_of old) (map table_of new)

-- the levels of a run, those of its beginning first
levels_split : (old new : List Table) → levels_of code_base (map table_of (old ++ new)) ≡
    levels_of code_base (map table_of old) ++ levels_after code_base (map table_of old) (map table_of new)
levels_split old new = ap (levels_of code_base) (map_append table_of old new) ∙ levels_after_lem code_base (map table_of old) (map table_of new)

-- where the levels of a run are those worked out, those of its beginning are, and those of the records after it
levels_both : (old new : List Table) → map (λ r. r.level) (old ++ new) ≡ levels_of code_base (map table_of (old ++ new)) →
    (map (λ r. r.level) old ≡ levels_of code_base (map table_of old)) × (map (λ r. r.level) new ≡ levels_after code_base (map table_of old) (map table_of new))
levels_both old new e = (sym (take_at have rest n l) ∙ ap (take n) same ∙ take_at worked more n m, sym (drop_at have rest n l) ∙ ap (drop n) same ∙ drop_at worked more n m)
  where
    n : ℕ
    n = length old

    have : List ℕ
    have = map (λ r. r.level) old

    rest : List ℕ
    rest = map (λ r. r.level) new

    worked : List ℕ
    worked = levels_of code_base (map table_of old)

    more : List ℕ
    more = levels_after code_base (map table_of old) (map table_of new)

    same : have ++ rest ≡ worked ++ more
    same = sym (map_append (λ r. r.level) old new) ∙ e ∙ levels_split old new

    l : length have ≡ n
    l = length-map old (λ r. r.level)

    m : length worked ≡ n
    m = levels_length code_base (λ c. 0) 0 (map table_of old) ∙ length-map old table_of

module _ (k : ℕ) (old new : List Table) where
  pub rules_append : Rules k old → Follows k old new → Rules k (old ++ new)
  rules_append o n = record {
    padded = every_append old new o.padded n.padded;
    coded = every_append old new o.coded n.coded;
    sized = every_append old new o.sized n.sized;
    sourced = rw places_append (every_append ps qs (λ p m x i t. let q = o.sourced p m x i t in (q.0, Memᴰ.append_left qs q.1, q.2, q.3, q.4)) n.sourced);
    driven_once = rw places_append (two_append DrivenOnce ps qs o.driven_once
        (λ p m q j l e. absurd ((n.fresh q j (omega (arith, e, l)) p m).0 e))
        (λ p m q j l e. absurd ((n.fresh p m l q j).0 (sym e)))
        n.driven_once);
    read_after = rw places_append (two_append ReadAfter ps qs o.read_after
        (λ p m q j l i. omega (arith, old_place old p m, new_place old new q j))
        (λ p m q j l i. absurd ((n.fresh p m l q j).1 i))
        n.read_after);
    levels = map_append (λ r. r.level) old new ∙ ap₂ ◌++◌ o.levels n.levels ∙ sym (levels_split old new);
  }
    where
      ps : List Placed
      ps = places old

      qs : List Placed
      qs = places_after old new

  pub rules_prefix : Rules k (old ++ new) → Rules k old
  rules_prefix h = record {
    padded = every_left old new h.padded;
    coded = every_left old new h.coded;
    sized = every_left old new h.sized;
    sourced = λ p m x i t.
        let q = every_left (places old) (places_after old new) (rw places_append at h.sourced) p m x i t in
        (q.0, in_old old new q.0 q.1 (omega (arith, old_place old p m, q.3)), q.2, q.3, q.4);
    driven_once = two_left DrivenOnce (places old) (places_after old new) (rw places_append at h.driven_once);
    read_after = two_left ReadAfter (places old) (places_after old new) (rw places_append at h.read_after);
    levels = (levels_both old new h.levels).0;
  }

-- ---- one more record

-- an input of a record after the records `old`: a net, or the name of one of them that drives no net
abbrev pub Known : List Table → ℕ → Type 0
Known old x = (x ≤ code_base) ⊎ ((x ≤ code_base + length old) × ((get_or old (x - suc code_base) blank).net ≡ 0))

abbrev pub Clear : ℕ → Table → Type 0
Clear n r = (r.net ≢ n) × (¬ (n ∈ reads r))

abbrev pub Unclaimed : List Table → Table → Type 0
Unclaimed old r = (r.net ≡ 0) ⊎ (Every (Clear r.net) old × (¬ (r.net ∈ reads r)))

-- 01's points of a record
pub record Points (k : ℕ) (old : List Table) (r : Table) : Type 0 where
  pub padded : Padded r
  pub coded : Coded r
  pub sized : Sized k r
  pub sourced : Every (Known old) (reads r)
  pub unclaimed : Unclaimed old r

pub record Keeps (k : ℕ) (old : List Table) (r : Table) : Type 0 where
  pub points : Points k old r
  pub level : r.level ≡ level_after old r

module _ (k : ℕ) (old : List Table) (r : Table) where
  last : Placed
  last = (suc (length old), table_of r)

  -- the table that an input names
  keeps_source : Every (Known old) (reads r) → Sourced (places old ++ places_after old (r ∷ [])) last
  unfolding last
  keeps_source h x m t = ⊎_elim (λ l. absurd (omega arith)) found (h x m)
    where
      found : (x ≤ code_base + length old) × ((get_or old (x - suc code_base) blank).net ≡ 0) →
          (q : Placed) × (q ∈ places old ++ places_after old (r ∷ [])) × (x ≡ code_base + q.0) × (q.0 < suc (length old)) × (q.1.drives ≡ 0)
      found f =
          let i : ℕ = x - suc code_base in
          ((suc (0 + i), table_of (get_or old i blank)), Memᴰ.append_left (places_after old (r ∷ [])) (place_at 0 old i (omega (arith, t))), omega (arith, t), omega (arith, t), f.1)

  pub keeps_follows : Keeps k old r → Follows k old (r ∷ [])
  unfolding last
  keeps_follows h = record {
    padded = every_cons h.points.padded (every_none _);
    coded = every_cons h.points.coded (every_none _);
    sized = every_cons h.points.sized (every_none _);
    sourced = every_cons {P = Sourced (places old ++ places_after old (r ∷ []))} (keeps_source h.points.sourced) (every_none _);
    driven_once = every_cons (every_cons (λ l e. refl) (every_none _)) (every_none _);
    read_after = every_cons (every_cons (λ l i. ⊎_elim (λ z. absurd (omega (arith, z, l))) (λ f. absurd (f.1 i)) h.points.unclaimed) (every_none _)) (every_none _);
    fresh = every_cons fresh (every_none _);
    levels = ap (λ l. l ∷ []) h.level;
  }
    where
      fresh : 0 < r.net → Every (λ q. (q.1.drives ≢ r.net) × (¬ (r.net ∈ q.1.inputs))) (places old)
      fresh l q m =
          ⊎_elim (λ z. absurd (omega (arith, z, l)))
          (λ f. let n = numbered_is 0 (map table_of old) q m in
          let o = Memᴰ.of_map table_of old n.2 in
          subst (λ t. (t.drives ≢ r.net) × (¬ (r.net ∈ t.inputs))) o.2 (f.0 o.0 o.1))
          h.points.unclaimed

  pub rules_snoc : Rules k old → Keeps k old r → Rules k (old ++ r ∷ [])
  rules_snoc o h = rules_append k old (r ∷ []) o (keeps_follows h)

  -- what the rules of a run say of its last record
  pub rules_keeps : Rules k (old ++ r ∷ []) → Keeps k old r
  rules_keeps h = record {
    points = record {
      padded = every_head (every_right old (r ∷ []) h.padded);
      coded = every_head (every_right old (r ∷ []) h.coded);
      sized = every_head (every_right old (r ∷ []) h.sized);
      sourced = λ x m. by_leb (λ b. Known old x) x code_base inl (λ t. inr (known x m t));
      unclaimed = by_leb (λ b. Unclaimed old r) r.net 0 (λ z. inl (omega arith)) (λ l. inr (clear l));
    };
    level = cc (levels_both old (r ∷ []) h.levels).1;
  }
    where
      qs : List Placed
      qs = places_after old (r ∷ [])

      named : (x : ℕ) (q : Placed) → q ∈ places old → x ≡ code_base + q.0 → q.1.drives ≡ 0 →
          (x ≤ code_base + length old) × ((get_or old (x - suc code_base) blank).net ≡ 0)
      named x q m e d =
          let l = old_place old q m in
          let i : ℕ = x - suc code_base in (
            omega (arith, e),
            ap (λ p. p.1.drives) (numbered_one 0 (map table_of old) (suc (0 + i), table_of (get_or old i blank)) q (place_at 0 old i (omega (arith, e))) m (omega (arith, e))) ∙ d,
          )

      known : (x : ℕ) → x ∈ reads r → NamesTable x → (x ≤ code_base + length old) × ((get_or old (x - suc code_base) blank).net ≡ 0)
      known x m t =
          let q = every_head (every_right (places old) qs (rw places_append at h.sourced)) x m t in
          named x q.0 (in_old old (r ∷ []) q.0 q.1 (omega (arith, q.3))) q.2 q.4

      once : EveryTwo DrivenOnce (places old ++ qs)
      once = rw places_append at h.driven_once

      after : EveryTwo ReadAfter (places old ++ qs)
      after = rw places_append at h.read_after

      clear : 0 < r.net → Every (Clear r.net) old × (¬ (r.net ∈ reads r))
      clear l = (
        λ s m. let p = record_placed 0 old s m in
            let o = old_place old p.0 p.1 in (
              λ e. absurd (omega (arith, o, every_left (places old) qs (every_head (every_right (places old) qs once)) p.0 p.1 l (sym e ∙ ap (λ t. t.drives) (sym p.2)))),
              λ i. absurd (omega (arith, o, every_left (places old) qs (every_head (every_right (places old) qs after)) p.0 p.1 l (subst (λ t. r.net ∈ t.inputs) (sym p.2) i))),
            ),
        λ i. absurd (omega (arith, every_head (every_right (places old) qs (every_head (every_right (places old) qs after))) l i)),
      )
