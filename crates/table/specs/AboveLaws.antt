-- Levels in a run of records that keeps the rules: a record's level is above that of every record whose table it reads and that drives a
-- net that it reads; and none is above the number of records.
use Rattle.std.specs.Prelude.{ℕ, suc, ◌≤◌, ◌<◌, ◌≡◌, refl, List, [], ◌∷◌, ◌++◌, map, length}
use Rattle.std.proofs.Common.{arith, sym, ap, ◌∙◌, subst, append_assoc}
use mathlib.Core.List.Memᴰ
use Rattle.std.proofs.lemmas.List.{length-map}
use Rattle.lists.specs.Trusted.Lists.{◌∈◌, first, later, Every}
use Rattle.lists.specs.ListLaws.{every_right}
use Rattle.tree.specs.Trusted.Limits.{greatest_net, code_base}
use Rattle.cover.specs.Trusted.Tables.{Placed, numbered, table_level, writes, code_levels}
use Rattle.cover.specs.Eval.{driven_in, numbered_is}
use Rattle.cover.specs.LevelLaws.{reader_above, levels_most}
use Rattle.table.specs.Trusted.Records.{reads, table_of}
use Rattle.table.specs.Trusted.Rules.{places, Rules}
use Rattle.table.specs.RuleLaws.{map_append, places_append, Keeps, rules_prefix, rules_keeps}
use Rattle.table.specs.declared.Table.{Table}

-- no level is above the number of records
pub levels_few : (k : ℕ) (rs : List Table) → Rules k rs → Every (λ r. r.level ≤ length rs) rs
levels_few k rs h r m =
    let l = levels_most code_base (map table_of rs) r.level (subst (λ ls. r.level ∈ ls) h.levels (Memᴰ.map (λ q. q.level) m)) in
    omega (arith, l, length-map rs table_of)

module _ (k : ℕ) (old : List Table) (r : Table) (mid : List Table) (h : Rules k (old ++ r ∷ mid)) where
  first_keeps : Keeps k old r
  first_keeps = rules_keeps k old r (rules_prefix k (old ++ r ∷ []) mid (subst (Rules k) (sym (append_assoc old (r ∷ []) mid)) h))

  -- the places of r and of those after it
  later_places : places (old ++ r ∷ mid) ≡ places old ++ (suc (length old), table_of r) ∷ numbered (suc (length old)) (map table_of mid)
  later_places = places_append old (r ∷ mid)

  -- a code that r writes, none of those writes
  once_written : (x : ℕ) → x ∈ writes code_base (suc (length old), table_of r) →
      Every (λ p. ¬ (x ∈ writes code_base p)) (numbered (suc (length old)) (map table_of mid))
  once_written x m p j w =
      let o = Memᴰ.of_map table_of mid (numbered_is (suc (length old)) (map table_of mid) p j).2 in
      let low : p.1.drives ≤ greatest_net = subst (λ t. t.drives ≤ greatest_net) o.2 (every_right old (r ∷ mid) h.coded o.0 (later o.1)).0 in
      apart low m w
    where
      above : suc (length old) < p.0
      above = (numbered_is (suc (length old)) (map table_of mid) p j).0

      apart : p.1.drives ≤ greatest_net → x ∈ writes code_base (suc (length old), table_of r) → x ∈ writes code_base p → ⊥
      apart low (first e) (first f) = omega (arith, e, f, above)
      apart low (first e) (later v) = omega (arith, e, (driven_in p.1.drives x v).0, low)
      apart low (later u) (first f) = omega (arith, f, (driven_in r.net x u).0, first_keeps.points.coded.0)
      apart low (later u) (later v) =
          let a = driven_in r.net x u in
          let b = driven_in p.1.drives x v in
          let q : Placed = (suc (length old), table_of r) in
          let i = subst (λ ps. q ∈ ps) (sym later_places) (Memᴰ.append_right (places old) (first refl)) in
          let n = subst (λ ps. p ∈ ps) (sym later_places) (Memᴰ.append_right (places old) (later j)) in
          omega (arith, h.driven_once q i p n a.1 (sym a.0 ∙ b.0), above)

-- A RECORD IS ABOVE ALL THAT IT READS: r, where s after it reads the table of r or the net that r drives
pub reads_above : (k : ℕ) (old : List Table) (r : Table) (mid : List Table) (s : Table) (rest : List Table) → Rules k ((old ++ r ∷ mid) ++ s ∷ rest) →
    (x : ℕ) → x ∈ reads s → x ∈ writes code_base (suc (length old), table_of r) → r.level < s.level
reads_above k old r mid s rest h x i m =
    let before : List Table = old ++ r ∷ mid in
    let g = rules_prefix k before (s ∷ rest) h in
    let ks = rules_keeps k before s (rules_prefix k (before ++ s ∷ []) rest (subst (Rules k) (sym (append_assoc before (s ∷ []) rest)) h)) in
    let n : length old ≡ length (map table_of old) = sym (length-map old table_of) in
    let l = reader_above code_base (map table_of old) (map table_of mid) (table_of r) (table_of s) x i (subst (λ c. x ∈ writes code_base (suc c, table_of r)) n m)
    (subst (λ c. Every (λ p. ¬ (x ∈ writes code_base p)) (numbered (suc c) (map table_of mid))) n (once_written k old r mid g x m)) in
    omega (arith, l, (first_keeps k old r mid g).level, ks.level ∙ ap (λ ts. table_level (table_of s) (code_levels code_base ts)) (map_append table_of old (r ∷ mid)))
