-- The mask of all fanins: its steps can be written, and are the answer. Assumes nothing.
use Prim.Native.Nat.{ℕ, ◌+◌, ◌-◌, ◌^◌, ◌<◌}
use native.Mathlib.Omega.{arith}
use mathlib.Core.Path.{◌≡◌, refl, sym, ap, subst, ◌∙◌}
use mathlib.Core.Bool.{true}
use mathlib.Core.List.{List}
use lib.ListN.{length, take}
use lib.Dec.{T}
use lib.Pow.{pow_mono, pow-lt}
use Rattle.lists.specs.Sequences.{upto}
use Rattle.lists.specs.NumberLaws.{upto_length}
use Rattle.plan.specs.declared.Key.{Key}
use Rattle.plan.specs.declared.Plan.{Plan}
use Rattle.tree.specs.Trusted.Limits.{most_fanins}
use Rattle.plan.specs.Limits.{masks}
use Rattle.plan.specs.Masks.{select}
use Rattle.plan.specs.MaskLaws.{select_all}
use Rattle.plan.specs.Reach.{LeastReach}
use Rattle.plan.specs.Plans.{Planned}
use Rattle.plan.specs.PlanBounds.{planned_length}
use Rattle.plan.specs.Entries.{entry, Entries, FewLeaves, GoodKeys}
use Rattle.plan.specs.Steps.{Writable, Writes}
use Rattle.plan.specs.PlanOfLaws.{reflects_good, good_size}
use Rattle.plan.specs.PlanOf.{good_input, empty_plan, PlanAnswer}

module _ {K : ℕ} {ks : List Key} (good : GoodKeys K ks) {n : ℕ} (size : n ≡ 2 ^ length ks) where
  pub whole_place : (0 < n - 1) × (n - 1 < masks)
  whole_place =
      let c = good.count in
      let one = pow-lt c.0 in
      let all = pow_mono c.1 in
      (omega arith, omega arith)

  -- it selects all
  whole_select : {A : Type 0} (xs : List A) → length xs ≡ length ks → select (n - 1) xs ≡ xs
  whole_select xs e = ap (λ m. select (m - 1) xs) size ∙ select_all xs (length ks) e

  whole_bits : select (n - 1) (upto (length ks)) ≡ upto (length ks)
  whole_bits = whole_select (upto (length ks)) (upto_length (length ks))

  module _ {bs ws us : List ℕ} (es : Entries K ks bs ws us n) where
    whole_entries : Entries K ks bs ws us (n - 1 + 1)
    whole_entries = let e : n - 1 + 1 ≡ n = omega (arith, whole_place) in rw e es

    pub whole_writable : (a : Key) → Writable K bs ws us (n - 1) (empty_plan a)
    whole_writable a =
        let p = whole_place in record {
          keys = ks;
          good = good;
          entries = whole_entries;
          some = p.0;
          place = p.1;
          size = refl;
          room = rw whole_bits (omega (arith, upto_length (length ks), good.count.1));
        }

    pub whole_answer : {a : Key} {r : Plan} → a ≡ entry bs ws (n - 1) → Writes K bs ws us (n - 1) (empty_plan a) r → PlanAnswer K ks r
    whole_answer {a} {r} e w =
        let p = whole_place in
        let x = w ks whole_entries in
        let k : entry bs ws (n - 1) ≡ r.key = sym (x.kept ∙ e) in
        let l = subst (λ zs. LeastReach K zs (entry bs ws (n - 1))) (whole_select ks refl) (es.at (n - 1) p.0 (omega arith)).least in
        let q = subst (λ ns. Planned K ks ns x.added (entry bs ws (n - 1))) whole_bits x.planned in record {
          least = subst (LeastReach K ks) k l;
          planned = subst (λ ts. Planned K ks (upto (length ks)) ts r.key) (sym x.is) (subst (Planned K ks (upto (length ks)) x.added) k q);
          len = omega (arith, x.len, planned_length q, upto_length (length ks));
          size = x.size;
        }

-- what the test tells of the keys
pub plan_keys : (K count : ℕ) (keys : List Key) → length keys ≡ most_fanins → FewLeaves (take count keys) → good_input K count keys ≡ true →
    (length (take count keys) ≡ count) × GoodKeys K (take count keys)
plan_keys K count keys l few e =
    let t = subst T (sym e) tt in
    let s = good_size K count keys (omega arith) t in
    (s, (reflects_good K count keys s few).to t)
