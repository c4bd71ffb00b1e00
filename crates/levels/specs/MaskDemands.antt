-- Plans that a search by masks writes, from the plans of the operands at a submask and at the rest; and how a change of other
-- fanins' demands leaves them.
use Rattle.std.specs.Prelude.{ℕ, zero, suc, ◌+◌, ◌-◌, ◌/◌, ◌%◌, ◌^◌, ◌≤◌, ◌<◌, ◌≡◌, refl, ◌≢◌, Bool, List, [], ◌∷◌, ◌++◌, map, length, get_or}
use Rattle.std.proofs.Common.{add-zero, arith, sym, pow_pos}
use Rattle.lists.specs.Trusted.Lists.{◌∈◌, Every, Distinct, Inserted, Permuted, empty, more}
use Rattle.lists.specs.Trusted.Lists.{first, later}
use Rattle.lists.specs.Sequences.{Mix, neither, left, right, upto}
use Rattle.lists.specs.ListLaws.{every_none, every_cons, every_head, every_left, every_right, every_map, permuted_append, permuted_trans, permuted_from}
use Rattle.lists.specs.MixLaws.{mix_append, mix_every}
use Rattle.lists.specs.NumberLaws.{upto_length, upto_at}
use Rattle.cover.specs.Trusted.Cover.{pick}
use Rattle.plan.specs.Masks.{select, MaskWithin}
use Rattle.plan.specs.MaskLaws.{select_top, select_none, select_mix, select_every}
use Rattle.plan.specs.declared.Token.{Token}
use Rattle.plan.specs.declared.Token.TheVariants.{Push as push, Join as join}
use Rattle.levels.specs.Demands.{Demand, demand, PlanMeets, fanin, binary, DemandPlanned, MaskMeets, DemandOperand}

-- ---- a mask's plan

module _ {K : ℕ} {qs : List Demand} where
  -- a mask of one bit
  pub demand_plan_one : (h : ℕ) → h < length qs → MaskMeets K qs (2 ^ h) (push h ∷ []) (get_or qs h (demand 0 0 0))
  demand_plan_one h l = record { order = h ∷ []; meets = fanin h l; once = only }
    where
      ns : List ℕ
      ns = upto (length qs)

      top : Inserted h (select (2 ^ h) ns) (select 0 ns)
      top = rw (add-zero (2 ^ h), upto_at (length qs) h 0 l) at (select_top ns h 0 0 (rw (upto_length (length qs)) l) (pow_pos h))

      only : Permuted (h ∷ []) (select (2 ^ h) ns)
      only = more (rw (select_none ns) at top) empty

  -- a mask of more
  pub demand_plan_join : (u s : ℕ) {p q : List Token} {l r : Bool} {ℓ i j c e : ℕ} (w : ℕ) → MaskWithin u s → i + j ≤ w → w ≤ K →
      DemandOperand K qs (s - u) p l (demand ℓ i c) → DemandOperand K qs u q r (demand ℓ j e) →
      MaskMeets K qs s (p ++ (q ++ (join l r ∷ []))) (demand ℓ w (c + e))
  demand_plan_join u s {l = l} {r = r} {ℓ} {c = c} {e = e} w v a b x y = record {
    order = x.planned.order ++ y.planned.order;
    meets = binary {d = demand ℓ w (c + e)} l r x.planned.meets y.planned.meets (record {
      left = x.within.bound;
      right = y.within.bound;
      inputs = omega (arith, x.within.inputs, y.within.inputs);
      most = b;
      below = omega (arith, x.within.below, y.within.below);
    });
    once = permuted_trans (permuted_append x.planned.once y.planned.once) (mix_append (select_mix (upto (length qs)) u s v));
  }

-- ---- other demands

-- the demands of these fanins are the same
abbrev pub SameAt : List Demand → List Demand → List ℕ → Type 0
SameAt qs rs ns = Every (λ n. get_or qs n (demand 0 0 0) ≡ get_or rs n (demand 0 0 0)) ns

meets_kept : {K : ℕ} {qs : List Demand} (rs : List Demand) {p : List Token} {ns : List ℕ} {d : Demand} → length rs ≡ length qs →
    SameAt qs rs ns → PlanMeets K qs p ns d → PlanMeets K rs p ns d
meets_kept rs e s (fanin i l) = rw (every_head s) (fanin i (omega arith))
meets_kept rs e s (binary {ms = ms} {ns = ns} l r a b j) =
    binary l r (meets_kept rs e (every_left ms ns s) a) (meets_kept rs e (every_right ms ns s) b) j

pub planned_kept : {K : ℕ} {qs : List Demand} (rs : List Demand) {ns : List ℕ} {p : List Token} {d : Demand} → length rs ≡ length qs →
    SameAt qs rs ns → DemandPlanned K qs ns p d → DemandPlanned K rs ns p d
planned_kept rs e s x = record { order = x.order; meets = meets_kept rs e (permuted_from x.once s) x.meets; once = x.once }

-- ---- fanins at a submask are not among the rest

distinct_suc : (ns : List ℕ) → Distinct ns → Distinct (map suc ns)
distinct_suc [] d = tt
distinct_suc (n ∷ ns) d = (every_map (λ m. suc n ≢ m) suc ns (λ m l e. d.0 m l (omega arith)), distinct_suc ns d.1)

upto_distinct : (n : ℕ) → Distinct (upto n)
upto_distinct zero = tt
upto_distinct (suc n) = (every_map (λ m. 0 ≢ m) suc (upto n) (λ m l e. omega arith), distinct_suc (upto n) (upto_distinct n))

distinct_pick : (n : ℕ) {ns : List ℕ} (b : ℕ) → Every (λ m. n ≢ m) ns → Distinct ns → Distinct (pick b ns (n ∷ ns))
distinct_pick n zero h d = d
distinct_pick n (suc b) h d = (h, d)

select_distinct : (ns : List ℕ) (s : ℕ) → Distinct ns → Distinct (select s ns)
select_distinct [] s d = tt
select_distinct (n ∷ ns) s d = distinct_pick n (s % 2) (select_every ns (s / 2) d.0) (select_distinct ns (s / 2) d.1)

mix_apart : {xs ys zs : List ℕ} → Mix xs ys zs → Distinct zs → Every (λ n. ¬ (n ∈ ys)) xs
mix_apart neither d = every_none _
mix_apart (left m) d = every_cons (λ i. (mix_every m d.0).1 _ i refl) (mix_apart m d.1)
mix_apart (right {y = y} m) d = λ n i. other (λ e. (mix_every m d.0).0 n i (sym e)) (mix_apart m d.1 n i)
  where
    other : {n : ℕ} {ys : List ℕ} → n ≢ y → ¬ (n ∈ ys) → ¬ (n ∈ y ∷ ys)
    other h f (first e) = h e
    other h f (later i) = f i

-- so a plan for the rest stays one where only the demands of the fanins at the submask change
pub rest_kept : {K : ℕ} {qs : List Demand} (rs : List Demand) (u s : ℕ) {p : List Token} {d : Demand} → MaskWithin u s → length rs ≡ length qs →
    ((n : ℕ) → ¬ (n ∈ select u (upto (length qs))) → get_or qs n (demand 0 0 0) ≡ get_or rs n (demand 0 0 0)) →
    MaskMeets K qs (s - u) p d → MaskMeets K rs (s - u) p d
rest_kept {qs = qs} rs u s w e f x =
    let a = mix_apart (select_mix (upto (length qs)) u s w) (select_distinct (upto (length qs)) s (upto_distinct (length qs))) in
    rw e (planned_kept rs e (λ n i. f n (a n i)) x)
