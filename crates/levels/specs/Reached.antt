-- What a group of fanins gives is reached by joins from demands that its fanins meet.
use Rattle.std.specs.Prelude.{ℕ, suc, ◌+◌, ◌≤◌, Bool, true, false, List, [], ◌∷◌, T}
use Rattle.std.proofs.Common.{arith}
use Rattle.lists.specs.Cases.{and_split}
use Rattle.lists.specs.Sequences.{Mix, neither, left, right, Paired, no_pair, pair}
use Rattle.lists.specs.ListLaws.{every_head}
use Rattle.lists.specs.MixLaws.{mix_every}
use Rattle.tree.specs.declared.Kind.{Kind}
use Rattle.tree.specs.Trusted.Tree.{Node, gate, Edges, none, edge}
use Rattle.tree.specs.Measures.{many, propers}
use Rattle.levels.specs.Gives.{fanins, Proper, Gives, net, drawn, both, placed}
use Rattle.levels.specs.GivesLaws.{fanins_proper}
use Rattle.levels.specs.Demands.{
  Demand,
  demand,
  ◌⊑◌,
  taken_as,
  DemandJoins,
  DemandReaches,
  one,
  LevelHeld,
  held_net,
  held_gate,
  LevelHelds,
  held_none,
  held_edge,
}

paired_mixed : {A B : Type 0} {R : A → B → Type 0} {xs ys zs : List A} {us vs : List B} → Mix xs ys zs → Paired R xs us → Paired R ys vs →
    (ws : List B) × Mix us vs ws × Paired R zs ws
paired_mixed neither no_pair no_pair = ([], neither, no_pair)
paired_mixed (left m) (pair h p) q = let r = paired_mixed m p q in (_, left r.1, pair h r.2)
paired_mixed (right m) p (pair h q) = let r = paired_mixed m p q in (_, right r.1, pair h r.2)

-- placed, once
pub demand_raised : (l : Bool) (a : Demand) {ℓ w c : ℕ} → taken_as l a ⊑ demand ℓ w c → taken_as true a ⊑ demand (suc ℓ) 1 (suc c)
demand_raised false a h = omega (arith, h.bound, h.below)
demand_raised true a h = omega (arith, h.bound, h.below)

module _ (K : ℕ) (lev : ℕ → ℕ) where
  -- the fanins meet the demands
  abbrev pub Each : List (Bool × Node) → List Demand → Type 0
  Each = Paired (λ z d. LevelHeld K lev z.1 d)

  pub record Reached (zs : List (Bool × Node)) (d : Demand) : Type 0 where
    pub demands : List Demand
    pub each : Each zs demands
    pub own : Demand
    pub reach : DemandReaches K demands own
    pub flag : Bool
    pub within : taken_as flag own ⊑ d

  pub each_helds : (es : Edges) {qs : List Demand} → Each (fanins es) qs → LevelHelds K lev es qs
  each_helds none no_pair = held_none
  each_helds (edge i t es) (pair h p) = held_edge h (each_helds es p)

  -- a gate by its fanins, the whole of them held
  pub level_gate : (k : Kind) (es : Edges) {qs : List Demand} {d : Demand} → T (many es) → Each (fanins es) qs → DemandReaches K qs d →
      LevelHeld K lev (gate k es) d
  level_gate k none h p r = absurd h
  level_gate k (edge i t none) h p r = absurd h
  level_gate k (edge i t (edge j u es)) h (pair x (pair y p)) r = held_gate (each_helds (edge i t (edge j u es)) (pair x (pair y p))) r

  reached_both : {xs ys zs : List (Bool × Node)} {ℓ v w c d : ℕ} → Mix xs ys zs → Reached xs (demand ℓ v c) → Reached ys (demand ℓ w d) →
      v + w ≤ K → (qs : List Demand) × Each zs qs × DemandReaches K qs (demand ℓ (v + w) (c + d))
  reached_both {ℓ = ℓ} {v = v} {w = w} {c = c} {d = d} m x y f =
      let r = paired_mixed m x.each y.each in
      let j : DemandJoins K (taken_as x.flag x.own) (taken_as y.flag y.own) (demand ℓ (v + w) (c + d)) = record {
        left = x.within.bound;
        right = y.within.bound;
        inputs = omega (arith, x.within.inputs, y.within.inputs);
        most = f;
        below = omega (arith, x.within.below, y.within.below);
      } in
      (r.0, r.2, DemandReaches.both x.flag y.flag r.1 x.reach y.reach j)

  pub reached : {zs : List (Bool × Node)} {ℓ w c : ℕ} → Proper zs → Gives K lev zs ℓ w c → Reached zs (demand ℓ w c)
  reached p (net {n = n} {ℓ = ℓ} h) =
      record {
        demands = demand ℓ 1 0 ∷ [];
        each = pair (held_net {d = demand ℓ 1 0} h (omega arith)) no_pair;
        own = demand ℓ 1 0;
        reach = one;
        flag = false;
        within = omega arith;
      }
  reached p (drawn {k = a} {es = es} g) =
      let q = and_split (many es) (propers es) (every_head p) in
      let x = reached (fanins_proper es q.1) g in
      record {
        demands = x.own ∷ [];
        each = pair (level_gate a es q.0 x.each x.reach) no_pair;
        own = x.own;
        reach = one;
        flag = x.flag;
        within = x.within;
      }
  reached p (both {ℓ = ℓ} {v = v} {w = w} {c = c} {d = d} m g h f) =
      let q = mix_every m p in
      let x = reached_both m (reached q.0 g) (reached q.1 h) f in
      record { demands = x.0; each = x.1; own = demand ℓ (v + w) (c + d); reach = x.2; flag = false; within = omega arith }
  reached p (placed g) =
      let x = reached p g in
      record {
        demands = x.demands;
        each = x.each;
        own = x.own;
        reach = x.reach;
        flag = true;
        within = demand_raised x.flag x.own x.within;
      }
