-- What a group of fanins gives, some plan meets, and a run of the plan makes: so for what the fanins of a gate give there is a
-- cover with no more inputs and tables, and with no higher a level. The plan's tokens can say every choice that there is.
use Rattle.std.specs.Prelude.{ℕ, suc, ◌≤◌, ◌<◌, ◌≡◌, refl, Bool, List, [], ◌∷◌, map, T, length, get_or}
use Rattle.std.proofs.Common.{arith}
use Rattle.lists.specs.Cases.{and_split}
use Rattle.lists.specs.Trusted.Lists.{Permuted}
use Rattle.lists.specs.Sequences.{Paired, no_pair, pair, upto}
use Rattle.lists.specs.ListLaws.{permuted_refl, permuted_trans, permuted_append}
use Rattle.lists.specs.MixLaws.{mix_append, paired_mix}
use Rattle.tree.specs.declared.Kind.{Kind}
use Rattle.tree.specs.Trusted.Tree.{Node, leaf, gate, Edges, none, edge}
use Rattle.tree.specs.Measures.{many, proper, propers}
use Rattle.cover.specs.Trusted.Cover.{Cover, top, Fanins, tables, CoverOf}
use Rattle.plan.specs.declared.Token.{Token}
use Rattle.plan.specs.declared.Token.TheVariants.{Push as push}
use Rattle.levels.specs.Trusted.Levels.{level}
use Rattle.levels.specs.Gives.{fanins, Gives, both}
use Rattle.levels.specs.GivesLaws.{fanins_proper}
use Rattle.levels.specs.Demands.{
  Demand,
  demand,
  PlanMeets,
  fanin,
  binary,
  DemandPlanned,
  LevelStanding,
  LevelReady,
  ready_none,
  ready_edge,
  LevelBody,
  DemandReaches,
  one,
  LevelHeld,
  held_net,
  held_gate,
  LevelHelds,
  held_none,
  held_edge,
}
use Rattle.levels.proofs.DemandLaws.{demand_runs, demand_body, level_net, level_standing, level_cover}
use Rattle.levels.specs.Reached.{each_helds, level_gate, demand_raised, reached}

-- ---- what is reached from demands has a plan

-- the demand d is that of the fanin n
abbrev At : List Demand → ℕ → Demand → Type 0
At qs n d = (n < length qs) × (get_or qs n (demand 0 0 0) ≡ d)

at_up : (q : Demand) (qs : List Demand) {ds : List Demand} {ns : List ℕ} → Paired (At qs) ns ds → Paired (At (q ∷ qs)) (map suc ns) ds
at_up q qs no_pair = no_pair
at_up q qs (pair {x = n} h p) = pair {x = suc n} (omega arith, h.1) (at_up q qs p)

at_all : (qs : List Demand) → Paired (At qs) (upto (length qs)) qs
at_all [] = no_pair
at_all (q ∷ qs) = pair {x = 0} (omega arith, refl) (at_up q qs (at_all qs))

module _ (K : ℕ) where
  reaches_meets : (qs : List Demand) {ds : List Demand} {d : Demand} {ns : List ℕ} → DemandReaches K ds d → Paired (At qs) ns ds →
      (p : List Token) × (ms : List ℕ) × PlanMeets K qs p ms d × Permuted ms ns
  reaches_meets qs one (pair {x = n} h no_pair) = (push n ∷ [], n ∷ [], rw (← h.1) (fanin n h.0), permuted_refl (n ∷ []))
  reaches_meets qs (DemandReaches.both l r m f g j) x =
      let q = paired_mix m x in
      let y = reaches_meets qs f q.3 in
      let z = reaches_meets qs g q.4 in
      (_, _, binary l r y.2 z.2 j, permuted_trans (permuted_append y.3 z.3) (mix_append q.2))

  pub reaches_planned : {qs : List Demand} {d : Demand} → DemandReaches K qs d → (p : List Token) × DemandPlanned K qs (upto (length qs)) p d
  reaches_planned {qs} r =
      let x = reaches_meets qs r (at_all qs) in
      (x.0, record { order = x.1; meets = x.2; once = x.3 })

-- ---- and a run of the plan makes it

module _ (K : ℕ) (lev : ℕ → ℕ) (some : 1 ≤ K) where
  reaches_body : {es : Edges} {ds : List (Bool × Cover)} {a b d : Demand} {qs : List Demand} →
      DemandReaches K (a ∷ b ∷ qs) d → LevelReady K lev es ds (a ∷ b ∷ qs) → (body : Fanins) × LevelBody K lev es d body
  reaches_body {ds = ds} r x =
      let p = reaches_planned K r in
      let b = demand_body K lev x (omega arith) p.1 (demand_runs K lev p.1.meets ds []).1 in
      (b.0, b.2)

  mutual
    standing : (t : Node) {d : Demand} → LevelHeld K lev t d → (c : Cover) × LevelStanding K lev t d c
    standing (leaf n) {d} (held_net h i) = (_, level_net K lev n d some i h)
    standing (gate k es) (held_gate hs r) = (_, level_standing K lev (reaches_body r (ready es hs).1).1 k)

    ready : (es : Edges) {qs : List Demand} → LevelHelds K lev es qs → (ds : List (Bool × Cover)) × LevelReady K lev es ds qs
    ready none held_none = (_, ready_none)
    ready (edge i t es) (held_edge h hs) = (_, ready_edge (standing t h).1 (ready es hs).1)

  -- EVERY CHOICE HAS A PLAN, from demands that the fanins meet
  pub gives_planned : {ℓ w c : ℕ} (k : Kind) (es : Edges) → T (proper (gate k es)) → Gives K lev (fanins es) ℓ w c →
      (qs : List Demand) × (p : List Token) × (d : Demand) × LevelHelds K lev es qs × DemandPlanned K qs (upto (length qs)) p d ×
      (d.bound ≤ ℓ) × (d.below ≤ c) × LevelHeld K lev (gate k es) d
  gives_planned k es h g =
      let q = and_split (many es) (propers es) h in
      let x = reached K lev (fanins_proper es q.1) g in
      let p = reaches_planned K x.reach in
      let b = demand_raised x.flag x.own x.within in (
        x.demands,
        p.0,
        x.own,
        each_helds K lev es x.each,
        p.1,
        omega (arith, b.bound),
        omega (arith, b.below),
        level_gate K lev k es q.0 x.each x.reach,
      )

  held_cover : {k : Kind} {es : Edges} {d : Demand} → LevelHeld K lev (gate k es) d →
      (c : Cover) × CoverOf K (gate k es) c × (level lev c ≤ suc d.bound) × (tables c ≤ suc d.below)
  held_cover {k} {es} (held_gate hs r) =
      let b = reaches_body r (ready es hs).1 in
      (top 1 k b.0, level_cover K lev b.1 k 0, omega (arith, b.1.fans.high), omega (arith, b.1.fans.count))

  -- and so there is a cover whose root's table reads what the fanins give
  pub gives_cover : {ℓ w n : ℕ} (k : Kind) (es : Edges) → T (proper (gate k es)) → Gives K lev (fanins es) ℓ w n →
      (c : Cover) × CoverOf K (gate k es) c × (level lev c ≤ suc ℓ) × (tables c ≤ suc n)
  gives_cover k es h g =
      let (qs, p, d, hs, m, l, n, x) = gives_planned k es h g in
      let c = held_cover x in
      (c.0, c.1, omega (arith, c.2), omega (arith, c.3))
