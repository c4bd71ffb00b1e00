-- A cover with the best key: what a list of keys reaches has a plan, and a run of the plan makes the fanins of the gate.
-- So the best key of a gate is the key of some split of it.
use Rattle.std.specs.Prelude.{ℕ, suc, ◌≤◌, ◌<◌, ◌≡◌, refl, Bool, List, [], ◌∷◌, map, length, get_or}
use Rattle.std.proofs.Common.{arith}
use Rattle.lists.specs.Trusted.Lists.{Permuted}
use Rattle.lists.specs.Sequences.{Paired, no_pair, pair, upto}
use Rattle.lists.specs.ListLaws.{permuted_refl, permuted_trans, permuted_append}
use Rattle.lists.specs.MixLaws.{mix_append, paired_mix}
use Rattle.tree.specs.declared.Kind.{Kind}
use Rattle.tree.specs.Trusted.Tree.{Node, leaf, gate, Edges, none, edge}
use Rattle.cover.specs.Trusted.Cover.{Cover, Fanins}
use Rattle.plan.specs.declared.Key.{Key}
use Rattle.plan.specs.Key.{leaf_key}
use Rattle.plan.specs.KeyLaws.{join_way}
use Rattle.plan.specs.Reach.{Reach, one, both, Best, at_leaf, at_gate, Bests, at_end, at_edge}
use Rattle.plan.specs.declared.Token.{Token}
use Rattle.plan.specs.declared.Token.TheVariants.{Push as push}
use Rattle.plan.specs.Plans.{Denotes, fanin, binary, Planned, Standing, Ready, ready_none, ready_edge, Body}
use Rattle.plan.specs.PlanLaws.{plan_runs, plan_body, net_standing, body_standing}

-- the key z is that of the fanin n
abbrev At : List Key → ℕ → Key → Type 0
At ks n z = (n < length ks) × (get_or ks n leaf_key ≡ z)

at_up : (k : Key) (ks : List Key) {zs : List Key} {ns : List ℕ} → Paired (At ks) ns zs → Paired (At (k ∷ ks)) (map suc ns) zs
at_up k ks no_pair = no_pair
at_up k ks (pair {x = n} h p) = pair {x = suc n} (omega arith, h.1) (at_up k ks p)

at_all : (ks : List Key) → Paired (At ks) (upto (length ks)) ks
at_all [] = no_pair
at_all (k ∷ ks) = pair {x = 0} (omega arith, refl) (at_up k ks (at_all ks))

module _ (K : ℕ) (two : 2 ≤ K) where
  reach_denotes : (ks : List Key) {zs : List Key} {r : Key} {ns : List ℕ} → Reach K zs r → Paired (At ks) ns zs →
      (p : List Token) × (ms : List ℕ) × Denotes K ks p ms r × Permuted ms ns
  reach_denotes ks one (pair {x = n} h no_pair) = (push n ∷ [], n ∷ [], rw (← h.1) (fanin n h.0), permuted_refl (n ∷ []))
  reach_denotes ks (both {a = a} {b = b} m f g) d =
      let q = paired_mix m d in
      let x = reach_denotes ks f q.3 in
      let y = reach_denotes ks g q.4 in
      (_, _, binary x.2 y.2 (join_way K two a b), permuted_trans (permuted_append x.3 y.3) (mix_append q.2))

  pub reach_planned : {ks : List Key} {r : Key} → Reach K ks r → (p : List Token) × Planned K ks (upto (length ks)) p r
  reach_planned {ks} h =
      let d = reach_denotes ks h (at_all ks) in
      (d.0, record { order = d.1; denotes = d.2; once = d.3 })

  reach_body : {es : Edges} {ds : List (Bool × Cover)} {a b : Key} {ks : List Key} {r : Key} →
      Reach K (a ∷ b ∷ ks) r → Ready K es ds (a ∷ b ∷ ks) → (body : Fanins) × Body K es r body
  reach_body {ds = ds} h d =
      let p = reach_planned h in
      let b = plan_body K d (omega arith) p.1 (plan_runs K p.1.denotes ds []).1 in
      (b.0, b.2)

  mutual
    standing : (t : Node) {r : Key} → Best K t r → (c : Cover) × Standing K t r c
    standing (leaf n) at_leaf = (_, net_standing K n (omega arith))
    standing (gate k es) (at_gate bs l) = (_, body_standing K (reach_body l.reach (ready es bs).1).1 k)

    ready : (es : Edges) {ks : List Key} → Bests K es ks → (ds : List (Bool × Cover)) × Ready K es ds ks
    ready none at_end = (_, ready_none)
    ready (edge i t es) (at_edge b bs) = (_, ready_edge (standing t b).1 (ready es bs).1)

  pub gate_body : {k : Kind} {es : Edges} {r : Key} → Best K (gate k es) r → (body : Fanins) × Body K es r body
  gate_body {es = es} (at_gate bs l) = reach_body l.reach (ready es bs).1
