-- Laws of what a list of keys reaches: the order of the list does not matter, and there is one least key.
-- The best key of a tree has inputs.
use Rattle.std.specs.Prelude.{ℕ, ◌≤◌, ◌≡◌, List, [], ◌∷◌, length}
use Rattle.std.proofs.Common.{arith}
use Rattle.lists.specs.Trusted.Lists.{Permuted, empty, more, here, there}
use Rattle.lists.specs.Sequences.{neither, left, right}
use Rattle.lists.specs.ListLaws.{every_none, every_cons, every_head, permuted_sym}
use Rattle.lists.specs.MixLaws.{mix_none, mix_permuted, mix_every}
use Rattle.tree.specs.declared.Kind.{Kind}
use Rattle.tree.specs.Trusted.Tree.{Node, leaf, gate, Edges, none, edge}
use Rattle.plan.specs.declared.Key.{Key}
use Rattle.plan.specs.Key.{◌≼◌}
use Rattle.plan.specs.KeyLaws.{≼_refl, ≼-antisym, join_width}
use Rattle.plan.specs.Reach.{Reach, one, both, LeastReach, Wide, Best, at_leaf, at_gate, Bests, at_end, at_edge}

module _ {K : ℕ} where
  pub reach_permuted : {xs ys : List Key} {r : Key} → Reach K xs r → Permuted ys xs → Reach K ys r
  reach_permuted one (more here (more h _)) = elim h [ ]
  reach_permuted one (more (there h) _) = elim h [ ]
  reach_permuted one (more here empty) = one
  reach_permuted (both m a b) p = let q = mix_permuted p m in both q.4 (reach_permuted a q.2) (reach_permuted b q.3)

  pub least_permuted : {xs ys : List Key} {r : Key} → LeastReach K xs r → Permuted ys xs → LeastReach K ys r
  least_permuted l p = record {
    reach = reach_permuted l.reach p;
    least = λ r' h. l.least r' (reach_permuted h (permuted_sym p));
  }

  pub least_one : {ks : List Key} {a b : Key} → LeastReach K ks a → LeastReach K ks b → a ≡ b
  least_one g h = ≼-antisym (g.least _ h.reach) (h.least _ g.reach)

  -- nothing is reached from no keys, and something from some
  pub no_reach : {r : Key} → Reach K [] r → ⊥
  no_reach (both neither p q) = no_reach p

  pub least_single : (k : Key) → LeastReach K (k ∷ []) k
  least_single k = record { reach = one; least = λ r. go }
    where
      go : {r : Key} → Reach K (k ∷ []) r → k ≼ r
      go one = ≼_refl k
      go (both (left neither) p q) = absurd (no_reach q)
      go (both (right neither) p q) = absurd (no_reach p)

  pub chain : (k : Key) (ks : List Key) → (r : Key) × Reach K (k ∷ ks) r
  chain k [] = (k, one)
  chain k (j ∷ ks) = (_, both (left (mix_none (j ∷ ks))) one (chain j ks).1)

  -- a gate's best key
  pub best_gate : {k : Kind} {es : Edges} {ks : List Key} {r : Key} → Bests K es ks → 2 ≤ length ks → LeastReach K ks r →
      Best K (gate k es) r
  best_gate at_end h l = absurd (omega arith)
  best_gate (at_edge b at_end) h l = absurd (omega arith)
  best_gate (at_edge b (at_edge c bs)) h l = at_gate (at_edge b (at_edge c bs)) l

  module _ (two : 2 ≤ K) where
    pub reach_wide : {zs : List Key} {r : Key} → Reach K zs r → Wide zs → 1 ≤ r.width
    reach_wide one w = every_head w
    reach_wide (both {a = a} {b = b} m p q) w =
        let v = mix_every m w in
        omega (arith, join_width K two a b (reach_wide p v.0) (reach_wide q v.1))

    mutual
      best_wide : (t : Node) {r : Key} → Best K t r → 1 ≤ r.width
      best_wide (leaf n) at_leaf = omega arith
      best_wide (gate k es) (at_gate bs l) = reach_wide l.reach (bests_wide es bs)

      pub bests_wide : (es : Edges) {ks : List Key} → Bests K es ks → Wide ks
      bests_wide none at_end = every_none _
      bests_wide (edge i t es) (at_edge b bs) = every_cons (best_wide t b) (bests_wide es bs)
