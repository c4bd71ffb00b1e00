-- There is one least root level and one fewest number of tables, and a search for what the fanins of the root give finds both.
use Rattle.std.specs.Prelude.{ℕ, zero, suc, ◌≤◌, ◌<◌, ◌≡◌, refl, T}
use Rattle.std.proofs.Common.{arith}
use Rattle.std.proofs.Math.Decide.{dec_lt}
use Rattle.std.proofs.Math.Logic.{by_cases}
use Rattle.lists.specs.Cases.{and_split}
use Rattle.tree.specs.declared.Kind.{Kind}
use Rattle.tree.specs.Trusted.Tree.{Node, gate, Edges}
use Rattle.tree.specs.Measures.{many, proper, propers}
use Rattle.cover.specs.Trusted.Cover.{Cover, tables, CoverOf}
use Rattle.levels.specs.Trusted.Levels.{level, Fastest}
use Rattle.levels.specs.Gives.{fanins, size, Gives, AtMost, LeastEntry}
use Rattle.levels.specs.GivesLaws.{fanins_many, gives_higher, gives_narrow, gives_held}
use Rattle.levels.proofs.Under.{cover_gives}
use Rattle.levels.proofs.Over.{gives_cover}

pub fastest_unique : {lev : ℕ → ℕ} {K : ℕ} {t : Node} {m n d e : ℕ} → Fastest lev K t m d → Fastest lev K t n e → (m ≡ n) × (d ≡ e)
fastest_unique {d = d} {e = e} g h =
    let x = g.some in
    let y = h.some in
    let q : d ≡ e = omega (arith, x.2, y.2, g.none_lower y.0 y.1, h.none_lower x.0 x.1) in
    (omega (arith, x.3, y.3, g.none_fewer y.0 y.1 (omega (arith, y.2)), h.none_fewer x.0 x.1 (omega (arith, x.2))), q)

module _ (K : ℕ) (lev : ℕ → ℕ) (k : Kind) (es : Edges) (some : 1 ≤ K) (drawn : T (proper (gate k es))) where
  -- the least bound at which the root's fanins give anything, and the fewest tables there
  pub gives_fastest : {ℓ w n : ℕ} → Gives K lev (fanins es) ℓ w n →
      ((ℓ' v c : ℕ) → Gives K lev (fanins es) ℓ' v c → ℓ ≤ ℓ') → ((v c : ℕ) → Gives K lev (fanins es) ℓ v c → n ≤ c) →
      Fastest lev K (gate k es) (suc n) (suc ℓ)
  gives_fastest {ℓ} {n = n} g low few =
      let c = gives_cover K lev some k es drawn g in
      let b = bound c.0 c.1 in
      let e : level lev c.0 ≡ suc ℓ = omega (arith, b.0, c.2) in
      record {
        some = (c.0, c.1, e, omega (arith, b.1 e, c.3));
        none_lower = λ c o. (bound c o).0;
        none_fewer = λ c o. (bound c o).1;
      }
    where
      bound : (c : Cover) → CoverOf K (gate k es) c → (suc ℓ ≤ level lev c) × (level lev c ≡ suc ℓ → suc n ≤ tables c)
      bound c o =
          let q = cover_gives K lev c o in (
            omega (arith, q.3, low q.0 q.1 q.2 q.5),
            λ e. omega (arith, q.4, few q.1 q.2 (gives_higher ℓ q.5 (omega (arith, q.3)))),
          )

  -- the same by entries of an array: the first bound at which the entry of the root's fanins for K inputs is below `big`, where
  -- the tree has no more nets than `big` and one
  pub entry_fastest : {big ℓ e : ℕ} → size (fanins es) ≤ suc big → LeastEntry big (AtMost (Gives K lev (fanins es) ℓ) K) e → e < big →
      ((p : ℕ) → suc p ≡ ℓ → LeastEntry big (AtMost (Gives K lev (fanins es) p) K) big) → Fastest lev K (gate k es) (suc e) (suc ℓ)
  entry_fastest {big} {ℓ} {e} room a l before =
      gives_fastest (a.some l).2 (λ ℓ' v c g. by_cases (dec_lt ℓ' ℓ) (λ b. absurd (none ℓ ℓ' v c b refl g)) (λ b. omega arith))
      (λ v c g. a.low c (v, gives_narrow some g, g))
    where
      none : (m ℓ' v c : ℕ) → ℓ' < m → m ≡ ℓ → Gives K lev (fanins es) ℓ' v c → ⊥
      none zero ℓ' v c b q g = omega arith
      none (suc p) ℓ' v c b q g =
          let f = gives_held (fanins_many es (and_split (many es) (propers es) drawn).0) (gives_higher p g (omega arith)) in
          omega (arith, f.2, f.4, (before p q).low f.1 (f.0, gives_narrow some f.5, f.5))
