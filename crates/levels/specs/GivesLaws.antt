-- Laws of what a group of fanins gives: the order of the group does not matter; a higher bound allows no less; no bound below
-- the level of a net that is read allows anything; and a bound of c levels above those nets allows all that c tables can do.
use Rattle.std.specs.Prelude.{ℕ, zero, suc, ◌+◌, ◌≤◌, ◌≡◌, refl, Bool, List, [], ◌∷◌, T, length}
use Rattle.std.proofs.Common.{add-suc, arith, length-append}
use Rattle.std.proofs.Math.Decide.{dec_lt}
use Rattle.std.proofs.Math.Logic.{by_cases}
use Rattle.lists.specs.Cases.{and_split}
use Rattle.lists.specs.Trusted.Lists.{Every, Permuted, empty, more, here, there}
use Rattle.lists.specs.Sequences.{Mix, neither, left, right}
use Rattle.lists.specs.ListLaws.{every_none, every_cons, every_head, every_tail, every_append, every_left, every_right}
use Rattle.lists.specs.NumberLaws.{sum_mix}
use Rattle.lists.specs.MixLaws.{every_mix, mix_every, mix_permuted}
use Rattle.tree.specs.declared.Kind.{Kind}
use Rattle.tree.specs.Trusted.Tree.{Node, gate, Edges, none, edge}
use Rattle.tree.specs.Measures.{leaves, leaves*, many, proper, propers}
use Rattle.levels.specs.Gives.{fanins, Nets, size, Proper, Gives, net, drawn, both, placed}

-- ---- the fanins of a gate

pub fanins_many : (es : Edges) → T (many es) → 2 ≤ length (fanins es)
fanins_many none h = absurd h
fanins_many (edge i t none) h = absurd h
fanins_many (edge i t (edge j u es)) h = omega arith

pub fanins_proper : (es : Edges) → T (propers es) → Proper (fanins es)
fanins_proper none h = every_none _
fanins_proper (edge i t es) h = let p = and_split (proper t) (propers es) h in every_cons p.0 (fanins_proper es p.1)

pub nets_in : {P : ℕ → Type 0} (es : Edges) → Every P (leaves* es) → Nets P (fanins es)
nets_in none h = every_none _
nets_in (edge i t es) h = every_cons (every_left (leaves t) (leaves* es) h) (nets_in es (every_right (leaves t) (leaves* es) h))

pub nets_out : {P : ℕ → Type 0} (es : Edges) → Nets P (fanins es) → Every P (leaves* es)
nets_out none h = every_none _
nets_out (edge i t es) h = every_append (leaves t) (leaves* es) (every_head h) (nets_out es (every_tail h))

size_fanins : (es : Edges) → size (fanins es) ≡ length (leaves* es)
size_fanins none = refl
size_fanins (edge i t es) = simp length-append (omega (arith, size_fanins es))

-- ---- what a group gives

module _ {K : ℕ} {lev : ℕ → ℕ} where
  pub gives_permuted : {xs ys : List (Bool × Node)} {ℓ w c : ℕ} → Gives K lev xs ℓ w c → Permuted ys xs → Gives K lev ys ℓ w c
  gives_permuted (net h) (more here (more k _)) = elim k [ ]
  gives_permuted (net h) (more (there k) _) = elim k [ ]
  gives_permuted (drawn g) (more here (more k _)) = elim k [ ]
  gives_permuted (drawn g) (more (there k) _) = elim k [ ]
  gives_permuted (net h) (more here empty) = net h
  gives_permuted (drawn g) (more here empty) = drawn g
  gives_permuted (both m g h f) p = let q = mix_permuted p m in both q.4 (gives_permuted g q.2) (gives_permuted h q.3) f
  gives_permuted (placed g) p = placed (gives_permuted g p)

  -- a higher bound
  pub gives_higher : {zs : List (Bool × Node)} {ℓ w c : ℕ} (ℓ' : ℕ) → Gives K lev zs ℓ w c → ℓ ≤ ℓ' → Gives K lev zs ℓ' w c
  gives_higher ℓ' (net {n = n} h) l = net {n = n} {ℓ = ℓ'} (omega arith)
  gives_higher ℓ' (drawn g) l = drawn (gives_higher ℓ' g l)
  gives_higher ℓ' (both m g h f) l = both m (gives_higher ℓ' g l) (gives_higher ℓ' h l) f
  gives_higher zero (placed g) l = absurd (omega arith)
  gives_higher (suc ℓ') (placed g) l = placed (gives_higher ℓ' g (omega arith))

  -- nothing gives nothing
  pub no_gives : {ℓ w c : ℕ} → Gives K lev [] ℓ w c → ⊥
  no_gives (both neither g h f) = no_gives g
  no_gives (placed g) = no_gives g

  pub gives_wide : {zs : List (Bool × Node)} {ℓ w c : ℕ} → Gives K lev zs ℓ w c → 1 ≤ w
  gives_wide (net h) = omega arith
  gives_wide (drawn g) = gives_wide g
  gives_wide (both m g h f) = omega (arith, gives_wide g)
  gives_wide (placed g) = omega arith

  pub gives_narrow : {zs : List (Bool × Node)} {ℓ w c : ℕ} → 1 ≤ K → Gives K lev zs ℓ w c → w ≤ K
  gives_narrow k (net h) = k
  gives_narrow k (drawn g) = gives_narrow k g
  gives_narrow k (both m g h f) = f
  gives_narrow k (placed g) = k

  -- no net that is read has a level above the bound
  pub gives_above : {zs : List (Bool × Node)} {ℓ w c : ℕ} → Gives K lev zs ℓ w c → Nets (λ n. lev n ≤ ℓ) zs
  gives_above (net h) = every_cons (every_cons h (every_none _)) (every_none _)
  gives_above (drawn {es = es} g) = every_cons (nets_out es (gives_above g)) (every_none _)
  gives_above (both m g h f) = every_mix m (gives_above g) (gives_above h)
  gives_above (placed g) = λ z m n l. omega (arith, gives_above g z m n l)

  -- c tables do all that they can at a bound of c levels above the nets
  pub gives_lower : {zs : List (Bool × Node)} {ℓ w c : ℕ} (a : ℕ) → Nets (λ n. lev n ≤ a) zs → Gives K lev zs ℓ w c →
      Gives K lev zs (a + c) w c
  gives_lower a s (net {n = n} h) = let l : lev n ≤ a = every_head (every_head s) in net {n = n} {ℓ = a + 0} (omega arith)
  gives_lower a s (drawn {es = es} g) = drawn (gives_lower a (nets_in es (every_head s)) g)
  gives_lower a s (both {c = c} {d = d} m g h f) =
      let q = mix_every m s in
      both m (gives_higher (a + (c + d)) (gives_lower a q.0 g) (omega arith))
      (gives_higher (a + (c + d)) (gives_lower a q.1 h) (omega arith)) f
  gives_lower a s (placed {c = c} g) = rw (add-suc a c) (placed (gives_lower a s g))

  -- no more tables are needed than there are nets: each table has two inputs or more
  pub gives_few : {zs : List (Bool × Node)} {ℓ w c : ℕ} → Gives K lev zs ℓ w c →
      (v : ℕ) × (e : ℕ) × (v ≤ w) × (e ≤ c) × (e + v ≤ size zs) × Gives K lev zs ℓ v e
  gives_few (net h) = (1, 0, omega arith, omega arith, omega arith, net h)
  gives_few (drawn {es = es} g) =
      let q = gives_few g in
      (q.0, q.1, q.2, q.3, omega (arith, q.4, size_fanins es), drawn q.5)
  gives_few (both m g h f) =
      let q = gives_few g in
      let r = gives_few h in
      let s = sum_mix (λ z. length (leaves z.1)) m in (
        q.0 + r.0,
        q.1 + r.1,
        omega (arith, q.2, r.2),
        omega (arith, q.3, r.3),
        omega (arith, q.4, r.4, s),
        both m q.5 r.5 (omega (arith, q.2, r.2)),
      )
  gives_few (placed {ℓ = ℓ} g) =
      let q = gives_few g in
      by_cases (dec_lt 1 q.0)
      (λ l. (1, suc q.1, omega arith, omega (arith, q.3), omega (arith, q.4), placed q.5))
      (λ l. (q.0, q.1, omega arith, omega (arith, q.3), q.4, gives_higher (suc ℓ) q.5 (omega arith)))

  -- a group of two or more needs no table of its own
  pub gives_held : {zs : List (Bool × Node)} {ℓ w c : ℕ} → 2 ≤ length zs → Gives K lev zs ℓ w c →
      (v : ℕ) × (e : ℕ) × (2 ≤ v) × (e ≤ c) × (e + v ≤ size zs) × Gives K lev zs ℓ v e
  gives_held l (net h) = absurd (omega arith)
  gives_held l (drawn g) = absurd (omega arith)
  gives_held l (both m g h f) =
      let q = gives_few g in
      let r = gives_few h in
      let s = sum_mix (λ z. length (leaves z.1)) m in (
        q.0 + r.0,
        q.1 + r.1,
        omega (arith, gives_wide q.5, gives_wide r.5),
        omega (arith, q.3, r.3),
        omega (arith, q.4, r.4, s),
        both m q.5 r.5 (omega (arith, q.2, r.2)),
      )
  gives_held l (placed {ℓ = ℓ} g) =
      let q = gives_held l g in
      (q.0, q.1, q.2, omega (arith, q.3), q.4, gives_higher (suc ℓ) q.5 (omega arith))

  -- one fanin is no mix of two groups, and a drawn gate gives what its fanins give
  no_mixed : {z : Bool × Node} {xs ys : List (Bool × Node)} {ℓ v w c d : ℕ} → Mix xs ys (z ∷ []) →
      Gives K lev xs ℓ v c → Gives K lev ys ℓ w d → ⊥
  no_mixed (left neither) g h = no_gives h
  no_mixed (right neither) g h = no_gives g

  pub gate_out : {i : Bool} {k : Kind} {es : Edges} {ℓ w c : ℕ} → Gives K lev ((i, gate k es) ∷ []) ℓ w c → Gives K lev (fanins es) ℓ w c
  gate_out (drawn g) = g
  gate_out (both m g h f) = absurd (no_mixed m g h)
  gate_out (placed g) = placed (gate_out g)
