-- THE LEAST ROOT LEVEL AND THE FEWEST TABLES of every tree whose gates have two fanins or more, where a table has two inputs or
-- more: they are found by the computed lines, and so there are such.
use Rattle.std.specs.Prelude.{ℕ, zero, suc, ◌≤◌, ◌<◌, max, ◌≡◌, Bool, false, [], ◌∷◌, T, length}
use Rattle.std.proofs.Common.{arith}
use Rattle.std.proofs.Math.Decide.{dec_lt}
use Rattle.std.proofs.Math.Logic.{by_cases}
use Rattle.lists.specs.Cases.{and_split}
use Rattle.lists.specs.Sequences.{left}
use Rattle.lists.specs.MixLaws.{mix_none}
use Rattle.tree.specs.declared.Kind.{Kind}
use Rattle.tree.specs.Trusted.Tree.{Node, leaf, gate, Edges, none, edge}
use Rattle.tree.specs.Measures.{many, proper, propers}
use Rattle.levels.specs.Trusted.Levels.{Fastest}
use Rattle.levels.specs.Gives.{fanins, size, Gives, net, drawn, both, placed, AtMost, LeastEntry}
use Rattle.levels.specs.GivesLaws.{fanins_many, gives_higher, gives_narrow, gives_held}
use Rattle.levels.specs.EntryLaws.{entry_fanins}
use Rattle.levels.proofs.Fastest.{entry_fastest}
use Rattle.levels.specs.Fill.{at, tree_line}
use Rattle.levels.proofs.FillLaws.{line_entry}

-- the first number at which a function is below a bound
first : (f : ℕ → ℕ) (big n : ℕ) → f n < big → (m : ℕ) × (f m < big) × ((p : ℕ) → suc p ≡ m → big ≤ f p)
first f big zero h = (0, h, λ p e. absurd (omega arith))
first f big (suc n) h =
    by_cases (dec_lt (f n) big) (λ l. first f big n l) λ l. (suc n, h, λ p e. let q : p ≡ n = omega arith in rw q (omega arith))

module _ (K : ℕ) (lev : ℕ → ℕ) (two : 2 ≤ K) where
  -- every tree gives one input at some level
  mutual
    some_gives : (t : Node) → T (proper t) → (i : Bool) → (ℓ : ℕ) × (c : ℕ) × Gives K lev ((i, t) ∷ []) ℓ 1 c
    some_gives (leaf n) p i = (lev n, 0, net {n = n} {ℓ = lev n} (omega arith))
    some_gives (gate k es) p i =
        let q = and_split (many es) (propers es) p in
        let g = some_gives* es q.1 (omega (arith, fanins_many es q.0)) in
        (g.0, g.1, drawn g.2)

    pub some_gives* : (es : Edges) → T (propers es) → 1 ≤ length (fanins es) → (ℓ : ℕ) × (c : ℕ) × Gives K lev (fanins es) ℓ 1 c
    some_gives* none p l = absurd (omega arith)
    some_gives* (edge i t none) p l = some_gives t (and_split (proper t) (propers none) p).0 i
    some_gives* (edge i t (edge j u es)) p l =
        let q = and_split (proper t) (propers (edge j u es)) p in
        let g = some_gives t q.0 i in
        let h = some_gives* (edge j u es) q.1 (omega arith) in
        let m = max g.0 h.0 in
        (_, _, placed (both (left (mix_none _)) (gives_higher m g.2 (omega arith)) (gives_higher m h.2 (omega arith)) two))

  module _ (k : Kind) (es : Edges) (drawn : T (proper (gate k es))) (big : ℕ) (room : size (fanins es) ≤ suc big) where
    -- the entry of the root for K inputs at each bound
    abbrev root : ℕ → ℕ
    root ℓ = at big (tree_line big K lev (gate k es) ℓ) K

    root_entry : (ℓ : ℕ) → LeastEntry big (AtMost (Gives K lev (fanins es) ℓ) K) (root ℓ)
    root_entry ℓ = entry_fanins {i = false} {k = k} (line_entry K lev big (omega arith) (gate k es) drawn false ℓ K (omega arith))

    -- at the first bound at which it is below `big`, it is the number of tables below the root's
    pub fastest_found : (ℓ : ℕ) → at big (tree_line big K lev (gate k es) ℓ) K < big →
        ((p : ℕ) → suc p ≡ ℓ → big ≤ at big (tree_line big K lev (gate k es) p) K) →
        Fastest lev K (gate k es) (suc (at big (tree_line big K lev (gate k es) ℓ) K)) (suc ℓ)
    fastest_found ℓ l before = entry_fastest K lev k es (omega arith) drawn room (root_entry ℓ) l none_before
      where
        none_before : (p : ℕ) → suc p ≡ ℓ → LeastEntry big (AtMost (Gives K lev (fanins es) p) K) big
        none_before p e =
            let x = root_entry p in
            let q : root p ≡ big = omega (arith, before p e, x.most) in
            rw q at x

  pub fastest_is : (k : Kind) (es : Edges) → T (proper (gate k es)) → (n : ℕ) × (d : ℕ) × Fastest lev K (gate k es) n d
  fastest_is k es p =
      let q = and_split (many es) (propers es) p in
      let m = fanins_many es q.0 in
      let g = some_gives* es q.1 (omega arith) in
      let h = gives_held m g.2 in
      let big = size (fanins es) in
      let room : size (fanins es) ≤ suc big = omega arith in
      let low = (root_entry k es p big room g.0).low h.1 (h.0, gives_narrow (omega arith) h.5, h.5) in
      let f = first (root k es p big room) big g.0 (omega (arith, low, h.2, h.4)) in
      (suc (root k es p big room f.0), suc f.0, fastest_found k es p big room f.0 f.1 f.2)
