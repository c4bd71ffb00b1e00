-- What a group of fanins gives to the table that reads or holds it, by binary gates: how many inputs it adds there, all of
-- them of a bounded level, and how many tables stand below. And the least such number of tables, as an entry of an array.
-- Internal definitions: the laws are in GivesLaws and EntryLaws.
use Rattle.std.specs.Prelude.{ℕ, suc, ◌+◌, ◌≤◌, ◌<◌, Bool, List, [], ◌∷◌, T, length}
use Rattle.lists.specs.Trusted.Lists.{Every, sum}
use Rattle.lists.specs.Sequences.{Mix}
use Rattle.tree.specs.declared.Kind.{Kind}
use Rattle.tree.specs.Trusted.Tree.{Node, leaf, gate, Edges, none, edge}
use Rattle.tree.specs.Measures.{leaves, proper}

-- the fanins of a gate: whether inverted, and what is read
abbrev pub fanins : Edges → List (Bool × Node)
fanins none = []
fanins (edge i t es) = (i, t) ∷ fanins es

-- each net that the group reads has the property; how many such nets there are; and each of its gates has two fanins or more
abbrev pub Nets : (ℕ → Type 0) → List (Bool × Node) → Type 0
Nets P = Every (λ z. Every P (leaves z.1))

abbrev pub size : List (Bool × Node) → ℕ
size = sum (λ z. length (leaves z.1))

abbrev pub Proper : List (Bool × Node) → Type 0
Proper = Every (λ z. T (proper z.1))

module _ (K : ℕ) (lev : ℕ → ℕ) where
  -- `Gives zs ℓ w c`: the group `zs` can give w inputs to one table, each of a level of at most ℓ, with c tables below. A net
  -- gives itself; a drawn gate what its fanins give; two parts under a new gate what both give; and what gives anything
  -- at a level gives one input at the next, by a table of its own
  pub data Gives : List (Bool × Node) → ℕ → ℕ → ℕ → Type 0 where
    net : {i : Bool} {n ℓ : ℕ} → lev n ≤ ℓ → Gives ((i, leaf n) ∷ []) ℓ 1 0
    drawn : {i : Bool} {k : Kind} {es : Edges} {ℓ w c : ℕ} → Gives (fanins es) ℓ w c → Gives ((i, gate k es) ∷ []) ℓ w c
    both : {xs ys zs : List (Bool × Node)} {ℓ v w c d : ℕ} →
        Mix xs ys zs → Gives xs ℓ v c → Gives ys ℓ w d → v + w ≤ K → Gives zs ℓ (v + w) (c + d)
    placed : {zs : List (Bool × Node)} {ℓ w c : ℕ} → Gives zs ℓ w c → Gives zs (suc ℓ) 1 (suc c)

-- at most w inputs, of what gives v inputs with c tables below
abbrev pub AtMost : (ℕ → ℕ → Type 0) → ℕ → ℕ → Type 0
AtMost G w c = (v : ℕ) × (v ≤ w) × G v c

-- `e` is the least number with the property, or `big` where none below `big` has it
pub record LeastEntry (big : ℕ) (P : ℕ → Type 0) (e : ℕ) : Type 0 where
  pub some : e < big → P e
  pub low : (c : ℕ) → P c → e ≤ c
  pub most : e ≤ big
