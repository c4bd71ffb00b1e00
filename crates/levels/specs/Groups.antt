-- A search for one gate, from some bound on: what groups of its fanins give where no new gate is chosen over inputs of a level
-- below `from`; and the arrays of the search at one bound: for each mask of fanins and each number of inputs w the fewest tables
-- below with which the selected fanins give at most w inputs, none of a level above the bound; or `big` where they cannot.
-- Internal definitions: the laws are in GroupLaws and RowLaws.
use Rattle.std.specs.Prelude.{ℕ, suc, ◌+◌, ◌-◌, ◌≤◌, ◌<◌, ◌≡◌, ◌⊎◌, Bool, List, [], ◌∷◌}
use Rattle.lists.specs.Sequences.{Mix}
use Rattle.tree.specs.Trusted.Tree.{Node}
use Rattle.plan.specs.Masks.{select, MaskWithin}
use Rattle.levels.specs.Gives.{Gives, AtMost, LeastEntry}

module _ (K : ℕ) (lev : ℕ → ℕ) (from : ℕ) where
  -- a fanin by itself; two parts under a new gate; and a new gate that is chosen
  pub data Groups : List (Bool × Node) → ℕ → ℕ → ℕ → Type 0 where
    alone : {z : Bool × Node} {ℓ w c : ℕ} → Gives K lev (z ∷ []) ℓ w c → Groups (z ∷ []) ℓ w c
    joined : {xs ys zs : List (Bool × Node)} {ℓ v w c d : ℕ} →
        Mix xs ys zs → Groups xs ℓ v c → Groups ys ℓ w d → v + w ≤ K → Groups zs ℓ (v + w) (c + d)
    chosen : {zs : List (Bool × Node)} {ℓ w c : ℕ} → from ≤ ℓ → Groups zs ℓ w c → Groups zs (suc ℓ) 1 (suc c)

  -- a table of its own for a new gate over the group
  abbrev pub GroupChosen : List (Bool × Node) → ℕ → ℕ → Type 0
  GroupChosen zs ℓ c = (p : ℕ) × (v : ℕ) × (d : ℕ) × (from ≤ p) × (ℓ ≡ suc p) × (c ≡ suc d) × Groups zs p v d

  module _ (big : ℕ) (zs : List (Bool × Node)) (ℓ : ℕ) where
    -- `f` has the entries of the fanins at the mask s
    abbrev pub LevelRow : (ℕ → ℕ) → ℕ → Type 0
    LevelRow f s = (w : ℕ) → w ≤ K → LeastEntry big (AtMost (Groups (select s zs) ℓ) w) (f w)

    -- so at each mask below n
    abbrev pub LevelRows : (ℕ → ℕ → ℕ) → ℕ → Type 0
    LevelRows best n = (s : ℕ) → 0 < s → s < n → LevelRow (best s) s

    -- `own` has the entry of a table of its own at each mask below n
    abbrev pub Owns : (ℕ → ℕ) → ℕ → Type 0
    Owns own n = (s : ℕ) → 0 < s → s < n → LeastEntry big (GroupChosen (select s zs) ℓ) (own s)

-- the entry e for w inputs at the mask top + r, `top` its highest bit: the least of q, the entry of a table of its own, and of
-- the sums of two entries, for i inputs at the mask without a submask u of r, and for the other inputs at u
pub record LevelCell (big : ℕ) (best : ℕ → ℕ → ℕ) (top r w q e : ℕ) : Type 0 where
  pub most : e ≤ big
  pub own : e ≤ q
  pub sums : (u i : ℕ) → 0 < u → MaskWithin u r → 0 < i → i < w → e ≤ best (top + r - u) i + best u (w - i)
  pub some : e < big →
      (e ≡ q) ⊎ ((u : ℕ) × (i : ℕ) × (0 < u) × MaskWithin u r × (0 < i) × (i < w) × (e ≡ best (top + r - u) i + best u (w - i)))
