-- The entries of a tree, as a program keeps them: from the greatest level of its nets on, as far as they change. Internal definitions.
use Rattle.std.specs.Prelude.{ℕ, ◌+◌, ◌-◌, ◌≤◌, min, Bool, cond, List, leb}
use Rattle.tree.specs.Trusted.Tree.{Node}
use Rattle.levels.specs.Gives.{Nets, Gives, AtMost, LeastEntry}

-- `a` is the greatest level of a net that the group reads
pub record Greatest (lev : ℕ → ℕ) (zs : List (Bool × Node)) (a : ℕ) : Type 0 where
  pub nets : Nets (λ n. lev n ≤ a) zs
  pub least : (ℓ : ℕ) → Nets (λ n. lev n ≤ ℓ) zs → a ≤ ℓ

-- no higher bound allows more
abbrev pub LevelSettled : ℕ → (ℕ → ℕ) → List (Bool × Node) → ℕ → Type 0
LevelSettled K lev zs ℓ = (ℓ' w c : ℕ) → Gives K lev zs ℓ' w c → (v : ℕ) × (e : ℕ) × (v ≤ w) × (e ≤ c) × Gives K lev zs ℓ v e

-- `f j w` is the entry for w inputs at the bound a + j, for each j up to `top`; and there it is settled
pub record LevelLines (K : ℕ) (lev : ℕ → ℕ) (big : ℕ) (zs : List (Bool × Node)) (a top : ℕ) (f : ℕ → ℕ → ℕ) : Type 0 where
  pub greatest : Greatest lev zs a
  pub exact : (j w : ℕ) → j ≤ top → w ≤ K → LeastEntry big (AtMost (Gives K lev zs (a + j)) w) (f j w)
  pub final : LevelSettled K lev zs (a + top)

-- the entry at any bound ℓ
unfoldable pub look : ℕ → ℕ → ℕ → (ℕ → ℕ → ℕ) → ℕ → ℕ → ℕ
look big a top f ℓ w = cond (leb a ℓ) (f (min (ℓ - a) top) w) big
