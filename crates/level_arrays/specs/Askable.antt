-- What a gate can be asked to give, and the lines of its fanins. Internal definitions: the laws are in GateLaws and BackLaws.
use Rattle.std.specs.Prelude.{ℕ, suc, ◌-◌, ◌≤◌, ◌<◌, ◌≡◌, Bool, List, [], ◌∷◌, length, get_or}
use Rattle.tree.specs.Trusted.Tree.{Node}
use Rattle.levels.specs.Gives.{Gives, AtMost, LeastEntry}
use Rattle.levels.specs.Lines.{LevelLines}
use Rattle.levels.specs.Demands.{Demand}
use Rattle.level_arrays.specs.Arrays.{big, fan_line}
use Rattle.level_arrays.specs.declared.Fans.{Fans}

-- the demand is the entry of a gate with these fanins, and the gate need not be placed for it: at the bound before it gives nothing with fewer tables
pub record Askable (K : ℕ) (lev : ℕ → ℕ) (zs : List (Bool × Node)) (d : Demand) : Type 0 where
  pub entry : LeastEntry big (AtMost (Gives K lev zs d.bound) d.inputs) d.below
  pub some : d.below < big
  pub inputs : (1 ≤ d.inputs) × (d.inputs ≤ K)
  pub held : (p v c : ℕ) → suc p ≡ d.bound → Gives K lev zs p v c → d.below ≤ c

-- the lines that are kept of each fanin are its own
abbrev pub FanLines : (K : ℕ) (lev : ℕ → ℕ) → List (Bool × Node) → Bool × Node → List ℕ → Fans → Type 0
FanLines K lev zs z store f =
    (h : ℕ) → h < length zs → LevelLines K lev big (get_or zs h z ∷ []) (get_or f.levels h 0) (get_or f.lines h 0 - 1) (fan_line store f h)
