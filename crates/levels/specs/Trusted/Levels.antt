-- Levels of a cover, and the fewest: the least level of the root, and the fewest tables among the covers that have it.
-- Definitions only, of 02 "#107 Fewest levels" and "#103 Levels in the record"; their terms are quoted where they are defined.
use Rattle.std.specs.Prelude.{ℕ, ◌+◌, ◌≤◌, max, ◌≡◌}
use Rattle.tree.specs.Trusted.Tree.{Node}
use Rattle.cover.specs.Trusted.Cover.{Cover, net, top, Fanins, end, old, new, pick, tables, CoverOf}

-- `lev` has "the levels of the nets that its leaves read"
module _ (lev : ℕ → ℕ) where
  -- the greatest level of what it gives to the table that reads or holds it. A chosen gate's is its table's level, "1 plus the
  -- greatest level among the tables and driven nets it reads": so for a root that is chosen it is the "root level"
  abbrev mutual
    pub level : Cover → ℕ
    level (net n) = lev n
    level (top m k fs) = pick m (levels fs) (1 + levels fs)

    pub levels : Fanins → ℕ
    levels end = 0
    levels (old i c fs) = max (level c) (levels fs)
    levels (new m s fs) = max (pick m (levels s) (1 + levels s)) (levels fs)

  -- "a cover whose root level is least", d, and "among those covers .. the fewest tables", n
  pub record Fastest (K : ℕ) (t : Node) (n d : ℕ) : Type 0 where
    pub some : (c : Cover) × CoverOf K t c × (level c ≡ d) × (tables c ≡ n)
    pub none_lower : (c : Cover) → CoverOf K t c → d ≤ level c
    pub none_fewer : (c : Cover) → CoverOf K t c → level c ≡ d → n ≤ tables c
