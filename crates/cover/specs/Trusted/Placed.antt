-- The tables of a cover: what each chosen gate's table reads and holds, and its number.
-- Definitions only: the laws are in Value, Size and Rising.
use Rattle.std.specs.Prelude.{ℕ, ◌+◌, Bool, false, List, [], ◌∷◌, ◌++◌}
use Rattle.lists.specs.Trusted.Lists.{sorted}
use Rattle.tree.specs.declared.Kind.{Kind}
use Rattle.tree.specs.Trusted.Tree.{turned, meet, unit}
use Rattle.cover.specs.Trusted.Cover.{Cover, net, top, Fanins, end, old, new, pick}
use Rattle.cover.specs.Trusted.Tables.{LookupTable, Placed, tabled}

-- the number of the root's table
abbrev pub root_number : Cover → ℕ
root_number (net n) = 0
root_number (top m k fs) = m

-- the table with the gate's number, where the gate is chosen
abbrev pub placed : ℕ → LookupTable → List Placed
placed m r = pick m [] ((m, r) ∷ [])

module _ (base : ℕ) where
  -- the code through which a gate is read where it is chosen, else the codes that it reads
  abbrev pub code : ℕ → List ℕ → List ℕ
  code m xs = pick m xs ((base + m) ∷ [])

  -- the codes that it gives to the table that reads or holds it
  abbrev mutual
    pub codes : Cover → List ℕ
    codes (net n) = n ∷ []
    codes (top m k fs) = code m (codes* fs)

    pub codes* : Fanins → List ℕ
    codes* end = []
    codes* (old i c fs) = codes c ++ codes* fs
    codes* (new m s fs) = code m (codes* s) ++ codes* fs

  -- the value that it has for that table, where `e` has the value of each code
  abbrev mutual
    pub held : Cover → (ℕ → Bool) → Bool
    held (net n) e = e n
    held (top m k fs) e = pick m (held* fs k e) (e (base + m))

    pub held* : Fanins → Kind → (ℕ → Bool) → Bool
    held* end k e = unit k
    held* (old i c fs) k e = meet k (turned i (held c e)) (held* fs k e)
    held* (new m s fs) k e = meet k (pick m (held* s k e) (e (base + m))) (held* fs k e)

  -- the table of a chosen gate of the kind k with the fanins `fs`: it drives n, and its value is inverted where v is true
  abbrev pub gate_table : ℕ → Bool → Kind → Fanins → LookupTable
  gate_table n v k fs = tabled n (sorted (codes* fs)) (λ e. turned v (held* fs k e))

  -- the tables of the chosen gates with their numbers, each after those below it; the root's drives n, with its value
  -- inverted where v is true, and the others drive nothing
  abbrev mutual
    pub records : Cover → ℕ → Bool → List Placed
    records (net c) n v = []
    records (top m k fs) n v = records* fs k ++ placed m (gate_table n v k fs)

    pub records* : Fanins → Kind → List Placed
    records* end k = []
    records* (old i c fs) k = records c 0 false ++ records* fs k
    records* (new m s fs) k = (records* s k ++ placed m (gate_table 0 false k s)) ++ records* fs k
