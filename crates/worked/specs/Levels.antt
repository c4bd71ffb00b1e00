-- The levels of tables (02, #103), computed, on lists whose levels are worked out by hand.
use Rattle.std.specs.Prelude.{ℕ, zero, suc, ◌+◌, ◌*◌, ◌≡◌, refl, List, [], ◌∷◌, ◌++◌}
use Rattle.lists.specs.Trusted.Lists.{from}
use Rattle.tree.specs.Trusted.Limits.{code_base}
use Rattle.cover.specs.Trusted.Tables.{LookupTable, levels_of}

-- a table that drives the net, or none, and reads the codes
abbrev reading : ℕ → List ℕ → LookupTable
reading n xs = record { drives = n; inputs = xs; truth = 0 }

-- ---- a chain: each table but the first reads the one before it, and w nets more

abbrev links : ℕ → ℕ → ℕ → List LookupTable
links w t zero = []
links w t (suc n) = reading 0 (from (t * w + 1) w ++ (code_base + t) ∷ []) ∷ links w (suc t) n

abbrev chain : ℕ → ℕ → List LookupTable
chain w n = reading 0 (1 ∷ from 2 w) ∷ links w 1 n

-- of 255 gates of two fanins, in tables of two inputs and of six
two_inputs : levels_of code_base (chain 1 254) ≡ from 1 255
two_inputs = refl

six_inputs : levels_of code_base (chain 5 50) ≡ from 1 51
six_inputs = refl

-- ---- sheets: tables that drive nets

-- the second reads the first's output net, and starts above it
above : levels_of code_base (reading 0 (1 ∷ 2 ∷ []) ∷ reading 20 (3 ∷ (code_base + 1) ∷ []) ∷ reading 0 (4 ∷ 20 ∷ []) ∷ reading 21 (5 ∷ (code_base + 3) ∷ []) ∷ []) ≡ 1 ∷ 2 ∷ 3 ∷ 4 ∷ []
above = refl

-- the two share free nets alone, and the second starts at 1
beside : levels_of code_base (reading 0 (1 ∷ 2 ∷ []) ∷ reading 20 (3 ∷ (code_base + 1) ∷ []) ∷ reading 0 (1 ∷ 2 ∷ []) ∷ reading 21 (3 ∷ (code_base + 3) ∷ []) ∷ []) ≡ 1 ∷ 2 ∷ 1 ∷ 2 ∷ []
beside = refl

-- the greatest counts, of tables and driven nets together: net 20 has level 2, table 3 level 1, net 21 level 3
greatest_counts : levels_of code_base (reading 0 (1 ∷ 2 ∷ []) ∷ reading 20 (3 ∷ (code_base + 1) ∷ []) ∷ reading 0 (4 ∷ 5 ∷ []) ∷ reading 21 (6 ∷ 20 ∷ (code_base + 3) ∷ []) ∷ reading 0 (20 ∷ 21 ∷ []) ∷ []) ≡ 1 ∷ 2 ∷ 1 ∷ 3 ∷ 4 ∷ []
greatest_counts = refl
