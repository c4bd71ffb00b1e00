-- Tables that are not placed yet, and what two of them are merged into. Internal definitions: the laws are in MergeLaws.
use Rattle.std.specs.Prelude.{ℕ, Bool, [], ◌∷◌, ◌++◌}
use Rattle.lists.specs.Trusted.Lists.{sorted}
use Rattle.tree.specs.declared.Kind.{Kind}
use Rattle.tree.specs.Trusted.Tree.{turned, meet}
use Rattle.cover.specs.Trusted.Tables.{LookupTable, output, tabled}

-- a table that is not placed, and whether it is read inverted
pub record Operand : Type 0 where
  pub inverted : Bool
  pub table : LookupTable

-- the table that has the value of one code
abbrev pub single : ℕ → LookupTable
single c = record { drives = 0; inputs = c ∷ []; truth = 2 }

-- the table that holds a gate of two fanins
unfoldable pub merged : Kind → Operand → Operand → LookupTable
merged k x y =
    tabled 0 (sorted (x.table.inputs ++ y.table.inputs))
    (λ e. meet k (turned x.inverted (output x.table e)) (turned y.inverted (output y.table e)))
