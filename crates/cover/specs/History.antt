-- A part made by adding sheets one after the other, and the value that each is to have. Internal definitions: the laws are in HistoryLaws.
use Rattle.std.specs.Prelude.{ℕ, ◌≡◌, Bool, List, [], ◌∷◌, ◌++◌}
use Rattle.tree.specs.Trusted.Tree.{turned}
use Rattle.tree.specs.Measures.{value}
use Rattle.cover.specs.Trusted.Tables.{LookupTable}
use Rattle.cover.specs.Trusted.CoverTables.{Circuit, CoverTables, Fresh}
use Rattle.cover.specs.Legal.{Legal}

-- a part made by adding sheets, and those sheets, the last one first
pub data History (base K : ℕ) : List LookupTable → List Circuit → Type 0 where
  start : History base K [] []
  add : {old new : List LookupTable} {s : Circuit} {ss : List Circuit} → History base K old ss → Legal base s → CoverTables base K old new s →
      Fresh s old → History base K (old ++ new) (s ∷ ss)

-- in the values `e`, the sheet's output net has its value
abbrev pub Met : (ℕ → Bool) → Circuit → Type 0
Met e s = e s.out ≡ turned s.inverted (value s.tree e)
