-- A sheet with the tree that it draws: what is mapped. Internal definition: an add covers the joined tree (joined/specs/Trusted/Covered).
use Rattle.cover.specs.Trusted.CoverTables.{Circuit}
use Rattle.sheet.specs.Trusted.Sheet.{DrawnSheet}
use Rattle.sheet.specs.Trusted.Trees.{tree_of}

-- the sheet as the theory has it
abbrev pub drawn : DrawnSheet → Circuit
drawn s = record { tree = tree_of s; out = s.out; inverted = s.inverted }
