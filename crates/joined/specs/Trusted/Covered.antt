-- A sheet as it is covered (02, #104): "The covers and the least number are .. those of the joined tree". Definitions only.
use Rattle.cover.specs.Trusted.CoverTables.{Circuit}
use Rattle.sheet.specs.Trusted.Sheet.{DrawnSheet}
use Rattle.sheet.specs.Trusted.Trees.{tree_of}
use Rattle.joined.specs.Trusted.Joined.{joined_tree}

abbrev pub covered : DrawnSheet → Circuit
covered s = record { tree = joined_tree (tree_of s); out = s.out; inverted = s.inverted }
