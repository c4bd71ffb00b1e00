-- Joined trees and a joined sheet (02, #104), computed, on trees that are joined by hand. The least numbers of 01's starred panels, joined, are
-- in Worked.
use Rattle.std.specs.Prelude.{◌≡◌, refl, true, false, [], ◌∷◌}
use Rattle.tree.specs.declared.Kind.TheVariants.{And as and, Or as or}
use Rattle.tree.specs.Trusted.Tree.{Node, leaf, gate, none, edge}
use Rattle.sheet.specs.declared.Source.{Source}
use Rattle.sheet.specs.declared.Source.TheVariants.{Net as net, Gate as numbered}
use Rattle.sheet.specs.declared.Edge.{Edge as Fanin}
use Rattle.sheet.specs.Trusted.Sheet.{DrawnSheet}
use Rattle.joined.specs.Trusted.Joined.{◌then◌, joined_tree}
use Rattle.joined.specs.JoinedSheet.{joined_sheet}
use Rattle.worked.specs.Worked.{ports, gates}

-- ---- the starred panels

three_ands : joined_tree (gate and (gates 3 and 3 1)) ≡ gate and (ports 9 1)
three_ands = refl

three_ors : joined_tree (gate and (gates 3 or 3 1)) ≡ gate and (gates 3 or 3 1)
three_ors = refl

-- ---- an AND on an inverted edge of an OR

turned_over_lem : joined_tree (gate or (edge true (gate and (edge false (leaf 1) (edge true (leaf 2) none))) (edge false (leaf 3) none)))
    ≡ gate or (edge true (leaf 1) (edge false (leaf 2) (edge false (leaf 3) none)))
turned_over_lem = refl

-- inverted between gates of one kind, no edge is joined
inverted_ands : (let t : Node = gate and (edge true (gate and (ports 2 1)) (ports 2 3)) in joined_tree t ≡ t)
inverted_ands = refl

-- ---- how many fanins

-- ten with one more gate: no room
ten_full : (let t : Node = gate and (edge false (gate and (ports 2 1)) (ports 9 3)) in joined_tree t ≡ t)
ten_full = refl

-- exactly ten
ten_fit : joined_tree (gate and (edge false (gate and (ports 2 1)) (ports 8 3))) ≡ gate and (ports 10 1)
ten_fit = refl

-- two of six: the first makes seven of the two fanins, the second would make twelve
first_only : joined_tree (gate and (gates 2 and 6 1)) ≡ gate and (ports 6 1 then edge false (gate and (ports 6 7)) none)
first_only = refl

-- of six, five and three: the first makes eight of the three fanins, the second would make twelve, the third makes ten
third_fits : joined_tree (gate and (edge false (gate and (ports 6 1)) (edge false (gate and (ports 5 7)) (edge false (gate and (ports 3 12)) none))))
    ≡ gate and (ports 6 1 then edge false (gate and (ports 5 7)) (ports 3 12))
third_fits = refl

-- ---- a join under a join

chain_of_three : joined_tree (gate and (edge false (leaf 1) (edge false (gate and (edge false (leaf 2) (edge false (gate and (ports 2 3)) none))) none)))
    ≡ gate and (ports 4 1)
chain_of_three = refl

-- a chain of four, of four leaves and then three, three and one more: the third gate has ten fanins, and goes into no other
ten_between : joined_tree (gate and (edge false (gate and (edge false (gate and (edge false (gate and (ports 4 1)) (ports 3 5))) (ports 3 8))) (ports 1 11)))
    ≡ gate and (edge false (gate and (ports 10 1)) (ports 1 11))
ten_between = refl

-- turned over twice
turned_twice : joined_tree (gate and (edge false (leaf 1) (edge true (gate or (edge false (leaf 2) (edge true (gate and (ports 2 3)) none))) none)))
    ≡ gate and (edge false (leaf 1) (edge true (leaf 2) (ports 2 3)))
turned_twice = refl

-- ---- where a gate has no fanins its join makes room for an edge that was looked at, and the joined tree is not settled

room_made : joined_tree (gate and (edge false (gate and (ports 10 1)) (edge false (gate and none) none))) ≡ gate and (edge false (gate and (ports 10 1)) none)
room_made = refl

-- ---- a sheet: gate 1 goes into gate 3, and gates 2 and 3 become 1 and 2

abbrev read : Source → Fanin
read s = record { inverted = false; source = s }

abbrev drawn : DrawnSheet
drawn = record {
  out = 9;
  inverted = true;
  gates =
      record { kind = or; fanins = read (net 1) ∷ read (net 2) ∷ [] } ∷ record { kind = or; fanins = read (net 3) ∷ read (net 4) ∷ [] }
      ∷ record { kind = and; fanins = record { inverted = true; source = numbered 1 } ∷ read (numbered 2) ∷ [] } ∷ [];
}

sheet_of_two : joined_sheet drawn ≡ record {
  out = 9;
  inverted = true;
  gates =
      record { kind = or; fanins = read (net 3) ∷ read (net 4) ∷ [] }
      ∷ record { kind = and; fanins = record { inverted = true; source = net 1 } ∷ record { inverted = true; source = net 2 } ∷ read (numbered 1) ∷ [] } ∷ [];
}
sheet_of_two = refl
