-- Sheets with one leaf more, computed, on least numbers that were worked out by hand.
use Rattle.std.specs.Prelude.{ℕ, ◌≡◌, refl, ◌⊎◌, Bool, true, false, not, List, [], ◌∷◌, ◌++◌, map, T}
use Rattle.std.proofs.Common.{arith, ap}
use Rattle.lists.specs.Trusted.Lists.{here, there, from}
use Rattle.lists.specs.Trusted.Tests.{elem}
use Rattle.lists.specs.Trusted.Checked.{passed, ◌>>=◌, given, require}
use Rattle.tree.specs.declared.Kind.{Kind}
use Rattle.tree.specs.declared.Kind.TheVariants.{And as and, Or as or}
use Rattle.tree.specs.Trusted.Tree.{Node, edge_count}
use Rattle.cover.specs.Trusted.Cover.{Least}
use Rattle.plan.specs.Key.{pack, better}
use Rattle.plan.specs.Subsets.{least_of}
use Rattle.plan.specs.Least.{least_is}
use Rattle.sheet.specs.declared.Source.TheVariants.{Gate as numbered}
use Rattle.sheet.specs.declared.Edge.{Edge as Fanin}
use Rattle.sheet.specs.Trusted.Sheet.{DrawnGate, DrawnSheet, leaf_nets}
use Rattle.sheet.specs.Trusted.Formed.{LeafNet}
use Rattle.sheet.specs.Trusted.Read.{read_sheet}
use Rattle.sheet.specs.NumberLaws.{not_elem}
use Rattle.joined.specs.Trusted.Joined.{edges_in}
use Rattle.joined.specs.Trusted.Covered.{covered}
use Rattle.drawing.specs.Trusted.Written.{written}
use Rattle.one_more.specs.Trusted.OneMoreLeaf.{leaf_fanin, OneMoreFanin, at_gate, after, OneMoreLeaf, NoneJoined, FewerLeaves}
use Rattle.one_more.proofs.Theorems.{more_least}

-- so many upright leaves, from net n on
abbrev leaves_from : (n count : ℕ) → List Fanin
leaves_from n count = map (leaf_fanin false) (from n count)

abbrev gate_fanin : ℕ → Fanin
gate_fanin g = record { inverted = false; source = numbered g }

abbrev over : Kind → List Fanin → DrawnGate
over k fs = record { kind = k; fanins = fs }

abbrev sheet_with : List DrawnGate → DrawnSheet
sheet_with gs = record { out = 100; inverted = false; gates = gs }

-- a leaf of net n more at one of the gates
with_leaf : {gs hs : List DrawnGate} (i : Bool) (n : ℕ) → LeafNet 100 n → T (not (elem n (leaf_nets gs))) → OneMoreFanin (leaf_fanin i n) gs hs →
    OneMoreLeaf (sheet_with gs) (sheet_with hs)
with_leaf i n l e o = record { inverted = i; leaf_net = n; new_net = (l, not_elem n _ e); gates = o; same_out = refl; same_sign = refl }

-- how many fanins the root has
abbrev root_count : Node → ℕ
root_count t = edge_count (edges_in t)

-- ---- no edge to join

-- an AND of nets 3 to 6, of some fanins in front of them, and of an OR
abbrev and_over_or : (front lower : List Fanin) → DrawnSheet
and_over_or front lower = sheet_with (over or lower ∷ over and (front ++ (gate_fanin 1 ∷ leaves_from 3 4)) ∷ [])

abbrev six : DrawnSheet
six = and_over_or [] (leaf_fanin false 1 ∷ leaf_fanin false 2 ∷ [])

-- the leaf 7, inverted, between the fanins of the OR
abbrev seven : DrawnSheet
seven = and_over_or [] (leaf_fanin false 1 ∷ leaf_fanin true 7 ∷ leaf_fanin false 2 ∷ [])

-- and the leaf 8 in front of those of the AND
abbrev eight : DrawnSheet
eight = and_over_or (leaf_fanin false 8 ∷ []) (leaf_fanin false 1 ∷ leaf_fanin true 7 ∷ leaf_fanin false 2 ∷ [])

none_joined_lem : NoneJoined six × NoneJoined seven × NoneJoined eight
none_joined_lem = (refl, refl, refl)

six_seven : OneMoreLeaf six seven
six_seven = with_leaf true 7 (omega arith) tt (at_gate {fs = leaves_from 1 2} (omega arith) (there here))

seven_eight : OneMoreLeaf seven eight
seven_eight = with_leaf false 8 (omega arith) tt (after (at_gate {fs = gate_fanin 1 ∷ leaves_from 3 4} (omega arith) here))

-- in tables of six inputs it rises to 2, and then stays
in_sixes : Least 6 (covered six).tree 1 × Least 6 (covered seven).tree 2 × Least 6 (covered eight).tree 2
unfolding pack better least_of
in_sixes = (least_is 6 (omega arith) and _ tt, least_is 6 (omega arith) and _ tt, least_is 6 (omega arith) and _ tt)

-- in tables of two inputs it rises, as it always does
in_twos : Least 2 (covered six).tree 5 × Least 2 (covered seven).tree 6 × Least 2 (covered eight).tree 7
unfolding pack better least_of
in_twos = (least_is 2 (omega arith) and _ tt, least_is 2 (omega arith) and _ tt, least_is 2 (omega arith) and _ tt)

-- the sheet of six leaves is accepted, and what is proved of it and of the one with the leaf is this
six_accepted : read_sheet (written six) ≡ passed six
unfolding ◌>>=◌ given require
six_accepted = refl

six_rises : ◌≡◌ {A = ℕ} 2 1 ⊎ ◌≡◌ {A = ℕ} 2 2
six_rises = more_least (written six) six seven six_accepted (omega arith) six_seven none_joined_lem.0 6 (omega arith) in_sixes.0 in_sixes.1

-- ---- at the bounds

-- a gate of nine fanins, the most that it may have
abbrev flat : ℕ → DrawnSheet
flat n = sheet_with (over and (leaves_from 1 n) ∷ [])

nine_ten : OneMoreLeaf (flat 9) (flat 10)
nine_ten =
    with_leaf false 10 (omega arith) tt (at_gate {fs = leaves_from 1 9} (omega arith) (there (there (there (there (there (there (there (there (there here))))))))))

-- 255 leaves are fewer than 256, and 256 are not
fewer_leaves : FewerLeaves (flat 255) × ¬ FewerLeaves (flat 256)
fewer_leaves = (omega arith, λ h. omega arith)

-- ---- an edge to join: it rises by two

-- gates 1 to 5 are ORs of three leaves, gate 6 an AND of these, gate 7 an AND of gate 6 and so many leaves
abbrev over_five : ℕ → DrawnSheet
over_five n =
    sheet_with (over or (leaves_from 1 3) ∷ over or (leaves_from 4 3) ∷ over or (leaves_from 7 3) ∷ over or (leaves_from 10 3) ∷ over or (leaves_from 13 3)
    ∷ over and (map gate_fanin (from 1 5)) ∷ over and (gate_fanin 6 ∷ leaves_from 16 n) ∷ [])

five_six : OneMoreLeaf (over_five 5) (over_five 6)
five_six =
    with_leaf false 21 (omega arith) tt (after (after (after (after (after (after (at_gate {fs = gate_fanin 6 ∷ leaves_from 16 5} (omega arith)
    (there (there (there (there (there (there here)))))))))))))

-- with five leaves the edge between the ANDs is joined, so that the root has ten fanins instead of six, and with six leaves it is not
joined_with_five : ¬ NoneJoined (over_five 5)
joined_with_five e = omega (arith, ap root_count e)

not_with_six : NoneJoined (over_five 6)
not_with_six = refl

-- joined, each OR fills a table with two leaves or tables of the same gate; apart, no leaf stands beside the ORs
rises_by_two : Least 5 (covered (over_five 5)).tree 5 × Least 5 (covered (over_five 6)).tree 7
unfolding pack better least_of
rises_by_two = (least_is 5 (omega arith) and _ tt, least_is 5 (omega arith) and _ tt)

-- ---- edges to join: it falls

-- gates 1 to 3 are ORs of four leaves, gate 4 an AND of gate 1 and eight leaves, gate 5 one of gates 2 and 3, gate 6 one of gates 4 and 5 and so
-- many leaves
abbrev over_two : ℕ → DrawnSheet
over_two n =
    sheet_with (over or (leaves_from 1 4) ∷ over or (leaves_from 5 4) ∷ over or (leaves_from 9 4) ∷ over and (gate_fanin 1 ∷ leaves_from 13 8)
    ∷ over and (gate_fanin 2 ∷ gate_fanin 3 ∷ []) ∷ over and (gate_fanin 4 ∷ gate_fanin 5 ∷ leaves_from 21 n) ∷ [])

none_one : OneMoreLeaf (over_two 0) (over_two 1)
none_one =
    with_leaf false 21 (omega arith) tt (after (after (after (after (after (at_gate {fs = gate_fanin 4 ∷ gate_fanin 5 ∷ []} (omega arith) (there (there here))))))))

-- as drawn, gate 4 is joined to gate 6, and then there is no room for gate 5; with the leaf there is none for gate 4, but there is for gate 5
joined_without : ¬ NoneJoined (over_two 0)
joined_without e = omega (arith, ap root_count e)

joined_with : ¬ NoneJoined (over_two 1)
joined_with e = omega (arith, ap root_count e)

falls : Least 6 (covered (over_two 0)).tree 5 × Least 6 (covered (over_two 1)).tree 4
unfolding pack better least_of
falls = (least_is 6 (omega arith) and _ tt, least_is 6 (omega arith) and _ tt)
