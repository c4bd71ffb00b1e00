-- The joined sheet, by the sheet's gates in rising number (02, #104). Internal definitions, against which the code is proved: `sheet_joined` in
-- SheetLaws says that it draws the joined tree, so that a reader may believe it in place of Trusted/Joined.
-- The gates are joined under their drawn numbers first. Those that went into their reader are then left out, and the others numbered anew.
use Rattle.std.specs.Prelude.{ℕ, ◌+◌, ◌-◌, Bool, false, cond, ◌&&◌, List, [], ◌∷◌, ◌++◌, map, leb, length, get_or}
use Rattle.lists.specs.Trusted.Lists.{gather, from}
use Rattle.lists.specs.Trusted.Tests.{elem}
use Rattle.tree.specs.declared.Kind.{Kind}
use Rattle.tree.specs.declared.Kind.TheVariants.{And as and}
use Rattle.tree.specs.Trusted.Tree.{turned}
use Rattle.sheet.specs.declared.Source.{Source}
use Rattle.sheet.specs.declared.Source.TheVariants.{Net as net, Gate as gate}
use Rattle.sheet.specs.declared.Edge.{Edge as Fanin}
use Rattle.tree.specs.Trusted.Limits.{most_fanins}
use Rattle.sheet.specs.Trusted.Sheet.{DrawnGate, DrawnSheet, gate_of}
use Rattle.joined.specs.Trusted.Joined.{chained}

abbrev pub gate_at : List DrawnGate → ℕ → DrawnGate
gate_at gs g = get_or gs (g - 1) (record { kind = and; fanins = [] })

-- ---- the gates in rising number, where `ds` are the gates before, as they are after their own joins

-- whether an edge is joined that stands in a gate of kind k beside so many other fanins
abbrev pub joins_source : List DrawnGate → (k : Kind) (others : ℕ) (inverted : Bool) → Source → Bool
joins_source ds k n i (net x) = false
joins_source ds k n i (gate g) = chained i k (gate_at ds g).kind && leb (n + length (gate_at ds g).fanins) most_fanins

abbrev pub lower_fanins : List DrawnGate → Source → List Fanin
lower_fanins ds (net x) = []
lower_fanins ds (gate g) = (gate_at ds g).fanins

abbrev pub turn_fanin : (inverted : Bool) → Fanin → Fanin
turn_fanin i f = record { inverted = turned i f.inverted; source = f.source }

-- the fanins that take the place of one, and the gate that is gone by it
abbrev pub fanins_in_place : List DrawnGate → (k : Kind) (others : ℕ) → Fanin → List Fanin
fanins_in_place ds k n f =
    cond (joins_source ds k n f.inverted f.source) (map (turn_fanin f.inverted) (lower_fanins ds f.source)) (f ∷ [])

abbrev pub gone_by : List DrawnGate → (k : Kind) (others : ℕ) → Fanin → List ℕ
gone_by ds k n f = cond (joins_source ds k n f.inverted f.source) (gate_of f.source) []

-- and so of a gate's fanins from left to right, after `before` that are not looked at again
abbrev pub joined_fanins : List DrawnGate → (k : Kind) (before : ℕ) → List Fanin → List Fanin
joined_fanins ds k n [] = []
joined_fanins ds k n (f ∷ fs) =
    let xs = fanins_in_place ds k (n + length fs) f in
    xs ++ joined_fanins ds k (n + length xs) fs

abbrev pub gone_into : List DrawnGate → (k : Kind) (before : ℕ) → List Fanin → List ℕ
gone_into ds k n [] = []
gone_into ds k n (f ∷ fs) = gone_by ds k (n + length fs) f ++ gone_into ds k (n + length (fanins_in_place ds k (n + length fs) f)) fs

abbrev pub joined_gate : List DrawnGate → DrawnGate → DrawnGate
joined_gate ds g = record { kind = g.kind; fanins = joined_fanins ds g.kind 0 g.fanins }

abbrev pub joined_gates : List DrawnGate → List DrawnGate → List DrawnGate
joined_gates ds [] = []
joined_gates ds (g ∷ gs) = joined_gate ds g ∷ joined_gates (ds ++ (joined_gate ds g ∷ [])) gs

abbrev pub gone_gates : List DrawnGate → List DrawnGate → List ℕ
gone_gates ds [] = []
gone_gates ds (g ∷ gs) = gone_into ds g.kind 0 g.fanins ++ gone_gates (ds ++ (joined_gate ds g ∷ [])) gs

-- ---- the gates that stay

abbrev pub stay : (gone : List ℕ) → ℕ → List ℕ
stay gone g = cond (elem g gone) [] (g ∷ [])

abbrev pub staying : (gone : List ℕ) → List ℕ → List ℕ
staying gone = gather (stay gone)

-- how many stay of the gates up to this one
abbrev pub new_number : (gone : List ℕ) → ℕ → ℕ
new_number gone g = length (staying gone (from 1 g))

abbrev pub new_source : (gone : List ℕ) → Source → Source
new_source gone (net n) = net n
new_source gone (gate g) = gate (new_number gone g)

abbrev pub new_fanin : (gone : List ℕ) → Fanin → Fanin
new_fanin gone f = record { inverted = f.inverted; source = new_source gone f.source }

abbrev pub new_gate : (gone : List ℕ) → DrawnGate → DrawnGate
new_gate gone g = record { kind = g.kind; fanins = map (new_fanin gone) g.fanins }

abbrev pub staying_gates : (gone : List ℕ) → List DrawnGate → List DrawnGate
staying_gates gone gs = map (λ g. new_gate gone (gate_at gs g)) (staying gone (from 1 (length gs)))

abbrev pub joined_sheet : DrawnSheet → DrawnSheet
joined_sheet s = record {
  out = s.out;
  inverted = s.inverted;
  gates = staying_gates (gone_gates [] s.gates) (joined_gates [] s.gates);
}
