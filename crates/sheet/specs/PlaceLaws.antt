-- A sheet's gates and fanins by their places in the code's arrays.
use Rattle.std.specs.Prelude.{ℕ, zero, suc, ◌+◌, ◌<◌, ◌≤◌, ◌≡◌, refl, false, List, [], ◌∷◌, length, get_or, take, drop}
use Rattle.std.proofs.Common.{arith, ap, ◌∙◌, subst, length-take, length-drop, get_or-take, get_or-drop, length-take-le}
use Rattle.std.proofs.lemmas.List.{length-map}
use Rattle.lists.specs.Trusted.Lists.{Every}
use Rattle.lists.specs.ListLaws.{every_none, every_cons, every_head, every_left, every_right, every_at, map_at}
use Rattle.tree.specs.declared.Kind.TheVariants.{And}
use Rattle.sheet.specs.declared.Source.{Source}
use Rattle.sheet.specs.declared.Source.TheVariants.{Net, Gate}
use Rattle.sheet.specs.declared.Edge.{Edge}
use Rattle.sheet.specs.declared.Gate.{Gate as SheetGate}
use Rattle.sheet.specs.declared.Sheet.{Sheet}
use Rattle.sheet.specs.Trusted.Limits.{most_gates, fanin_room}
use Rattle.sheet.specs.Trusted.Sheet.{DrawnGate, gate_of, fanin_gates}
use Rattle.sheet.specs.Trusted.Answers.{drawn_gate, drawn_gates, drawn_sheet}
use Rattle.sheet.specs.Trusted.Formed.{FaninCount, Before, Earlier, WellFormed}

-- what a list or an array gives past its end: no gate, and no fanin
abbrev pub no_gate : DrawnGate
no_gate = record { kind = And; fanins = [] }

abbrev pub no_sheet_gate : SheetGate
no_sheet_gate = record { kind = And; count = 0; first = 0 }

abbrev pub no_edge : Edge
no_edge = record { inverted = false; source = Net 0 }

-- ---- gates

module _ (fs : List Edge) (gs : List SheetGate) {n : ℕ} (room : n ≤ length gs) where
  pub gates_drawn : length (drawn_gates fs n gs) ≡ n
  gates_drawn = length-map (take n gs) (drawn_gate fs) ∙ length-take-le n gs room

  pub gate_drawn : {g : ℕ} → g < n → get_or (drawn_gates fs n gs) g no_gate ≡ drawn_gate fs (get_or gs g no_sheet_gate)
  gate_drawn {g} l =
      map_at (drawn_gate fs) (take n gs) g no_sheet_gate no_gate (omega (arith, length-take-le n gs room)) ∙ ap (drawn_gate fs) (get_or-take n gs g no_sheet_gate l)

pub earlier_at : (n : ℕ) (gs : List DrawnGate) (i : ℕ) (z : DrawnGate) → Earlier n gs → i < length gs → Every (Before (n + i)) (fanin_gates (get_or gs i z).fanins)
earlier_at n [] i z e l = absurd (omega arith)
earlier_at n (x ∷ gs) zero z e l = λ j m. let b = e.0 j m in (b.0, omega arith)
earlier_at n (x ∷ gs) (suc i) z e l = λ j m. let b = earlier_at (suc n) gs i z e.1 (omega arith) j m in (b.0, omega arith)

-- ---- fanins

pub edge_drawn : (fs : List Edge) (x : SheetGate) {i : ℕ} → i < length (drawn_gate fs x).fanins → get_or (drawn_gate fs x).fanins i no_edge ≡ get_or fs (x.first + i) no_edge
edge_drawn fs x {i} l =
    get_or-take x.count (drop x.first fs) i no_edge (omega (arith, l, length-take x.count (drop x.first fs))) ∙ get_or-drop x.first fs i no_edge

-- what holds of each gate that is read holds of one
pub every_source : {P : ℕ → Type 0} (fs : List Edge) (i g : ℕ) → Every P (fanin_gates fs) → i < length fs → (get_or fs i no_edge).source ≡ Gate g → P g
every_source [] i g h l e = absurd (omega arith)
every_source {P} (f ∷ fs) zero g h l e = every_head (subst (λ s. Every P (gate_of s)) e (every_left (gate_of f.source) (fanin_gates fs) h))
every_source {P} (f ∷ fs) (suc i) g h l e = every_source {P = P} fs i g (every_right (gate_of f.source) (fanin_gates fs) h) (omega arith) e

-- ---- of a well-formed sheet

module _ (c : Sheet) (w : WellFormed (drawn_sheet c)) (room : length c.gates ≡ most_gates) (most : c.count ≤ most_gates) where
  pub sheet_gates : length (drawn_sheet c).gates ≡ c.count
  sheet_gates = gates_drawn c.fanins c.gates (omega (arith, room))

  pub few_gates : length (drawn_sheet c).gates ≤ most_gates
  few_gates = omega (arith, sheet_gates)

  -- a gate, counted from 0
  module _ {g : ℕ} (l : g < c.count) where
    abbrev here : SheetGate
    here = get_or c.gates g no_sheet_gate

    pub sheet_gate : get_or (drawn_sheet c).gates g no_gate ≡ drawn_gate c.fanins here
    sheet_gate = gate_drawn c.fanins c.gates (omega (arith, room)) l

    pub gate_counted : FaninCount (drawn_gate c.fanins here)
    gate_counted = subst FaninCount sheet_gate (every_at (drawn_sheet c).gates g no_gate w.fanin_counts (omega (arith, sheet_gates)))

    pub gate_reads : Every (λ j. (1 ≤ j) × (j ≤ g)) (fanin_gates (drawn_gate c.fanins here).fanins)
    gate_reads =
        subst (λ d. Every (λ j. (1 ≤ j) × (j ≤ g)) (fanin_gates d.fanins)) sheet_gate
        (λ j m. let b = earlier_at 1 (drawn_sheet c).gates g no_gate w.earlier (omega (arith, sheet_gates)) j m in (b.0, omega arith))

    -- a fanin of it
    module _ {i : ℕ} (m : i < length (drawn_gate c.fanins here).fanins) where
      pub fanin_placed : length c.fanins ≡ fanin_room → here.first + i < fanin_room
      fanin_placed wide = omega (arith, m, wide, length-take here.count (drop here.first c.fanins), length-drop here.first c.fanins)

      pub fanin_reads : Every (λ j. (1 ≤ j) × (j ≤ most_gates)) (gate_of (get_or c.fanins (here.first + i) no_edge).source)
      fanin_reads = of (get_or c.fanins (here.first + i) no_edge).source refl
        where
          of : (s : Source) → (get_or c.fanins (here.first + i) no_edge).source ≡ s → Every (λ j. (1 ≤ j) × (j ≤ most_gates)) (gate_of s)
          of (Net n) e = every_none _
          of (Gate j) e =
              let b = every_source {P = λ j. (1 ≤ j) × (j ≤ g)} (drawn_gate c.fanins here).fanins i j gate_reads m (ap (λ f. f.source) (edge_drawn c.fanins here m) ∙ e) in
              every_cons (b.0, omega (arith, b.1)) (every_none _)
