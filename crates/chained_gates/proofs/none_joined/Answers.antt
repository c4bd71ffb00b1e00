use Prim.Native.Nat.{ℕ, ◌-◌, ◌≤◌, ◌<◌}
use native.Mathlib.Omega.{arith}
use mathlib.Core.Path.{◌≡◌, refl, sym, ap, ◌∙◌, subst, subst₂}
use mathlib.Core.List.{List}
use Rattle.joined.specs.JoinedSheet.{joins_source}
use lib.ListN.{length, get_or, take}
use borrow.Author.Rules.{rules}
use Rattle.std.proofs.Common.{Bool, length-take-le, get_or-take}
use Rattle.sheet.specs.declared.Edge.{Edge}
use Rattle.sheet.specs.declared.Sheet.{Sheet}
use Rattle.lists.specs.Trusted.Lists.{Every}
use Rattle.gate_fanins.specs.FaninLaws.{every_fanin}
use Rattle.sheet.specs.Trusted.Sheet.{gate_of, fanin_gates}
use Rattle.sheet.specs.Trusted.Limits.{most_gates}
use Rattle.sheet.specs.Trusted.Formed.{WellFormed}
use Rattle.sheet.specs.Trusted.Answers.{drawn_gate, drawn_sheet}
use Rattle.sheet.specs.PlaceLaws.{no_sheet_gate, no_edge, sheet_gates, sheet_gate, gate_counted, gate_reads}
use Rattle.joiner_laws.specs.NoneJoinedLaws.{fanins_first, fanins_last, fanin_stays, fanin_joins}
use Rattle.chained_gates.proofs.none_joined.Goals as goal

abbrev fanins_in : Sheet → ℕ → List Edge
fanins_in sheet g = (drawn_gate sheet.fanins (get_or sheet.gates g no_sheet_gate)).fanins

-- a gate's turn, in a sheet whose array is as long as its type says; it has these fanins
module _ (sheet : Sheet) (w : WellFormed (drawn_sheet sheet)) (room : length sheet.gates ≡ most_gates) (most : sheet.count ≤ most_gates) (g : ℕ)
    (l : g < length (take sheet.count sheet.gates)) where
  inside : g < sheet.count
  inside = omega (arith, l, length-take-le sheet.count sheet.gates (omega (arith, room)))

  gate_is : get_or (take sheet.count sheet.gates) g no_sheet_gate ≡ get_or sheet.gates g no_sheet_gate
  gate_is = get_or-take sheet.count sheet.gates g no_sheet_gate inside

  module _ {fs : List Edge} (e : fs ≡ (drawn_gate sheet.fanins (get_or (take sheet.count sheet.gates) g no_sheet_gate)).fanins) where
    fanins_are : fs ≡ fanins_in sheet g
    fanins_are = e ∙ ap (λ x. (drawn_gate sheet.fanins x).fanins) gate_is

    -- what is asked of a fanin, by its place in the sheet
    decided : (i : ℕ) {b : Bool} →
        let x = get_or (take sheet.count sheet.gates) g no_sheet_gate in
        let f = get_or fs i no_edge in
        let d = drawn_gate sheet.fanins (get_or sheet.gates g no_sheet_gate) in
        let h = get_or d.fanins i no_edge in
        b ≡ joins_source (drawn_sheet sheet).gates x.kind (length fs - 1) f.inverted f.source → joins_source (drawn_sheet sheet).gates d.kind (length d.fanins - 1) h.inverted h.source ≡ b
    decided i {b} h =
        subst₂ (λ x fs. let f = get_or fs i no_edge in joins_source (drawn_sheet sheet).gates x.kind (length fs - 1) f.inverted f.source ≡ b) gate_is fanins_are (sym h)

    reads : (i : ℕ) → i < length fs → Every (λ j. (1 ≤ j) × (j ≤ sheet.count)) (gate_of (get_or fs i no_edge).source)
    reads i m =
        every_fanin {P = λ j. (1 ≤ j) × (j ≤ sheet.count)} fs i m (subst (λ fs. Every (λ j. (1 ≤ j) × (j ≤ sheet.count)) (fanin_gates fs)) (sym fanins_are) (λ j o. let b = gate_reads sheet w room most inside j o in (b.0, omega (arith, b.1, inside))))

pub loop-edge-init : goal.loop-edge-init
loop-edge-init c =
    let here = inside c.args.sheet c.requires (search rules) (search rules) _ c.loop-gate-test.true in
    fanins_first c.loop-gate.invariant (omega (arith, here, sheet_gates c.args.sheet c.requires (search rules) (search rules)))
    (sheet_gate c.args.sheet c.requires (search rules) (search rules) here)

pub joins-requires : goal.joins-requires
joins-requires c =
    let s = c.args.sheet in
    let l = c.loop-gate-test.true in
    let e = c.fanins_of-fanins.ensures in
    let few = gate_counted s c.requires (search rules) (search rules) (inside s c.requires (search rules) (search rules) _ l) in (
      c.requires,
      reads s c.requires (search rules) (search rules) _ l e c.loop-edge.edge-index c.loop-edge-test.true,
      omega (arith, ap length (fanins_are s c.requires (search rules) (search rules) _ l e), few),
    )

pub loop-edge-preserved : goal.loop-edge-preserved
loop-edge-preserved c =
    let s = c.args.sheet in
    let l = c.loop-gate-test.true in
    let e = c.fanins_of-fanins.ensures in
    fanin_stays c.loop-edge.invariant (subst (λ fs. c.loop-edge.edge-index < length fs) (fanins_are s c.requires (search rules) (search rules) _ l e) c.loop-edge-test.true) refl
    (decided s c.requires (search rules) (search rules) _ l e _ c.joins.ensures ∙ c.if-joins.false)

pub returns-then-joins : goal.returns-then-joins
returns-then-joins c =
    let s = c.args.sheet in
    let l = c.loop-gate-test.true in
    let e = c.fanins_of-fanins.ensures in
    fanin_joins c.loop-edge.invariant (subst (λ fs. c.loop-edge.edge-index < length fs) (fanins_are s c.requires (search rules) (search rules) _ l e) c.loop-edge-test.true) refl
    (decided s c.requires (search rules) (search rules) _ l e _ c.joins.ensures ∙ c.if-joins.true)

pub loop-gate-preserved : goal.loop-gate-preserved
loop-gate-preserved c =
    fanins_last c.loop-edge.invariant
    (subst (λ fs. length fs ≤ c.loop-edge.edge-index) (fanins_are c.args.sheet c.requires (search rules) (search rules) _ c.loop-gate-test.true c.fanins_of-fanins.ensures) c.loop-edge-test.false)
