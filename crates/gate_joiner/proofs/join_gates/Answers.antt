use Prim.Native.Nat.{◌+◌, ◌-◌, ◌≤◌, ◌<◌}
use native.Mathlib.Omega.{arith}
use mathlib.Core.Path.{◌≡◌, sym, ap, ◌∙◌}
use lib.ListN.{length, get_or, length-replicate}
use borrow.Author.Rules.{rules}
use Rattle.sheet.specs.Trusted.Limits.{most_gates}
use Rattle.sheet.specs.Trusted.Answers.{drawn_gate, drawn_sheet}
use Rattle.sheet.specs.PlaceLaws.{no_sheet_gate, no_edge, sheet_gates, few_gates, sheet_gate, gate_counted, gate_reads}
use Rattle.gate_fanins.specs.FaninLaws.{every_fanin}
use Rattle.joiner_laws.specs.JoiningLaws.{fanins_start, edge_kept, edge_joined, gate_joined, joining_start, joining_end}
use Rattle.gate_joiner.proofs.join_gates.Goals as goal
use Rattle.gate_joiner.proofs.join_gates.Goals.{then-joins, else-joins}

pub loop-g-init : goal.loop-g-init
loop-g-init c = joining_start (drawn_sheet c.args.sheet).gates _ (length-replicate most_gates c.begin-joined.result)

pub loop-i-init : goal.loop-i-init
loop-i-init c =
    let s = c.args.sheet in
    fanins_start c.loop-g.invariant (omega (arith, c.loop-g-test.true, sheet_gates s c.requires (search rules) (search rules)))
    (sheet_gate s c.requires (search rules) (search rules) c.loop-g-test.true) (gate_counted s c.requires (search rules) (search rules) c.loop-g-test.true) c.begin-x.ensures

pub place_of-at-requires : goal.place_of-at-requires
place_of-at-requires c =
    let s = c.args.sheet in
    let few : s.count ≤ most_gates = search rules in
    let reads = gate_reads s c.requires (search rules) few c.loop-g-test.true in
    every_fanin {P = λ j. (1 ≤ j) × (j ≤ most_gates)} c.fanins_of-fanins.result.now c.loop-i.i c.loop-i-test.true
    (rw c.fanins_of-fanins.ensures (λ j m. let b = reads j m in (b.0, omega (arith, b.1, few, c.loop-g-test.true))))

pub loop-i-preserved : goal.loop-i-preserved
loop-i-preserved c =
    let s = c.args.sheet in
    let e = c.fanins_of-fanins.ensures in
    let reads = gate_reads s c.requires (search rules) (search rules) c.loop-g-test.true in
    let l : c.loop-i.i < length (drawn_gate s.fanins (get_or s.gates c.loop-g.g no_sheet_gate)).fanins = omega (arith, c.loop-i-test.true, ap length e) in
    let is = ap (λ fs. get_or fs c.loop-i.i no_edge) (sym e) in
    let beside : c.loop-i.x.count + (length c.fanins_of-fanins.result.now - 1 - c.loop-i.i)
    ≡ c.loop-i.x.count + (length (drawn_gate s.fanins (get_or s.gates c.loop-g.g no_sheet_gate)).fanins - 1 - c.loop-i.i) = omega (arith, ap length e) in
    elim c.if-joins.branch [
      | then-joins w ↦ rw (w.gone-is, w.x-is)
          (edge_joined c.loop-i.invariant l reads is beside c.place_of-at.ensures.0 (sym c.joins.ensures ∙ w.if-joins.true) w.with_fanins-x.ensures
          (few_gates s c.requires (search rules) (search rules)))
      | else-joins w ↦ rw (w.gone-is, w.x-is, w.with_fanin-x.ensures)
          (edge_kept c.loop-i.invariant l reads is beside c.place_of-at.ensures.0 (sym c.joins.ensures ∙ w.if-joins.false))
    ]

pub loop-g-preserved : goal.loop-g-preserved
loop-g-preserved c =
    gate_joined c.loop-i.invariant (omega (arith, ap length c.fanins_of-fanins.ensures, c.loop-i-test.false))
    (few_gates c.args.sheet c.requires (search rules) (search rules))

pub returns : goal.returns
returns c = joining_end c.loop-g.invariant (omega (arith, c.loop-g-test.false, sheet_gates c.args.sheet c.requires (search rules) (search rules)))
