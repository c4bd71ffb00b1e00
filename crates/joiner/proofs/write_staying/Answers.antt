use Prim.Native.Nat.{ℕ, suc, ◌+◌, ◌≤◌, ◌<◌}
use native.Mathlib.Omega.{arith}
use mathlib.Core.Path.{◌≡◌, sym, ap, ◌∙◌}
use mathlib.Core.Bool.{Bool, false}
use mathlib.Core.List.{List, []}
use lib.ListN.{length, get_or}
use borrow.Author.Rules.{rules}
use Rattle.sheet.specs.Trusted.Limits.{most_gates, fanin_room}
use Rattle.sheet.specs.Trusted.Answers.{drawn_sheet}
use Rattle.sheet.specs.Trusted.Formed.{WellFormed}
use Rattle.sheet.specs.declared.Sheet.{Sheet}
use Rattle.sheet.specs.Trusted.Sheet.{DrawnGate, gate_of}
use Rattle.lists.specs.Trusted.Lists.{Every}
use Rattle.lists.specs.Trusted.Tests.{elem}
use Rattle.joined.specs.JoinedSheet.{joined_gates, gone_gates}
use Rattle.joined.proofs.SheetLaws.{joined_length}
use Rattle.joiner_laws.specs.declared.JoinedGate.{JoinedGate}
use Rattle.joiner_laws.specs.declared.JoinedGates.{JoinedGates}
use Rattle.joiner_laws.specs.Joining.{GateIs, no_joined_gate, AllJoined}
use Rattle.sheet.specs.PlaceLaws.{no_gate, no_edge, sheet_gates, few_gates}
use Rattle.joiner_laws.specs.WritingLaws.{edge_is, edge_reads, kept_few, used_few, fanin_put, gate_put, gate_gone, writing_end}
use Rattle.joiner.proofs.write_staying.Goals as goal
use Rattle.joiner.proofs.write_staying.Goals.{In-loop-g, then-not-joined-g+else-loop-i-test, else-not-joined-g}

-- a gate's turn
record Turn (sheet : Sheet) (r : JoinedGates) (g : ℕ) : Type 0 where
  formed : WellFormed (drawn_sheet sheet)
  joined : AllJoined (drawn_sheet sheet).gates r
  few : length (drawn_sheet sheet).gates ≤ most_gates
  inside : g < length (drawn_sheet sheet).gates

abbrev gate_in : JoinedGates → ℕ → JoinedGate
gate_in r g = get_or r.gates g no_joined_gate

abbrev next_in : Sheet → ℕ → DrawnGate
next_in sheet g = get_or (joined_gates [] (drawn_sheet sheet).gates) g no_gate

abbrev gone_in : Sheet → List ℕ
gone_in sheet = gone_gates [] (drawn_sheet sheet).gates

module _ (sheet : Sheet) (r : JoinedGates) (g : ℕ) (t : Turn sheet r g) where
  flag : {b : Bool} → get_or r.gone g false ≡ b → elem (suc g) (gone_in sheet) ≡ b
  flag e = sym (t.joined.gone g (omega (arith, t.inside, t.few))) ∙ e

  gate_is : GateIs (gate_in r g) (next_in sheet g)
  gate_is = t.joined.gates g (omega (arith, t.inside, joined_length [] (drawn_sheet sheet).gates))

  -- a fanin of a gate that stays
  module _ (i : ℕ) (l : i < (gate_in r g).count) where
    i_inside : i < length (next_in sheet g).fanins
    i_inside = omega (arith, l, gate_is.count)

    reads : Every (λ j. (1 ≤ j) × (j ≤ g)) (gate_of (get_or (gate_in r g).fanins i no_edge).source)
    reads = edge_reads (drawn_sheet sheet) t.formed t.inside gate_is i_inside

turn : (c : In-loop-g) → Turn c.args.sheet c.args.joined c.loop-g.g
turn c =
    let few = few_gates c.args.sheet c.requires.0 (search rules) (search rules) in
    let many = sheet_gates c.args.sheet c.requires.0 (search rules) (search rules) in
    record { formed = c.requires.0; joined = c.requires.1; few = few; inside = omega (arith, c.loop-g-test.true, many) }

kept_low : (c : In-loop-g) → c.loop-g.kept ≤ 254
kept_low c = let t = turn c in omega (arith, kept_few (drawn_sheet c.args.sheet) t.formed c.loop-g.invariant, t.inside, t.few)

fits : (c : In-loop-g) → get_or c.args.joined.gone c.loop-g.g false ≡ false → c.loop-g.used + (gate_in c.args.joined c.loop-g.g).count ≤ fanin_room
fits c e =
    let sheet = c.args.sheet in
    let t = turn c in
    let n = used_few (drawn_sheet sheet) t.formed c.loop-g.invariant t.inside (flag sheet c.args.joined c.loop-g.g t e) in
    omega (arith, n, (gate_is sheet c.args.joined c.loop-g.g t).count)

pub overflow_cast-size : goal.overflow_cast-size
overflow_cast-size c = record { fits = omega (arith, fits (goal.at.overflow_cast-size c).In-loop-g c.if-not-joined-g.true) }

pub place_of-at-requires : goal.place_of-at-requires
place_of-at-requires c =
    let t = turn (goal.at.place_of-at-requires c).In-loop-g in
    λ j m. let b = reads c.args.sheet c.args.joined c.loop-g.g t c.loop-i.i c.loop-i-test.true j m in (b.0, omega (arith, b.1, t.inside, t.few))

pub overflow_add-fanins : goal.overflow_add-fanins
overflow_add-fanins c = omega (arith, c.loop-i-test.true, fits (goal.at.overflow_add-fanins c).In-loop-g c.if-not-joined-g.true)

pub offset_bounds-fanins-used : goal.offset_bounds-fanins-used
offset_bounds-fanins-used c = omega (arith, c.loop-i-test.true, fits (goal.at.offset_bounds-fanins-used c).In-loop-g c.if-not-joined-g.true)

pub bounds-fanins-used : goal.bounds-fanins-used
bounds-fanins-used c = omega (arith, c.loop-i-test.true, fits (goal.at.bounds-fanins-used c).In-loop-g c.if-not-joined-g.true)

pub loop-i-preserved : goal.loop-i-preserved
loop-i-preserved c =
    let sheet = c.args.sheet in
    let s = drawn_sheet sheet in
    let r = c.args.joined in
    let g = c.loop-g.g in
    let t = turn (goal.at.loop-i-preserved c).In-loop-g in
    let i = c.loop-i.i in
    let l = c.loop-i-test.true in
    let m = i_inside sheet r g t i l in
    rw c.renumbered.ensures
    (fanin_put s t.formed c.loop-i.invariant m t.inside (flag sheet r g t c.if-not-joined-g.true) (edge_is s t.formed t.inside (gate_is sheet r g t) m) (reads sheet r g t i l)
    (ap (λ a. get_or c.loop-g.numbers a 0) c.place_of-at.ensures.0))

pub overflow_cast-used : goal.overflow_cast-used
overflow_cast-used c = record { fits = omega (arith, fits (goal.at.overflow_cast-used c).In-loop-g c.if-not-joined-g.true) }

pub bounds-gates-kept : goal.bounds-gates-kept
bounds-gates-kept c = omega (arith, kept_low (goal.at.bounds-gates-kept c).In-loop-g)

pub loop-g-preserved : goal.loop-g-preserved
loop-g-preserved c =
    let sheet = c.args.sheet in
    let r = c.args.joined in
    let g = c.loop-g.g in
    let t = turn (goal.at.loop-g-preserved c).In-loop-g in
    elim c.if-not-joined-g.branch [
      | then-not-joined-g+else-loop-i-test w ↦
          let is = gate_is sheet r g t in
          rw (w.gates-is, w.fanins-is, w.kept-is, w.used-is, w.placed.ensures)
          (gate_put (drawn_sheet sheet) t.formed w.loop-i.invariant (omega (arith, w.loop-i-test.false, is.count)) t.inside t.few (flag sheet r g t w.if-not-joined-g.true) is)
      | else-not-joined-g w ↦ rw (w.gates-is, w.fanins-is, w.kept-is, w.used-is)
          (gate_gone (drawn_sheet sheet) t.formed c.loop-g.invariant t.inside t.few (flag sheet r g t w.if-not-joined-g.false))
    ]

pub returns : goal.returns
returns c =
    writing_end (drawn_sheet c.args.sheet) c.requires.0 c.loop-g.invariant
    (omega (arith, c.loop-g-test.false, sheet_gates c.args.sheet c.requires.0 (search rules) (search rules)))
