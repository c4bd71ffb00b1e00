use Prim.Native.Nat.{ℕ, ◌+◌, ◌≤◌, ◌<◌}
use native.Mathlib.Omega.{arith}
use borrow.Author.Rules.{rules}
use mathlib.Core.Path.{◌≡◌, refl, sym, ap, ◌∙◌}
use mathlib.Core.List.{List}
use lib.ListN.{drop}
use Rattle.std.specs.Prelude.{Option, Ok, Err, Some, None}
use Rattle.sheet.specs.declared.SheetError.{SheetError}
use Rattle.sheet.specs.declared.Refusal.{Refusal}
use Rattle.sheet.specs.LineAnswers.{read_on_line, refused_on_line}
use Rattle.sheet_line.specs.declared.GateLine.{GateLine}
use Rattle.lists.specs.Trusted.Checked.{refused}
use Rattle.sheet.specs.Trusted.Limits.{fanin_room}
use Rattle.sheet.specs.Trusted.Read.{nothing, read_left}
use Rattle.sheet.specs.Trusted.Answers.{number_of, drawn_gates}
use Rattle.sheet_fanin.specs.Fanins.{flags_after}
use Rattle.sheet_gates.specs.Gates.{GatesRead}
use Rattle.sheet_gates.proofs.LinesLaws.{at_start, line_refused, line_taken, lines_over, fanin_refused, fanin_room_lem, fanin_taken, after_room, gate_taken}
use Rattle.sheet_gates.proofs.gate_lines.Goals as goal
use Rattle.sheet_gates.proofs.gate_lines.Goals.{At-loop-i, In-Ok, In-Ok-at_line, else-lines-test, then-lines-test+in-Err, then-lines-test+in-Ok+then-loop-i-test+in-Err-at_line}

abbrev line_of : At-loop-i → GateLine
line_of c = c.in-Ok.line

-- what was read of a line, and of a fanin
line_is : (c : In-Ok) → c.read_gate_line.result ≡ Ok c.in-Ok.line
line_is c = read_on_line (c.lines.g + 1 + 1) c.read_gate_line.result c.at_line.ensures c.in-Ok.is

source_is : (c : In-Ok-at_line) → c.read_fanin-fanin.result ≡ Ok c.in-Ok-at_line.source
source_is c = read_on_line (c.lines.g + 1 + 1) c.read_fanin-fanin.result c.at_line-in-loop-i.ensures c.in-Ok-at_line.is

-- there is room for an accepted fanin
room_left : (c : In-Ok-at_line) → c.lines.used + c.loop-i.i < fanin_room
room_left c =
    fanin_room_lem c.args.text.now c.args.start c.args.out c.args.count c.loop-i.invariant.1 (omega (arith, c.ranges)) c.read_fanin-fanin.result c.read_fanin-fanin.ensures.0
    c.in-Ok-at_line.source (source_is c)

-- and for all of a line
room_after : (b : At-loop-i) → (line_of b).count ≤ b.loop-i.i → b.lines.used + (line_of b).count ≤ fanin_room
room_after b k =
    let a = b.args in
    after_room a.text.now a.start a.out a.count b.loop-i.invariant.1 k

pub lines-init : goal.lines-init
lines-init c =
    (refl, at_start c.args.text.now c.args.start c.args.out c.args.count _ _ refl refl c.requires)

pub loop-i-init : goal.loop-i-init
loop-i-init c =
    let a = c.args in
    (c.lines.invariant.0, line_taken a.text.now a.start a.out a.count c.lines.invariant.1 (omega arith) c.read_gate_line.result c.read_gate_line.ensures c.in-Ok.line (line_is c))

pub overflow_add-at : goal.overflow_add-at
overflow_add-at c = omega (arith, room_left c)

pub offset_bounds-fanins-at : goal.offset_bounds-fanins-at
offset_bounds-fanins-at c = omega (arith, room_left (goal.at.offset_bounds-fanins-at c).In-Ok-at_line)

pub bounds-fanins-at : goal.bounds-fanins-at
bounds-fanins-at c = omega (arith, room_left (goal.at.bounds-fanins-at c).In-Ok-at_line, c.loop-i.invariant.1.wide)

pub with_leaf-leaves-requires : goal.with_leaf-leaves-requires
with_leaf-leaves-requires c = c.loop-i.invariant.1.few

pub loop-i-preserved : goal.loop-i-preserved
loop-i-preserved c =
    let f = c.read_fanin-fanin in
    let is = source_is (goal.at.loop-i-preserved c).In-Ok-at_line in (
      c.loop-i.invariant.0,
      fanin_taken c.args.text.now c.args.start c.args.out c.args.count c.loop-i.invariant.1 (omega (arith, c.ranges)) f.result f.ensures.0
          c.in-Ok-at_line.source is (omega (arith, c.loop-i-test.true)) _ (search rules) c.with_leaf-leaves.result c.with_leaf-leaves.ensures
          f.new.seen (f.ensures.1 ∙ ap (flags_after c.loop-i.seen _) is),
    )

pub overflow_cast-gates : goal.overflow_cast-gates
overflow_cast-gates c = omega (arith, room_after (goal.at.overflow_cast-gates c).At-loop-i (omega arith))

pub overflow_add-used : goal.overflow_add-used
overflow_add-used c = omega (arith, room_after (goal.at.overflow_add-used c).At-loop-i (omega arith))

pub lines-preserved : goal.lines-preserved
lines-preserved c =
    (c.loop-i.invariant.0, gate_taken c.args.text.now c.args.start c.args.out c.args.count c.loop-i.invariant.1 (omega arith) (omega (arith, c.ranges)) _ refl)

-- no fault was found, and one was
no_fault : {A : Type 0} {o : Option SheetError} {e : SheetError} → o ≡ Some e → o ≡ None → A
no_fault p q = let no : ◌≡◌ {A = ℕ} 0 1 = cc in absurd (omega arith)

pub returns-in-None : goal.returns-in-None
returns-in-None c =
    let a = c.args in
    let h = c.lines.invariant.1 in
    elim c.lines-test.branch [
      | else-lines-test w ↦ rw (w.fanins-is, w.seen-is) (
        (drawn_gates c.lines.fanins a.count c.lines.gates, h.seen, drop c.lines.end a.text.now),
        (record { gates = refl; marked = h.marked.gates; rest = refl; within = h.inside }, lines_over a.text.now a.start a.out a.count h (omega (arith, w.lines-test.false))),
      )
      | then-lines-test+in-Err w ↦ no_fault w.fault-is c.in-None.is
      | then-lines-test+in-Ok+then-loop-i-test+in-Err-at_line w ↦ no_fault w.fault-is c.in-None.is
    ]

-- a refusal on the line of a gate
refused_there : (text : List ℕ) (start out count : ℕ) {e f : SheetError} {why : Refusal} {place : ℕ} → Some e ≡ Some f → e ≡ record { why = why; line = place } →
    read_left out count 1 nothing (drop start text) ≡ refused (number_of why) place → GatesRead text start out count (Err f)
refused_there text start out count {e} {f} {why} {place} s q r =
    let same : e ≡ f = cc in
    r ∙ sym (ap (λ (x : SheetError). refused (number_of x.why) x.line) (sym same ∙ q))

pub returns-in-Some : goal.returns-in-Some
returns-in-Some c =
    let a = c.args in
    elim c.lines-test.branch [
      | else-lines-test w ↦ no_fault (c.in-Some.is) (w.fault-is ∙ c.lines.invariant.0)
      | then-lines-test+in-Err w ↦
          let q = refused_on_line (c.lines.g + 1 + 1) w.read_gate_line.result w.at_line.ensures w.in-Err.is in
          refused_there a.text.now a.start a.out a.count (sym w.fault-is ∙ c.in-Some.is) q.2
          (line_refused a.text.now a.start a.out a.count c.lines.invariant.1 (omega (arith, w.lines-test.true)) w.read_gate_line.result w.read_gate_line.ensures q.0 q.1)
      | then-lines-test+in-Ok+then-loop-i-test+in-Err-at_line w ↦
          let q = refused_on_line (c.lines.g + 1 + 1) w.read_fanin-fanin.result w.at_line-in-loop-i.ensures w.in-Err-at_line.is in
          refused_there a.text.now a.start a.out a.count (sym w.fault-is ∙ c.in-Some.is) q.2
          (fanin_refused a.text.now a.start a.out a.count w.loop-i.invariant.1 (omega (arith, w.loop-i-test.true)) w.read_fanin-fanin.result w.read_fanin-fanin.ensures.0 q.0 q.1)
    ]
