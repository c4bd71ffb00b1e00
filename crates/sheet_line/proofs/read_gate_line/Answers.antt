use Prim.Native.Nat.{ℕ, ◌+◌, ◌-◌, ◌≤◌, ◌<◌}
use native.Mathlib.Omega.{arith}
use mathlib.Core.Path.{◌≡◌, ap, ◌∙◌}
use mathlib.Core.Option.{some}
use lib.ListN.{length, take, drop}
use Rattle.std.proofs.lemmas.Result.{err_from_is_err_and}
use Rattle.lists.specs.Trusted.Checked.{passed}
use Rattle.sheet.specs.Trusted.Line.{line, fields}
use Rattle.sheet.specs.Trusted.Read.{gate_head_of}
use Rattle.sheet_line.specs.Inside.{gate_head_step}
use Rattle.sheet_line.proofs.GateLaws.{fanins_are, gate_none, line_missing, gate_line_refused, line_passed}
use Rattle.sheet_line.proofs.read_gate_line.Goals as goal
use Rattle.sheet_line.proofs.read_gate_line.Goals.{After-read_gate_head, In-Some}

-- the line that was found
line_is_lem : (c : In-Some) → let a = c.args in let end = c.in-Some.end in
    line (drop a.start a.text.now) ≡ some (take (end - a.start) (drop a.start a.text.now), drop (end + 1) a.text.now)
line_is_lem c = c.in-Some.ensures.cut

within : (c : In-Some) → let a = c.args in let end = c.in-Some.end in (a.start ≤ end) × (end < length a.text.now)
within c = c.in-Some.ensures.within

-- what its first two fields say
head_is_lem : (c : After-read_gate_head) (g : ℕ) → let a = c.args in
    let end = c.in-Some.end in
    gate_head_of g (fields (take (end - a.start) (drop a.start a.text.now))) ≡ gate_head_step g c.in-Some-read_fields.fields c.read_gate_head.result
head_is_lem c g = ap (gate_head_of g) c.in-Some-read_fields.ensures.same ∙ c.read_gate_head.ensures.step g

pub returns-in_default : goal.returns-in_default
returns-in_default c =
    let a = c.args in
    record { step = λ g. line_missing g (drop a.start a.text.now) c.in_default.ensures.cut; room = tt }

pub returns-in_default-read_fields : goal.returns-in_default-read_fields
returns-in_default-read_fields c =
    let a = c.args in
    record {
      step = λ g. gate_line_refused g (drop a.start a.text.now) (line_is_lem (goal.at.returns-in_default-read_fields c).In-Some)
          (ap (gate_head_of g) c.in_default-read_fields.ensures.same ∙ gate_none g);
      room = tt;
    }

pub returns-in_err-head : goal.returns-in_err-head
returns-in_err-head c =
    let a = c.args in
    let p = err_from_is_err_and c.from_residual.result c.from_residual.ensures.1 in
    rw (p.1, p.2) (record {
      step = λ g. gate_line_refused g (drop a.start a.text.now) (line_is_lem (goal.at.returns-in_err-head c).In-Some)
          (head_is_lem (goal.at.returns-in_err-head c).After-read_gate_head g ∙ ap (gate_head_step g c.in-Some-read_fields.fields) c.in_err-head.was);
      room = tt;
    })

pub returns : goal.returns
returns c =
    let a = c.args in
    let f = c.in-Some-read_fields.fields in
    let h = c.in_ok-head.head in
    let n = c.in_ok-head.ensures.fanins in
    record {
      step = λ g. line_passed g (drop a.start a.text.now) (line_is_lem (goal.at.returns c).In-Some)
          (head_is_lem (goal.at.returns c).After-read_gate_head g ∙ (ap (gate_head_step g f) c.in_ok-head.was ∙ ap (λ xs. passed (h.kind, xs)) (fanins_are f h.count n.0)));
      room = record {
        whole = c.in-Some-read_fields.ensures.room.whole;
        within = n.1;
        ends = omega (arith, within (goal.at.returns c).In-Some);
      };
    }
