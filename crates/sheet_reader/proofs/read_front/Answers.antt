use Prim.Native.Nat.{◌+◌, ◌-◌}
use mathlib.Core.Path.{◌≡◌, sym, ap, ◌∙◌, subst}
use mathlib.Core.Option.{some}
use lib.ListN.{take, drop}
use Rattle.std.proofs.lemmas.Result.{err_from_is_err_and}
use Rattle.lists.specs.Trusted.Checked.{passed}
use Rattle.sheet.specs.LineAnswers.{read_on_line, refused_on_line}
use Rattle.sheet.specs.Trusted.Line.{line, fields}
use Rattle.sheet.specs.Trusted.Read.{head_of}
use Rattle.sheet.specs.Trusted.Promise.{NextRead}
use Rattle.sheet_line.specs.Inside.{head_step}
use Rattle.sheet_reader.proofs.SheetLaws.{front_none, front_refused, front_passed, gates_refused, gates_passed}
use Rattle.sheet_reader.proofs.read_front.Goals as goal
use Rattle.sheet_reader.proofs.read_front.Goals.{After-read_head, In-Some, In_ok-head}

-- the line that was found
line_is_lem : (c : In-Some) → let a = c.args in let end = c.in-Some.end in
    line (drop a.start a.text.now) ≡ some (take (end - a.start) (drop a.start a.text.now), drop (end + 1) a.text.now)
line_is_lem c = c.in-Some.ensures.cut

-- what it says
head_is_lem : (c : After-read_head) → let a = c.args in
    head_of (fields (take (c.in-Some.end - a.start) (drop a.start a.text.now))) ≡ head_step c.read_head.result
head_is_lem c = ap head_of c.read_fields-fields.ensures.same ∙ c.read_head.ensures

pub returns-in_default : goal.returns-in_default
returns-in_default c =
    let a = c.args in
    record { same = front_none a.last (drop a.start a.text.now) c.in_default.ensures.cut; within = tt }

pub read_head-requires : goal.read_head-requires
read_head-requires c = c.read_fields-fields.ensures.room

pub returns-in_err-head : goal.returns-in_err-head
returns-in_err-head c =
    let a = c.args in
    let p = err_from_is_err_and c.from_residual.result c.from_residual.ensures.1 in
    let q = refused_on_line 1 c.read_head.result c.at_line.ensures c.in_err-head.was in
    rw (p.1, p.2, q.2) (record {
      same = front_refused a.last (drop a.start a.text.now) (line_is_lem (goal.at.returns-in_err-head c).In-Some)
          (head_is_lem (goal.at.returns-in_err-head c).After-read_head ∙ ap head_step q.1);
      within = tt;
    })

head_read : (c : In_ok-head) → let a = c.args in let h = c.in_ok-head.head in
    head_of (fields (take (c.in-Some.end - a.start) (drop a.start a.text.now))) ≡ passed (record { out = h.out; inverted = h.inverted; count = h.count })
head_read c =
    ap head_of c.read_fields-fields.ensures.same ∙ c.read_head.ensures ∙ ap head_step (read_on_line 1 c.read_head.result c.at_line.ensures c.in_ok-head.was)

pub returns-in_err-lines : goal.returns-in_err-lines
returns-in_err-lines c =
    let a = c.args in
    let p = err_from_is_err_and c.from_residual-in_err-lines.result c.from_residual-in_err-lines.ensures.1 in
    rw (p.1, p.2) (record {
      same = front_passed a.last (drop a.start a.text.now) (line_is_lem (goal.at.returns-in_err-lines c).In-Some) (head_read (goal.at.returns-in_err-lines c).In_ok-head)
          ∙ gates_refused a.last _ c.in_err-lines.ensures;
      within = tt;
    })

pub returns : goal.returns
returns c =
    let a = c.args in
    let g = c.in_ok-lines.ensures in
    subst (λ m. NextRead a.text.now m c.read_end.result)
    (sym (front_passed a.last (drop a.start a.text.now) (line_is_lem (goal.at.returns c).In-Some) (head_read (goal.at.returns c).In_ok-head)
    ∙ gates_passed a.last _ g.1.1))
    (c.read_end.ensures g.0 g.1.0)
