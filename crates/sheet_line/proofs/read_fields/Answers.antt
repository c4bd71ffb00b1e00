use Prim.Native.Nat.{◌+◌, ◌-◌, ◌*◌}
use native.Mathlib.Omega.{arith}
use borrow.Author.Rules.{rules}
use mathlib.Core.Path.{◌≡◌, sym, ap₂, ◌∙◌}
use lib.ListN.{take, drop}
use Rattle.decimal.specs.Trusted.Number.{columns}
use Rattle.decimal.specs.Trusted.Reading.{field_read}
use Rattle.decimal.specs.ReadingLaws.{read_number, read_none}
use Rattle.sheet_line.proofs.FieldLaws.{fields_uneven, so_far_bad, so_far_more, so_far_all}
use Rattle.sheet_line.proofs.read_fields.Goals as goal
use Rattle.sheet_line.proofs.read_fields.Goals.{After-read, then-count-eq0-via-then-count-eq0, then-count-eq0-via-else-count-eq0+then-count-gt-MOST_FIELDS}

-- what stands in the next columns
field_read_lem : (c : After-read) → c.read.result ≡ field_read (take columns (drop (columns * c.loop-i.i) c.args.line.now))
field_read_lem c =
    c.read.ensures ∙ ap₂ (λ n m. field_read (take n (drop m c.args.line.now))) (let e : c.loop-i.i * columns + columns - c.loop-i.i * columns ≡ columns = omega arith in e)
    (let e : c.loop-i.i * columns ≡ columns * c.loop-i.i = omega arith in e)

pub returns-then-line-ne0 : goal.returns-then-line-ne0
returns-then-line-ne0 c = record { same = fields_uneven c.args.line.now (λ k l m e. omega (arith, c.if-line-ne0.true)); room = tt }

pub returns-then-count-eq0 : goal.returns-then-count-eq0
returns-then-count-eq0 c =
    record {
      same = fields_uneven c.args.line.now
          (λ k l m e. elim c.then-count-eq0.branch [
            | then-count-eq0-via-then-count-eq0 w ↦ omega (arith, w.if-count-eq0.true)
            | then-count-eq0-via-else-count-eq0+then-count-gt-MOST_FIELDS w ↦ omega (arith, w.if-count-gt-MOST_FIELDS.true)
          ]);
      room = tt;
    }

pub returns-in_err-v : goal.returns-in_err-v
returns-in_err-v c =
    rw c.from_residual.ensures (so_far_bad c.loop-i.invariant (omega arith) (omega arith)
    (read_none (take columns (drop (columns * c.loop-i.i) c.args.line.now)) (sym (field_read_lem (goal.at.returns-in_err-v c).After-read) ∙ c.in_err-v.was)))

pub loop-i-preserved : goal.loop-i-preserved
loop-i-preserved c =
    so_far_more c.loop-i.invariant (omega arith) (omega arith) _
    (read_number (take columns (drop (columns * c.loop-i.i) c.args.line.now)) (sym (field_read_lem (goal.at.loop-i-preserved c).After-read) ∙ c.in_ok-v.was) (search rules) c.magnitude.ensures)
    (omega arith)

pub returns : goal.returns
returns c = so_far_all c.loop-i.invariant (omega arith) _ (omega (arith, c.loop-i.invariant.inside)) (omega arith)
