use Rattle.std.proofs.Common.{arith, sym, ◌∙◌, ◌≡◌, ◌+◌, ◌*◌, drop, subst, set, replicate}
use Rattle.std.proofs.Math.Option.{some}
use Rattle.decimal.specs.Trusted.Number.{columns}
use Rattle.decimal.specs.ReadingLaws.{parsed_some, parsed_none}
use Rattle.list_layout.specs.Trusted.Layout.{first_number}
use Rattle.list_layout.specs.TakenLaws.{NumbersSoFar, first_fits, numbers_none, numbers_more, numbers_missing}
use Rattle.list_line_reader.proofs.numbers_at.Goals as goal
use Rattle.list_line_reader.proofs.numbers_at.Goals.{In_ok-x}

pub loop-i-init : goal.loop-i-init
loop-i-init c =
    let a = c.args in
    let none : a.at ≡ a.at + 6 * 0 = omega arith in
    subst (NumbersSoFar a.text.now a.at 0 (replicate 6 0)) none (numbers_none a.text.now a.at)

pub returns-in_err-x : goal.returns-in_err-x
returns-in_err-x c =
    let a = c.args in
    let l = c.loop-i in
    rw c.from_residual.ensures (numbers_missing a.text.now a.at l.invariant a.n (omega arith)
    (parsed_none (first_number columns (drop (a.at + 6 * l.i) a.text.now)) (sym c.number_at.ensures ∙ c.in_err-x.was)))

-- the number that was read, in a turn
found : (c : In_ok-x) → first_number columns (drop (c.args.at + 6 * c.loop-i.i) c.args.text.now) ≡ some c.in_ok-x.x
found c = parsed_some (first_number columns (drop (c.args.at + 6 * c.loop-i.i) c.args.text.now)) (sym c.number_at.ensures ∙ c.in_ok-x.was)

pub overflow_cast-numbers : goal.overflow_cast-numbers
overflow_cast-numbers c =
    omega (arith, first_fits (drop (c.args.at + 6 * c.loop-i.i) c.args.text.now) (found (goal.at.overflow_cast-numbers c).In_ok-x))

pub loop-i-preserved : goal.loop-i-preserved
loop-i-preserved c =
    let a = c.args in
    let l = c.loop-i in
    let next : a.at + 6 * l.i + columns ≡ a.at + 6 * (l.i + 1) = omega arith in
    subst (NumbersSoFar a.text.now a.at (l.i + 1) (set l.numbers l.i c.in_ok-x.x)) next
    (numbers_more a.text.now a.at l.invariant (omega arith) (found (goal.at.loop-i-preserved c).In_ok-x))
