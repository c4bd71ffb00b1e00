use Rattle.std.proofs.Common.{arith, ◌≡◌, ◌+◌, ◌*◌, ◌∙◌, sym, refl, ap₂, drop, length, subst, rules}
use Rattle.std.proofs.Math.Option.{some}
use Rattle.decimal.specs.Trusted.Number.{columns}
use Rattle.decimal.specs.ReadingLaws.{parsed_some, parsed_none}
use Rattle.list_layout.specs.Trusted.Layout.{first_number}
use Rattle.list_layout.specs.Taken.{NumbersThere, LineFeedTaken}
use Rattle.list_layout.specs.TakenLaws.{first_ends}
use Rattle.list_layout.specs.LineTakenLaws.{taken_there, taken_missing, line_not, head_not, HeadTaken, head_there, inputs_not, truth_not, feed_not, table_there}
use Rattle.list_line_reader.proofs.read_table.Goals as goal
use Rattle.list_line_reader.proofs.read_table.Goals.{In_ok-n, In_ok-inputs, In_ok-truth}

pub returns-in_err-head : goal.returns-in_err-head
returns-in_err-head c =
    let a = c.args in
    rw c.from_residual.ensures (line_not a.text.now a.at a.t (taken_missing a.text.now a.at 3 c.in_err-head.was c.numbers_at.ensures))

pub returns-in_err-n : goal.returns-in_err-n
returns-in_err-n c =
    let a = c.args in
    rw c.from_residual-in_err-n.ensures
    (head_not a.text.now a.at a.t c.in_ok-head.head (taken_there a.text.now a.at 3 c.in_ok-head.was c.numbers_at.ensures) (sym c.input_count.ensures ∙ c.in_err-n.was))

-- the first three numbers
three : (c : In_ok-n) → NumbersThere c.args.text.now c.args.at 3 c.in_ok-head.head
three c = taken_there c.args.text.now c.args.at 3 c.in_ok-head.was c.numbers_at.ensures

head_taken : (c : In_ok-n) → HeadTaken c.args.text.now c.args.at c.args.t c.in_ok-head.head (three c) c.in_ok-n.n
head_taken c = head_there c.args.text.now c.args.at c.args.t c.in_ok-head.head (three c) (sym c.input_count.ensures ∙ c.in_ok-n.was)

pub overflow_add-first : goal.overflow_add-first
overflow_add-first c = omega (arith, (three (goal.at.overflow_add-first c).In_ok-n).ends (omega arith))

pub numbers_at-requires-2 : goal.numbers_at-requires-2
numbers_at-requires-2 c = (head_taken (goal.at.numbers_at-requires-2 c).In_ok-n).count.1

pub returns-in_err-inputs : goal.returns-in_err-inputs
returns-in_err-inputs c =
    let a = c.args in
    rw c.from_residual-in_err-inputs.ensures
    (inputs_not a.text.now a.at a.t c.in_ok-head.head (three (goal.at.returns-in_err-inputs c).In_ok-n) (head_taken (goal.at.returns-in_err-inputs c).In_ok-n)
    (taken_missing a.text.now (a.at + 18) c.in_ok-n.n c.in_err-inputs.was c.numbers_at-2.ensures))

-- the inputs
inputs_there : (c : In_ok-inputs) → NumbersThere c.args.text.now (c.args.at + 18) c.in_ok-n.n c.in_ok-inputs.inputs
inputs_there c = taken_there c.args.text.now (c.args.at + 18) c.in_ok-n.n c.in_ok-inputs.was c.numbers_at-2.ensures

pub overflow_mul-place : goal.overflow_mul-place
overflow_mul-place c = let k = (head_taken (goal.at.overflow_mul-place c).In_ok-n).count.1 in omega (arith, k)

pub overflow_add-place : goal.overflow_add-place
overflow_add-place c =
    let k = (head_taken (goal.at.overflow_add-place c).In_ok-n).count.0 in
    omega (arith, (inputs_there (goal.at.overflow_add-place c).In_ok-inputs).ends (omega (arith, k)))

pub returns-in_err-truth : goal.returns-in_err-truth
returns-in_err-truth c =
    let a = c.args in
    rw c.from_residual-in_err-truth.ensures
    (truth_not a.text.now a.at a.t c.in_ok-head.head (three (goal.at.returns-in_err-truth c).In_ok-n) (head_taken (goal.at.returns-in_err-truth c).In_ok-n)
    c.in_ok-inputs.inputs (inputs_there (goal.at.returns-in_err-truth c).In_ok-inputs)
    (parsed_none (first_number 21 (drop (a.at + 18 + columns * c.in_ok-n.n) a.text.now)) (sym c.number_at.ensures ∙ c.in_err-truth.was)))

truth_found : (c : In_ok-truth) →
    first_number 21 (drop (c.args.at + 18 + columns * c.in_ok-n.n) c.args.text.now) ≡ some c.in_ok-truth.truth
truth_found c =
    parsed_some (first_number 21 (drop (c.args.at + 18 + columns * c.in_ok-n.n) c.args.text.now)) (sym c.number_at.ensures ∙ c.in_ok-truth.was)

pub overflow_add-end : goal.overflow_add-end
overflow_add-end c =
    let a = c.args in
    omega (arith, first_ends 21 (a.at + 18 + columns * c.in_ok-n.n) a.text.now (omega arith) (truth_found (goal.at.overflow_add-end c).In_ok-truth))

pub returns-then-not-line_feed_at : goal.returns-then-not-line_feed_at
returns-then-not-line_feed_at c =
    let a = c.args in
    let p = a.at + 18 + columns * c.in_ok-n.n in
    feed_not a.text.now a.at a.t c.in_ok-head.head (three (goal.at.returns-then-not-line_feed_at c).In_ok-n) (head_taken (goal.at.returns-then-not-line_feed_at c).In_ok-n)
    c.in_ok-inputs.inputs (inputs_there (goal.at.returns-then-not-line_feed_at c).In_ok-inputs) (truth_found (goal.at.returns-then-not-line_feed_at c).In_ok-truth)
    (subst (LineFeedTaken a.text.now (p + 21)) c.if-not-line_feed_at.true c.line_feed_at.ensures)

pub overflow_cast-table : goal.overflow_cast-table
overflow_cast-table c = let k = (head_taken (goal.at.overflow_cast-table c).In_ok-n).count.1 in omega (arith, k)

pub returns : goal.returns
returns c =
    let a = c.args in
    let n = c.in_ok-n.n in
    let p = a.at + 18 + columns * n in
    let whole : length c.in_ok-inputs.inputs ≡ 6 = search rules in
    table_there a.text.now a.at a.t c.in_ok-head.head (three (goal.at.returns c).In_ok-n) (head_taken (goal.at.returns c).In_ok-n)
    c.in_ok-inputs.inputs (inputs_there (goal.at.returns c).In_ok-inputs) (truth_found (goal.at.returns c).In_ok-truth)
    whole (subst (LineFeedTaken a.text.now (p + 21)) c.if-not-line_feed_at.false c.line_feed_at.ensures) _ refl
    (ap₂ (λ o i. record { net = o; count = n; inputs = i; truth = c.in_ok-truth.truth; level = 0 }) c.narrow.ensures c.narrow_all.ensures)
