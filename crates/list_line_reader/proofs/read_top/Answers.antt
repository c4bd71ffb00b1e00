use Rattle.std.proofs.Common.{subst}
use Rattle.list_layout.specs.Taken.{LineFeedTaken}
use Rattle.list_layout.specs.LineTakenLaws.{taken_there, taken_missing, top_not, top_unended, top_there}
use Rattle.list_line_reader.proofs.read_top.Goals as goal

pub returns-in_err-numbers : goal.returns-in_err-numbers
returns-in_err-numbers c =
    let text = c.args.text.now in
    rw c.from_residual.ensures (top_not text (taken_missing text 0 3 c.in_err-numbers.was c.numbers_at.ensures))

pub returns-then-not-line_feed_at : goal.returns-then-not-line_feed_at
returns-then-not-line_feed_at c =
    let text = c.args.text.now in
    top_unended text c.in_ok-numbers.numbers (taken_there text 0 3 c.in_ok-numbers.was c.numbers_at.ensures)
    (subst (LineFeedTaken text 18) c.if-not-line_feed_at.true c.line_feed_at.ensures)

pub returns : goal.returns
returns c =
    let text = c.args.text.now in
    top_there text c.in_ok-numbers.numbers (taken_there text 0 3 c.in_ok-numbers.was c.numbers_at.ensures)
    (subst (LineFeedTaken text 18) c.if-not-line_feed_at.false c.line_feed_at.ensures)
