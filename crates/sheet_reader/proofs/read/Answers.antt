use mathlib.Core.Path.{sym, ap, ◌∙◌}
use Rattle.std.proofs.lemmas.Result.{err_from_is_err_and}
use Rattle.lists.specs.Trusted.Checked.{◌>>=◌}
use mathlib.Core.Path.{◌≡◌}
use Rattle.sheet.specs.Trusted.Read.{read_sheet}
use Rattle.sheet.specs.Trusted.Answers.{drawn_sheet, answered}
use Rattle.sheet_reader.proofs.SheetLaws.{alone, front_all, answered_alone}
use Rattle.sheet_reader.proofs.read.Goals as goal
use Rattle.sheet_reader.proofs.read.Goals.{After-read_front}

-- the sheet alone
read_is : (c : After-read_front) → read_sheet c.args.text.now ≡ answered (λ n. drawn_sheet n.sheet) c.read_front.result
read_is c =
    let text = c.args.text.now in
    front_all text ∙ (ap (λ m. m >>= alone) c.read_front.ensures.same ∙ answered_alone text c.read_front.result)

pub returns-in_err-next : goal.returns-in_err-next
returns-in_err-next c =
    let p = err_from_is_err_and c.from_residual.result c.from_residual.ensures.1 in
    rw (p.1, p.2) (sym (read_is (goal.at.returns-in_err-next c).After-read_front ∙ ap (answered (λ n. drawn_sheet n.sheet)) c.in_err-next.was))

pub returns : goal.returns
returns c = sym (read_is (goal.at.returns c).After-read_front ∙ ap (answered (λ n. drawn_sheet n.sheet)) c.in_ok-next.was)
