use mathlib.Core.Path.{subst}
use lib.ListN.{drop}
use Rattle.sheet.specs.Trusted.Promise.{NextRead}
use Rattle.sheet_reader.proofs.SheetLaws.{front_next}
use Rattle.sheet_reader.proofs.read_next.Goals as goal

pub returns : goal.returns
returns c =
    let a = c.args in
    subst (λ m. NextRead a.text.now m c.read_front.result) (front_next (drop a.start a.text.now)) c.read_front.ensures
