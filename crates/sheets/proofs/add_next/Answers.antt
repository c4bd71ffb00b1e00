use borrow.Author.Rules.{rules}
use mathlib.Core.Path.{◌≡◌, sym, subst}
use Rattle.std.specs.Prelude.{Err}
use Rattle.part.specs.declared.AddError.TheVariants.{Misread}
use Rattle.sheets.specs.Promises.{Stepped}
use Rattle.sheets.specs.SheetsLaws.{next_formed, stepped_misread, stepped_refused, stepped_added}
use Rattle.sheets.proofs.add_next.Goals as goal

pub returns-in_err-next : goal.returns-in_err-next
returns-in_err-next g c =
    let a = c.args in
    let w = g.W.Choose.way in
    let error = c.in_err-next.field-0.0 in
    let r : c.from_residual.result ≡ Err (Misread error) = search rules in
    (subst (Stepped w a.input.now a.part.now a.at a.part.now) (sym r) (stepped_misread a.input.now a.part.now a.at c.requires.0 c.requires.2 w error c.in_err-next.ensures), c.requires.1)

pub offer_sheet-requires : goal.offer_sheet-requires
offer_sheet-requires g c =
    let a = c.args in
    (c.requires.0, next_formed a.input.now a.part.now a.at c.requires.0 c.requires.2 c.in_ok-next.next c.in_ok-next.ensures, c.requires.1)

pub returns-in_err-offer_sheet : goal.returns-in_err-offer_sheet
returns-in_err-offer_sheet g c =
    let a = c.args in
    let w = g.W.Choose.way in
    let o = c.offer_sheet in
    let why = c.in_err-offer_sheet.field-0.0 in
    let r : c.from_residual-in_err-offer_sheet.result ≡ Err why = search rules in (
      subst (Stepped w a.input.now a.part.now a.at o.new.self) (sym r)
          (stepped_refused a.input.now a.part.now a.at c.requires.0 c.requires.2 c.in_ok-next.next c.in_ok-next.ensures o.ensures.2 w o.new.self why c.in_err-offer_sheet.ensures.0),
      o.ensures.1,
    )

pub returns : goal.returns
returns g c =
    let a = c.args in
    let o = c.offer_sheet in
    (stepped_added a.input.now a.part.now a.at c.requires.0 c.requires.2 c.in_ok-next.next c.in_ok-next.ensures o.ensures.2 g.W.Choose.way o.new.self c.in_ok-offer_sheet.ensures.0, o.ensures.1)
