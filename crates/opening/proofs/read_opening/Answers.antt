use native.Mathlib.Omega.{arith}
use mathlib.Core.Path.{sym, ap, ap₂, ◌∙◌}
use lib.ListN.{take, drop, get_or-eq_default}
use Rattle.decimal.specs.Trusted.Number.{columns}
use Rattle.decimal.specs.ReadingLaws.{read_none, read_held}
use Rattle.part.specs.Trusted.Add.{opened}
use Rattle.opening.specs.Trusted.Opening.{opened_by}
use Rattle.opening.specs.OpeningLaws.{no_line_feed, no_first, no_second, two_numbers}
use Rattle.opening.proofs.read_opening.Goals as goal

pub returns-then-input-lt-OPENING : goal.returns-then-input-lt-OPENING
returns-then-input-lt-OPENING c =
    let input = c.args.input.now in
    let z = get_or-eq_default input 0 {n = 12} (omega arith) in
    c.no_opening.ensures ∙ ap opened_by (sym (no_line_feed input (λ e. omega (arith, e, z))))

pub returns-then-input-ne10 : goal.returns-then-input-ne10
returns-then-input-ne10 c = c.no_opening-then-input-ne10.ensures ∙ ap opened_by (sym (no_line_feed c.args.input.now c.if-input-ne10.true))

pub returns-in_default : goal.returns-in_default
returns-in_default c = c.no_opening-in_default.ensures ∙ ap opened_by (sym (no_first c.args.input.now (read_none (take columns c.args.input.now) (sym c.read-first.ensures ∙ c.in_default.is))))

pub returns-in_default-second : goal.returns-in_default-second
returns-in_default-second c = c.no_opening-in_default-second.ensures ∙ ap opened_by (sym (no_second c.args.input.now (read_none (take columns (drop columns c.args.input.now)) (sym c.read-second.ensures ∙ c.in_default-second.is))))

pub returns : goal.returns
returns c =
    let input = c.args.input.now in
    c.«open».ensures ∙ ap₂ opened c.count-most.ensures c.count-tables.ensures
    ∙ ap opened_by (sym (two_numbers input c.if-input-ne10.false
    (read_held (take columns input) (sym c.read-first.ensures ∙ c.in-Some.is))
    (read_held (take columns (drop columns input)) (sym c.read-second.ensures ∙ c.in-Some-second.is))))
