use native.Mathlib.Omega.{arith}
use mathlib.Core.Path.{sym, ap, ◌∙◌}
use lib.ListN.{take, drop, get_or-eq_default}
use Rattle.decimal.specs.Trusted.Number.{columns}
use Rattle.decimal.specs.ReadingLaws.{read_none, read_held}
use Rattle.fast_opening.specs.Trusted.FastOpening.{fast_opened_by}
use Rattle.fast_opening.proofs.FastOpeningLaws.{not_ended, no_k, no_capacity, no_wanted, three_numbers, opened_fast}
use Rattle.fast_opening.proofs.read_fast_opening.Goals as goal

pub returns-then-input-lt-FAST_OPENING : goal.returns-then-input-lt-FAST_OPENING
returns-then-input-lt-FAST_OPENING c =
    let input = c.args.input.now in
    let z = get_or-eq_default input 0 {n = 18} (omega arith) in
    c.refuse.ensures ∙ ap fast_opened_by (sym (not_ended input (λ e. omega (arith, e, z))))

pub returns-then-input-ne10 : goal.returns-then-input-ne10
returns-then-input-ne10 c =
    c.refuse-then-input-ne10.ensures ∙ ap fast_opened_by (sym (not_ended c.args.input.now c.if-input-ne10.true))

pub returns-in_default : goal.returns-in_default
returns-in_default c =
    let input = c.args.input.now in
    c.refuse-in_default.ensures ∙ ap fast_opened_by (sym (no_k input (read_none (take columns input) (sym c.read-first.ensures ∙ c.in_default.is))))

pub returns-in_default-second : goal.returns-in_default-second
returns-in_default-second c =
    let input = c.args.input.now in
    c.refuse-in_default-second.ensures
    ∙ ap fast_opened_by (sym (no_capacity input (read_none (take columns (drop 6 input)) (sym c.read-second.ensures ∙ c.in_default-second.is))))

pub returns-in_default-third : goal.returns-in_default-third
returns-in_default-third c =
    let input = c.args.input.now in
    c.refuse-in_default-third.ensures
    ∙ ap fast_opened_by (sym (no_wanted input (read_none (take columns (drop 12 input)) (sym c.read-third.ensures ∙ c.in_default-third.is))))

pub returns : goal.returns
returns c =
    let input = c.args.input.now in
    opened_fast c.count.result c.count-2.result
    (three_numbers input c.if-input-ne10.false
    (read_held (take columns input) (sym c.read-first.ensures ∙ c.in-Some.is))
    (read_held (take columns (drop 6 input)) (sym c.read-second.ensures ∙ c.in-Some-second.is))
    (read_held (take columns (drop 12 input)) (sym c.read-third.ensures ∙ c.in-Some-third.is)))
    c.count.ensures c.count-2.ensures c.«open».ensures
