use native.Mathlib.Omega.{arith}
use mathlib.Core.Path.{◌≡◌, sym, ap, ◌∙◌}
use mir.Facts.{to_z-of_z}
use Rattle.decimal.specs.Trusted.Reading.{number_of_int}
use Rattle.part.specs.Trusted.Answers.{accepted}
use Rattle.fast_opening.proofs.FastOpeningLaws.{below_zero_34, too_high_34, in_range}
use Rattle.fast_opening.proofs.want.Goals as goal
use Rattle.fast_opening.proofs.want.Goals.{After-magnitude-wanted, After-negative}

-- the number's sign is what `negative` answers
negated : (c : After-negative) → (number_of_int c.args.v).negative ≡ c.negative.result
negated c = sym (c.negative.ensures ∙ ap (λ z. (number_of_int z).negative) (to_z-of_z c.ranges.v))

-- and its absolute value what `magnitude` answers
measured : (c : After-magnitude-wanted) → (number_of_int c.args.v).magnitude ≡ c.magnitude-wanted.result
measured c = sym (c.magnitude-wanted.ensures ∙ ap (λ z. (number_of_int z).magnitude) (to_z-of_z c.ranges.v))

pub returns-then-negative : goal.returns-then-negative
returns-then-negative c =
    let a = c.args in
    c.refuse.ensures ∙ sym (below_zero_34 a.part (number_of_int a.v) (negated (goal.at.returns-then-negative c).After-negative ∙ c.if-negative.true))

pub returns-then-wanted-gt-MOST_WANTED : goal.returns-then-wanted-gt-MOST_WANTED
returns-then-wanted-gt-MOST_WANTED c =
    let a = c.args in
    c.refuse-then-wanted-gt-MOST_WANTED.ensures
    ∙ sym (too_high_34 a.part (number_of_int a.v) (negated (goal.at.returns-then-wanted-gt-MOST_WANTED c).After-negative ∙ c.if-negative.false) (omega (arith, c.if-wanted-gt-MOST_WANTED.true, measured (goal.at.returns-then-wanted-gt-MOST_WANTED c).After-magnitude-wanted)))

pub returns : goal.returns
returns c =
    let a = c.args in
    ap (λ w. record { part = a.part; answer = accepted; wanted = w }) (sym (measured (goal.at.returns c).After-magnitude-wanted))
    ∙ sym (in_range a.part (number_of_int a.v) (negated (goal.at.returns c).After-negative ∙ c.if-negative.false) (omega (arith, c.if-wanted-gt-MOST_WANTED.false, measured (goal.at.returns c).After-magnitude-wanted)))
