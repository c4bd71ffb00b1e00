use mathlib.Core.Path.{◌≡◌, sym, ap, ◌∙◌}
use mathlib.Core.Bool.{cond}
use mir.Facts.{to_z-of_z}
use Rattle.decimal.specs.Trusted.Reading.{number_of_int}
use Rattle.opening.proofs.count.Goals as goal
use Rattle.opening.proofs.count.Goals.{After-magnitude, After-negative}

-- the number's sign is what `negative` answers
negated : (c : After-negative) → (number_of_int c.args.v).negative ≡ c.negative.result
negated c = sym (c.negative.ensures ∙ ap (λ z. (number_of_int z).negative) (to_z-of_z c.ranges.v))

-- and its absolute value what `magnitude` answers
measured : (c : After-magnitude) → (number_of_int c.args.v).magnitude ≡ c.magnitude.result
measured c = sym (c.magnitude.ensures ∙ ap (λ z. (number_of_int z).magnitude) (to_z-of_z c.ranges.v))

pub returns-then-negative : goal.returns-then-negative
returns-then-negative c =
    sym (ap (λ b. cond b 0 (number_of_int c.args.v).magnitude) (negated (goal.at.returns-then-negative c).After-negative ∙ c.if-negative.true))

pub returns : goal.returns
returns c =
    sym (ap (λ b. cond b 0 (number_of_int c.args.v).magnitude) (negated (goal.at.returns c).After-negative ∙ c.if-negative.false) ∙ measured c)
