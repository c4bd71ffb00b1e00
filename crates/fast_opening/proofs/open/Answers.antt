use mathlib.Core.Path.{◌≡◌, sym, ap, ◌∙◌}
use mir.Facts.{to_z-of_z}
use Rattle.std.specs.Prelude.{Result as Outcome}
use Rattle.decimal.specs.Trusted.Reading.{number_of_int}
use Rattle.part.specs.declared.OpenError.{OpenError}
use Rattle.part.specs.Trusted.Answers.{accepted, Result}
use Rattle.part.specs.Trusted.Add.{opened}
use Rattle.part.specs.Trusted.OpenAnswers.{opening_answer}
use Rattle.fast_opening.specs.Trusted.FastOpening.{wanted_after}
use Rattle.fast_opening.proofs.open.Goals as goal
use Rattle.fast_opening.proofs.open.Goals.{After-open-opened}

-- what the match found gives what is opened
by_answer : (c : After-open-opened) {a : Outcome (Unit {0}) OpenError} → c.«open-opened».result.answer ≡ a → let s = c.args in
    wanted_after (opening_answer a) c.«open-opened».result.part (number_of_int s.v)
    ≡ wanted_after (opened s.k s.capacity).answer (opened s.k s.capacity).part (number_of_int s.v)
by_answer c e =
    let x = number_of_int c.args.v in
    ap (λ (a : Outcome (Unit {0}) OpenError). wanted_after (opening_answer a) c.«open-opened».result.part x) (sym e)
    ∙ ap (λ (r : Result). wanted_after r.answer r.part x) c.«open-opened».ensures

pub returns-in-Ok : goal.returns-in-Ok
returns-in-Ok c =
    c.want.ensures
    ∙ ap (λ z. wanted_after accepted c.«open-opened».result.part (number_of_int z)) (to_z-of_z c.ranges.v)
    ∙ by_answer (goal.at.returns-in-Ok c).After-open-opened c.in-Ok.is
