use mathlib.Core.Path.{sym, ap, ◌∙◌}
use mathlib.Core.List.{[]}
use Rattle.part.specs.Trusted.AddAnswers.{adding_result}
use Rattle.part.proofs.ReserveLaws.{withdraw_unsound, withdraw_closed, withdraw_open}
use Rattle.std.specs.Prelude.{Ok}
use Rattle.part.proofs.Part.withdraw_in_place.Goals as goal

pub returns-then-not-sound : goal.returns-then-not-sound
returns-then-not-sound c = withdraw_unsound c.args.self.now (sym c.sound.ensures ∙ c.if-not-sound.true)

pub returns-then-not-is_open : goal.returns-then-not-is_open
returns-then-not-is_open c =
    withdraw_closed c.args.self.now (sym c.sound.ensures ∙ c.if-not-sound.false) (sym c.is_reserved-is_open.ensures ∙ c.if-not-is_open.true)

pub returns : goal.returns
returns c =
    ap (λ p. adding_result p (Ok tt) []) c.release.ensures
    ∙ withdraw_open c.args.self.now (sym c.sound.ensures ∙ c.if-not-sound.false) (sym c.is_reserved-is_open.ensures ∙ c.if-not-is_open.false)
