use Prim.Native.Nat.{◌+◌, ◌*◌}
use native.Mathlib.Omega.{arith}
use mathlib.Core.Path.{◌≡◌, refl, sym, ap, ap₂, ◌∙◌}
use borrow.Author.Tests.{leb-true}
use lib.Dec.{leb}
use lib.ListN.{length}
use Rattle.lists.specs.Trusted.Checked.{passed}
use Rattle.part.specs.Trusted.Parts.{in_use}
use Rattle.listing.proofs.LineLaws.{fitted_out, fitted_in}
use Rattle.slacks.specs.Trusted.Slack.{slack_lines}
use Rattle.slacks.specs.SlackLaws.{text_length}
use Rattle.slacks.proofs.print_slacks.Goals as goal
use Rattle.slacks.proofs.print_slacks.Goals.{After-count_drivers-width}

-- the bytes of the lines
width : (c : After-count_drivers-width) → let a = c.args in length (slack_lines a.wanted a.part) ≡ 13 * c.count_drivers-width.result
width c = let a = c.args in text_length a.wanted (in_use a.part) ∙ ap (λ n. 13 * n) (sym c.count_drivers-width.ensures.0)

pub returns-then-not-has_room : goal.returns-then-not-has_room
returns-then-not-has_room c =
    let a = c.args in
    let old = a.output.now in
    sym (fitted_out old a.at {line = slack_lines a.wanted a.part} refl
    (ap (λ n. leb (a.at + n) (length old)) (width (goal.at.returns-then-not-has_room c).After-count_drivers-width) ∙ sym c.has_room.ensures ∙ c.if-not-has_room.true))

pub put_slacks-requires : goal.put_slacks-requires
put_slacks-requires c =
    let a = c.args in (
      c.requires,
      omega (arith, width (goal.at.put_slacks-requires c).After-count_drivers-width, leb-true (a.at + 13 * c.count_drivers-width.result) (length a.output.now) (sym c.has_room.ensures ∙ c.if-not-has_room.false)),
    )

pub returns : goal.returns
returns c =
    let a = c.args in
    let old = a.output.now in
    ap₂ (λ m b. record { result = passed m; bytes = b }) (sym (width (goal.at.returns c).After-count_drivers-width)) c.put_slacks.ensures
    ∙ sym (fitted_in old a.at {line = slack_lines a.wanted a.part} refl
    (ap (λ m. leb (a.at + m) (length old)) (width (goal.at.returns c).After-count_drivers-width) ∙ sym c.has_room.ensures ∙ c.if-not-has_room.false))
