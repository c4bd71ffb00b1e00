use native.Mathlib.Omega.{arith}
use mathlib.Core.Path.{ap₂}
use mathlib.Core.Bool.{cond}
use borrow.Author.Tests.{ne_eqb}
use Rattle.part.specs.Trusted.Answers.{accepted, refused}
use Rattle.fast_opening.proofs.refuse.Goals as goal

pub returns : goal.returns
returns c =
    let n = c.args.number in
    ap₂ (λ p b. record { part = p; answer = cond b accepted (refused n 0); wanted = 0 }) c.empty.ensures (ne_eqb n 0 (λ e. omega (arith, e, c.requires)))
