use Prim.Native.Nat.{◌+◌, ◌<◌}
use native.Mathlib.Omega.{arith}
use mathlib.Core.Path.{sym, ap, ◌∙◌}
use lib.ListN.{length}
use Rattle.list_line.specs.Trusted.Writes.{pasted}
use Rattle.list_line.specs.PasteLaws.{paste_none}
use Rattle.slacks.specs.SlackLaws.{driver_width, driver_pasted, no_line}
use Rattle.slacks.proofs.put_driver.Goals as goal

pub put_slack-requires : goal.put_slack-requires
put_slack-requires c =
    let a = c.args in
    omega (arith, c.requires, driver_width a.wanted a.net a.level (omega arith))

pub returns-then-net-gt0 : goal.returns-then-net-gt0
returns-then-net-gt0 c =
    let a = c.args in
    let h : 0 < a.net = omega (arith, c.if-net-gt0.true) in (
      ap (λ n. a.at + n) (sym (driver_width a.wanted a.net a.level h)),
      driver_pasted a.wanted a.net a.level a.buf.now c.put_slack.new.buf a.at h c.put_slack.ensures,
    )

pub returns : goal.returns
returns c =
    let a = c.args in
    let e = no_line a.wanted a.net a.level (omega arith) in (
      omega (arith, ap length e),
      sym (ap (pasted a.buf.now a.at) e ∙ paste_none a.buf.now a.at),
    )
