use Prim.Native.Nat.{◌+◌, ◌<◌}
use native.Mathlib.Omega.{arith}
use mathlib.Core.Path.{◌≡◌, refl, sym, ap, ◌∙◌}
use lib.ListN.{length, take}
use Rattle.table.proofs.Shape.{past}
use Rattle.part.proofs.Shape.{shaped}
use Rattle.slacks.specs.Trusted.Slack.{drivers}
use Rattle.slacks.specs.SlackLaws.{one_driver, no_driver}
use Rattle.slacks.proofs.count_drivers.Goals as goal
use Rattle.slacks.proofs.count_drivers.Goals.{then-net-ne0, else-net-ne0}

pub loop-t-init : goal.loop-t-init
loop-t-init c =
    let t = c.well_formed.0.1.1.1.1.1.1.0 in
    (omega arith, (shaped c.args.p t.0 t.1.0.1 t.1.1).records, refl, omega arith)

pub offset_bounds-p-t : goal.offset_bounds-p-t
offset_bounds-p-t c = omega (arith, c.requires)

pub bounds-p-t : goal.bounds-p-t
bounds-p-t c = omega (arith, c.requires)

pub overflow_add-n : goal.overflow_add-n
overflow_add-n c = omega (arith, c.requires, c.loop-t.invariant.3)

pub loop-t-preserved : goal.loop-t-preserved
loop-t-preserved c =
    let p = c.args.p in
    let l = c.loop-t in
    let h : l.t < length p.tables = omega (arith, c.requires, l.invariant.1) in
    elim c.if-net-ne0.branch [
      | then-net-ne0 w ↦ (
        omega arith,
        l.invariant.1,
        w.n-is ∙ ap (λ m. m + 1) l.invariant.2 ∙ sym (one_driver p.tables l.t past h w.if-net-ne0.true),
        omega arith,
      )
      | else-net-ne0 w ↦ (
        omega arith,
        l.invariant.1,
        w.n-is ∙ l.invariant.2 ∙ sym (no_driver p.tables l.t past h w.if-net-ne0.false),
        omega arith,
      )
    ]

pub returns : goal.returns
returns c =
    let p = c.args.p in
    let l = c.loop-t in
    let e : l.t ≡ p.used = omega arith in
    (l.invariant.2 ∙ ap (λ t. length (drivers (take t p.tables))) e, omega (arith, c.requires))
