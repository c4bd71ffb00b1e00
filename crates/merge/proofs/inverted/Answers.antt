use Prim.Native.Nat.{◌-◌, ◌^◌}
use mathlib.Core.Path.{sym, ap, ◌∙◌}
use Rattle.pending.specs.MergeLaws.{complement}
use Rattle.merge.proofs.inverted.Goals as goal

pub returns : goal.returns
returns c =
    let t = c.args.t in
    let e = ap (λ m. m - t.truth) c.ones.ensures ∙ sym (complement (2 ^ t.count) t.truth c.requires.small) in
    λ j. record { net = t.net; count = t.count; inputs = t.inputs; truth = e j }
