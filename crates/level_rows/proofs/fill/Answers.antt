use native.Mathlib.Omega.{arith}
use mathlib.Core.Path.{refl}
use lib.Pow.{pow_mono}
use Rattle.level_rows.proofs.Itself.{alike_itself}
use Rattle.level_rows.proofs.fill.Goals as goal

pub loop-s-init : goal.loop-s-init
loop-s-init c = (refl, pow_mono c.requires.0.fanins.1, λ s l. absurd (omega arith))

pub fill_like-requires : goal.fill_like-requires
fill_like-requires c =
    let p = c.requires in
    let i = c.loop-s.invariant in
    (p.0, p.1, p.2, p.3, i.0, alike_itself (λ s l. i.2 s (omega arith)))
