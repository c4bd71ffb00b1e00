use Prim.Native.Nat.{◌*◌, ◌/◌, ◌%◌, ◌^◌}
use native.Mathlib.Omega.{arith}
use mathlib.Core.Path.{◌≡◌, sym, ap, ◌∙◌}
use lib.Bits.{bit_or}
use lib.ListN.{get_or, set}
use lib.Pow.{shl_exact}
use lib.Seq.{set_out}
use Rattle.flags.specs.Flags.{raised}
use Rattle.flags.proofs.raise.Goals as goal

pub returns-then-at-words : goal.returns-then-at-words
unfolding raised
returns-then-at-words c =
    let a = c.args in
    let ws = a.words.now in
    let k = a.n % 64 in
    let e : 1 * 2 ^ k ≡ 2 ^ k = omega arith in
    ap (λ m. set ws (a.n / 64) (bit_or (get_or ws (a.n / 64) 0) m)) (shl_exact 1 k 64 (omega arith) (omega arith) ∙ e)

pub returns-else-at-words : goal.returns-else-at-words
unfolding raised
returns-else-at-words c = sym (set_out _ _ _ c.if-at-words.false)
