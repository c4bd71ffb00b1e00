use Prim.Native.Nat.{◌+◌, ◌*◌}
use mathlib.Core.Path.{sym, ap, ◌∙◌}
use native.Mathlib.Omega.{arith}
use Rattle.table.proofs.Shape.{inputs_fill, reads_count}
use borrow.Author.Rules.{rules}
use Rattle.list_line.proofs.table_width.Goals as goal

pub returns : goal.returns
returns c =
    let r = c.args.r in
    (ap (λ n. 40 + 6 * n) (c.in_use.ensures ∙ sym (reads_count r (inputs_fill r (search rules)))), omega (arith, c.in_use.ensures))
