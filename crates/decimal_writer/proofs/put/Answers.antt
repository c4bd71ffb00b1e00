use Rattle.std.proofs.Common.{arith, ap, ◌∙◌, ◌+◌, ◌/◌, ◌≡◌, suc, length}
use Rattle.decimal.specs.ColumnLaws.{div_more}
use Rattle.decimal_writer.proofs.WriteLaws.{column_more}
use Rattle.decimal_writer.proofs.put.Goals as goal

pub loop-right-preserved : goal.loop-right-preserved
loop-right-preserved c =
    let l = c.loop-right in
    let more : l.right + 1 ≡ suc l.right = omega arith in (
      rw more (ap (λ m. m / 10) l.invariant.0 ∙ div_more c.args.n l.right),
      column_more l.dst c.args.n l.right (length c.args.dst.now) l.left c.digit.result (omega arith) (omega arith) l.invariant.0 c.digit.ensures l.invariant.1,
    )
