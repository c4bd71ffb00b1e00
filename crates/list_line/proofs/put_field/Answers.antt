use native.Mathlib.Omega.{arith}
use Rattle.list_line.proofs.Written.{number_written}
use Rattle.list_line.proofs.put_field.Goals as goal

pub returns : goal.returns
returns c =
    let a = c.args in
    number_written _ _ a.at 6 a.n c.requires (omega arith) c.write_at.ensures
