use native.Mathlib.Omega.{arith}
use Rattle.decimal.specs.Trusted.Columns.{room, field_of}
use Rattle.decimal_writer.proofs.PlaceLaws.{place_within, place_past}
use Rattle.decimal_writer.proofs.write_at.Goals as goal

pub returns-then-buf-at : goal.returns-then-buf-at
returns-then-buf-at c =
    let a = c.args in
    place_past (room a.width a.n) a.buf.now (field_of a.width a.n) a.at a.width (omega arith)

pub returns : goal.returns
returns c =
    let a = c.args in
    place_within (λ m. room m a.n) (λ m. field_of m a.n) a.buf.now c.write.new.dst a.at a.width (omega arith) c.write.ensures
