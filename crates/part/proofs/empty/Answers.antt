use mathlib.Core.Path.{ap}
use lib.ListN.{replicate}
use Rattle.table.specs.Trusted.Limits.{table_room}
use Rattle.part_records.specs.Trusted.Reservations.{unreserved}
use Rattle.part.specs.Trusted.Parts.{blanks}
use Rattle.part.proofs.empty.Goals as goal

pub returns : goal.returns
unfolding blanks
returns c =
    let a = c.args in
    ap (λ b. record { k = a.k; capacity = a.capacity; used = 0; reservation = unreserved; tables = replicate table_room b }) c.blank.ensures
