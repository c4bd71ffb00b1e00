use Rattle.listing.specs.Lines.{longest}
use Rattle.program.specs.RoomLaws.{prints_short}
use Rattle.pailinstant.specs.CallLaws.{printed_by_lem}
use Rattle.pailinstant.proofs.pailinstant_map.Goals as goal

pub returns : goal.returns
returns c = printed_by_lem longest prints_short c.run-outcome.ensures c.printed_bytes.ensures
