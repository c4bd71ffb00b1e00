use Rattle.fast_program.specs.FastLongest.{fast_longest}
use Rattle.fast_program.proofs.FastRoomLaws.{fast_prints_short}
use Rattle.pailinstant.specs.CallLaws.{printed_by_lem}
use Rattle.pailinstant.proofs.pailinstant_map_fast.Goals as goal

pub returns : goal.returns
returns c = printed_by_lem fast_longest fast_prints_short c.run-outcome.ensures c.printed_bytes.ensures
