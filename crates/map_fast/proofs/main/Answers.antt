use mathlib.Core.Path.{refl}
use Rattle.program_laws.specs.Front.{front_bytes}
use Rattle.map_fast.proofs.main.Goals as goal

pub read_deciding-requires : goal.read_deciding-requires
unfolding front_bytes
read_deciding-requires c = refl
