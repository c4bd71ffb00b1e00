use mathlib.Core.Path.{ap}
use Rattle.mapper_laws.specs.CodeMap.{driving}
use Rattle.mapper.proofs.root_table.Goals as goal

pub returns : goal.returns
returns c = ap (driving c.args.out) c.flip_if-root.ensures
