use Rattle.std.proofs.Common.{arith, get_or, take}
use Rattle.cover.specs.LevelLaws.{greatest_most}
use Rattle.table.specs.Trusted.Limits.{table_room}
use Rattle.table_levels.proofs.next_level.Goals as goal

pub overflow_add-level : goal.overflow_add-level
overflow_add-level c =
    let l = greatest_most table_room (λ x. get_or c.args.levels.now x 0) c.requires.1 (take c.in_use.result c.args.inputs) in
    omega (arith, l, c.greatest_level-level.ensures)
