use Rattle.part.proofs.StoringLaws.{sheet_mappable, levels_low, fastest_mapped}
use Rattle.part.proofs.way.FastestChoose.mapped.Goals as goal

pub map_joined_fast-requires : goal.map_joined_fast-requires
map_joined_fast-requires c = (sheet_mappable c.args.part.now c.requires.0 c.args.sheet.now c.requires.1, levels_low c.requires.2)

pub returns : goal.returns
returns c =
    let a = c.args in
    fastest_mapped a.part.now a.levels.now c.requires.2 a.sheet.now c.map_joined_fast.result c.requires.1 c.map_joined_fast.ensures
