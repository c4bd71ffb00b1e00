use Rattle.part.proofs.StoringLaws.{least_mapped}
use Rattle.part.proofs.way.LeastChoose.mapped.Goals as goal

pub returns : goal.returns
returns c =
    let a = c.args in
    least_mapped a.part.now a.sheet.now c.map_joined.result c.requires.1 c.map_joined.ensures
