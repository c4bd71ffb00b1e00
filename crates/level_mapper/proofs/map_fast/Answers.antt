use Rattle.level_mapping.specs.FastLaws.{fast_mapped}
use Rattle.level_mapper.proofs.map_fast.Goals as goal

pub returns : goal.returns
returns c =
    let p = c.choose_plans-plans.ensures in
    fast_mapped _ _ p.fastest (c.map_by_plans.ensures _ _ p.meet)
