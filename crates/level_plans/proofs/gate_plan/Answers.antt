use Rattle.level_plans.proofs.Gating.{plan_backed, plan_read}
use Rattle.level_plans.proofs.gate_plan.Goals as goal

pub with_mask-requires : goal.with_mask-requires
with_mask-requires c =
    let g = c.fill_arrays-end.ensures in
    (_, _, plan_backed c.requires c.start_bound-from.ensures g.0 c.blank_draft.ensures g.1)

pub returns : goal.returns
returns c =
    let g = c.fill_arrays-end.ensures in
    plan_read c.requires c.start_bound-from.ensures g.0 c.blank_draft.ensures g.1 c.with_mask.ensures
