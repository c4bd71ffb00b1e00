-- The measure is how many fanins the mask has, so with_mask is at most ten calls deep.
use Rattle.search.proofs.Writing.{fanin_count}
use Rattle.level_plans.proofs.+with_mask.Given as goal

abbrev pub decreases-with_mask : goal.decreases-with_mask
decreases-with_mask l = fanin_count l.s
