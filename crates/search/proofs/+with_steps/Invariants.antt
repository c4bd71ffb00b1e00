-- The measure is how many fanins the mask has, so with_steps is at most ten calls deep.
use Rattle.search.proofs.Writing.{fanin_count}
use Rattle.search.proofs.+with_steps.Given as goal

abbrev pub decreases-with_steps : goal.decreases-with_steps
decreases-with_steps l = fanin_count l.s
