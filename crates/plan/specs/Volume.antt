-- How many leaves a cover with a key can have. Each table below the root's stands for one input of another table, and brings from two
-- inputs to K. Internal definitions: the laws are in VolumeLaws, KeyLaws and ReachBounds.
use Rattle.std.specs.Prelude.{ℕ, ◌+◌, ◌-◌, ◌*◌}
use Rattle.plan.specs.declared.Key.{Key}

-- the volume: the most leaves
unfoldable pub volume : ℕ → Key → ℕ
volume K a = (K - 1) * a.below + a.width

-- and the fewest
abbrev pub fewest_leaves : Key → ℕ
fewest_leaves a = a.below + a.width
