-- The numbers that a sheet is held to. Definitions only.
use Rattle.std.specs.Prelude.{ℕ, ◌+◌}

-- the most fields of a line
abbrev pub most_fields : ℕ
most_fields = 12

-- of a sheet: the most gates, and the most leaves
abbrev pub most_gates : ℕ
most_gates = 255

abbrev pub most_leaves : ℕ
most_leaves = 256

-- room for the fanins of all gates of a sheet: each reads a leaf, or a gate, that no other reads
abbrev pub fanin_room : ℕ
fanin_room = most_leaves + most_gates + 1
