-- The numbers that bound the search for one gate, each named once; the code's are in src/lib.rt. Internal definitions.
use Rattle.std.specs.Prelude.{ℕ}

-- a table has from 2 to 6 inputs
abbrev pub least_inputs : ℕ
least_inputs = 2

abbrev pub most_inputs : ℕ
most_inputs = 6

-- the most leaves under a gate: then a byte holds each number of tables below it
abbrev pub most_gate_leaves : ℕ
most_gate_leaves = 256

-- the sets of at most that many fanins
abbrev pub masks : ℕ
masks = 1024

-- the most steps of a plan: two for each fanin, but the first
abbrev pub most_steps : ℕ
most_steps = 19
