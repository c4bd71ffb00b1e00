-- The numbers that the rules fix, each named once. Definitions only.
use Rattle.std.specs.Prelude.{ℕ, ◌≤◌}

-- the inputs that a record has room for
abbrev pub input_room : ℕ
input_room = 6

-- the records that a part has room for
abbrev pub table_room : ℕ
table_room = 800

-- K is 2 to 6, and the capacity 1 to 800
abbrev pub KRange : ℕ → Type 0
KRange k = (2 ≤ k) × (k ≤ input_room)

abbrev pub CapacityRange : ℕ → Type 0
CapacityRange c = (1 ≤ c) × (c ≤ table_room)
