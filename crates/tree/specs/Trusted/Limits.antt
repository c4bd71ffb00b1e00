-- The numbers of nets, codes and fanins, each named once; the code's are in src/lib.rt. Definitions only.
use Rattle.std.specs.Prelude.{ℕ}

-- nets go from 1 to the greatest
abbrev pub greatest_net : ℕ
greatest_net = 9999

-- what is no net has a code above it: in a fanin gate g is written as the base and g, and in a table's input table t as the base and t
abbrev pub code_base : ℕ
code_base = 10000

-- a gate has from 2 to 10 fanins
abbrev pub fewest_fanins : ℕ
fewest_fanins = 2

abbrev pub most_fanins : ℕ
most_fanins = 10
