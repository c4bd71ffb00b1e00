-- What holds of a sheet that was read. Definitions only: that it holds is in ReadLaws, and what follows of its tree in TreeLaws.
use Rattle.std.specs.Prelude.{ℕ, suc, ◌-◌, ◌≤◌, ◌<◌, ◌≢◌, List, [], ◌∷◌, length}
use Rattle.lists.specs.Trusted.Lists.{Every, Distinct, Permuted, from}
use Rattle.tree.specs.Trusted.Limits.{greatest_net, fewest_fanins, most_fanins}
use Rattle.sheet.specs.Trusted.Limits.{most_gates, most_leaves}
use Rattle.sheet.specs.Trusted.Sheet.{DrawnGate, DrawnSheet, fanin_gates, leaf_nets, gates_read}

abbrev pub Net : ℕ → Type 0
Net n = (1 ≤ n) × (n ≤ greatest_net)

-- a net that a leaf may have where `out` is driven
abbrev pub LeafNet : (out n : ℕ) → Type 0
LeafNet out n = (1 ≤ n) × (n ≤ greatest_net) × (n ≢ out)

abbrev pub FaninCount : DrawnGate → Type 0
FaninCount x = (fewest_fanins ≤ length x.fanins) × (length x.fanins ≤ most_fanins)

-- gate j comes before gate g
abbrev pub Before : (g j : ℕ) → Type 0
Before g j = (1 ≤ j) × (j < g)

-- each gate reads only gates before itself, where the first of them is gate g
abbrev pub Earlier : (g : ℕ) → List DrawnGate → Type 0
Earlier g [] = Unit {0}
Earlier g (x ∷ xs) = Every (Before g) (fanin_gates x.fanins) × Earlier (suc g) xs

pub record WellFormed (s : DrawnSheet) : Type 0 where
  pub out_net : Net s.out
  pub gate_count : (1 ≤ length s.gates) × (length s.gates ≤ most_gates)
  pub fanin_counts : Every FaninCount s.gates
  pub earlier : Earlier 1 s.gates
  -- every gate but the last is read exactly once, and the last is not read
  pub read_once : Permuted (gates_read s.gates) (from 1 (length s.gates - 1))
  pub leaf_nets_lem : Every (LeafNet s.out) (leaf_nets s.gates)
  pub leaf_once : Distinct (leaf_nets s.gates)
  pub leaf_count_lem : length (leaf_nets s.gates) ≤ most_leaves
