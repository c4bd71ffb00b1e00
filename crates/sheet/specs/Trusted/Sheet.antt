-- A sheet as it is drawn: its gates in order, numbered from 1, the last of which is the root. Definitions only.
use Rattle.std.specs.Prelude.{ℕ, ◌+◌, Bool, List, [], ◌∷◌}
use Rattle.lists.specs.Trusted.Lists.{gather}
use Rattle.tree.specs.Trusted.Limits.{code_base}
use Rattle.tree.specs.declared.Kind.{Kind}
-- a fanin, and what it reads, are those of the code
use Rattle.sheet.specs.declared.Source.{Source}
use Rattle.sheet.specs.declared.Source.TheVariants.{Net as net, Gate as gate}
use Rattle.sheet.specs.declared.Edge.{Edge as Fanin}

pub record DrawnGate : Type 0 where
  pub kind : Kind
  pub fanins : List Fanin

-- `inverted` says that the tree's value is
pub record DrawnSheet : Type 0 where
  pub out : ℕ
  pub inverted : Bool
  pub gates : List DrawnGate

-- the net, or the gate, that is read
abbrev pub net_of : Source → List ℕ
net_of (net n) = n ∷ []
net_of (gate g) = []

abbrev pub gate_of : Source → List ℕ
gate_of (net n) = []
gate_of (gate g) = g ∷ []

-- the number that it is written as
abbrev pub code_of : Source → ℕ
code_of (net n) = n
code_of (gate g) = code_base + g

-- the nets and the gates that some fanins read, from left to right
abbrev pub fanin_nets : List Fanin → List ℕ
fanin_nets = gather (λ f. net_of f.source)

abbrev pub fanin_gates : List Fanin → List ℕ
fanin_gates = gather (λ f. gate_of f.source)

-- and those that some gates read: of a whole sheet these are its leaves, and the gates that are not its root
abbrev pub leaf_nets : List DrawnGate → List ℕ
leaf_nets = gather (λ g. fanin_nets g.fanins)

abbrev pub gates_read : List DrawnGate → List ℕ
gates_read = gather (λ g. fanin_gates g.fanins)
