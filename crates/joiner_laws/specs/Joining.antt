-- What is held while the gates of a sheet are joined, as lists of gates and fanins. Internal definitions: the laws are in JoiningLaws.
use Rattle.std.specs.Prelude.{ℕ, suc, ◌+◌, ◌-◌, ◌≤◌, ◌<◌, ◌≡◌, Bool, false, ◌&&◌, ◌||◌, List, [], ◌∷◌, ◌++◌, map, leb, length, get_or, take, drop, set}
use Rattle.lists.specs.Trusted.Tests.{elem}
use Rattle.tree.specs.declared.Kind.{Kind}
use Rattle.tree.specs.declared.Kind.TheVariants.{And}
use Rattle.tree.specs.Trusted.Limits.{most_fanins}
use Rattle.sheet.specs.declared.Source.{Source}
use Rattle.sheet.specs.declared.Source.TheVariants.{Net, Gate}
use Rattle.sheet.specs.declared.Edge.{Edge}
use Rattle.sheet.specs.Trusted.Limits.{most_gates}
use Rattle.sheet.specs.Trusted.Sheet.{DrawnGate}
use Rattle.sheet.specs.PlaceLaws.{no_gate}
use Rattle.joined.specs.Trusted.Joined.{chained}
use Rattle.joined.specs.JoinedSheet.{turn_fanin, joined_fanins, gone_into, joined_gate, joined_gates, gone_gates}
use Rattle.joiner_laws.specs.declared.JoinedGate.{JoinedGate}
use Rattle.joiner_laws.specs.declared.JoinedGates.{JoinedGates}

-- ---- one gate

-- the code's gate is this one
pub record GateIs (x : JoinedGate) (d : DrawnGate) : Type 0 where
  pub kind : x.kind ≡ d.kind
  pub count : x.count ≡ length d.fanins
  pub fanins : take x.count x.fanins ≡ d.fanins
  pub room : length x.fanins ≡ most_fanins

-- one fanin more
abbrev pub with_edge : JoinedGate → Edge → JoinedGate
with_edge x f = record { kind = x.kind; count = x.count + 1; fanins = set x.fanins x.count f }

-- the fanins of `lower` more, turned over where the edge to it is inverted
abbrev pub FaninsAdded : JoinedGate → (inverted : Bool) (lower y : JoinedGate) → Type 0
FaninsAdded x i lower y = (d e : DrawnGate) → GateIs x d → GateIs lower e → GateIs y (record { kind = d.kind; fanins = d.fanins ++ map (turn_fanin i) e.fanins })

-- the first i of the fanins `fs`
pub record FaninsAdding (x : JoinedGate) (inverted : Bool) (fs : List Edge) (i : ℕ) (y : JoinedGate) : Type 0 where
  pub count : y.count ≡ x.count + i
  pub added : (d : DrawnGate) → GateIs x d → GateIs y (record { kind = d.kind; fanins = d.fanins ++ map (turn_fanin inverted) (take i fs) })

-- whether an edge is joined that stands in a gate of kind k beside so many other fanins, where `lower` is the gate that it reads, if it does
abbrev pub joins_lower : (k : Kind) (others : ℕ) (inverted : Bool) → Source → (lower : JoinedGate) → Bool
joins_lower k n i (Net m) x = false
joins_lower k n i (Gate g) x = chained i k x.kind && leb (n + x.count) most_fanins

-- ---- all gates

-- what an array gives past its end: no gate
abbrev pub no_joined_gate : JoinedGate
no_joined_gate = record { kind = And; count = 0; fanins = [] }

-- the array begins with these gates
abbrev pub GatesAre : List JoinedGate → List DrawnGate → Type 0
GatesAre xs ds = (j : ℕ) → j < length ds → GateIs (get_or xs j no_joined_gate) (get_or ds j no_gate)

-- the gates whose flags are up and the gates `more` are the gates `all`
abbrev pub FlagsShow : (flags : List Bool) (more all : List ℕ) → Type 0
FlagsShow flags more all = (j : ℕ) → j < most_gates → (get_or flags j false || elem (suc j) more) ≡ elem (suc j) all

-- the first g gates were joined
pub record FirstJoined (gs : List DrawnGate) (g : ℕ) (xs : List JoinedGate) : Type 0 where
  pub done : List DrawnGate
  pub at : (length done ≡ g) × (g ≤ length gs)
  pub gates : GatesAre xs done
  pub joined : done ++ joined_gates done (drop g gs) ≡ joined_gates [] gs
  pub room : length xs ≡ most_gates

pub record GatesJoining (gs : List DrawnGate) (g : ℕ) (xs : List JoinedGate) (flags : List Bool) : Type 0 where
  pub before : FirstJoined gs g xs
  pub flags_up : FlagsShow flags (gone_gates before.done (drop g gs)) (gone_gates [] gs)
  pub flag_room : length flags ≡ most_gates

-- and of the next one, d, the first i fanins: x is what has become of it
pub record FaninsJoining (gs : List DrawnGate) (g : ℕ) (d : DrawnGate) (xs : List JoinedGate) (i : ℕ) (x : JoinedGate) (flags : List Bool) : Type 0 where
  pub before : FirstJoined gs g xs
  pub some : g < length gs
  pub next : get_or gs g no_gate ≡ d
  pub taken : List Edge
  pub gate : GateIs x (record { kind = d.kind; fanins = taken })
  pub at : i ≤ length d.fanins
  pub fits : length taken + (length d.fanins - i) ≤ most_fanins
  pub joined : taken ++ joined_fanins before.done d.kind (length taken) (drop i d.fanins) ≡ joined_fanins before.done d.kind 0 d.fanins
  pub flags_up : FlagsShow flags
      (gone_into before.done d.kind (length taken) (drop i d.fanins) ++ gone_gates (before.done ++ (joined_gate before.done d ∷ [])) (drop (suc g) gs))
      (gone_gates [] gs)
  pub flag_room : length flags ≡ most_gates

-- all were
pub record AllJoined (gs : List DrawnGate) (r : JoinedGates) : Type 0 where
  pub gates : GatesAre r.gates (joined_gates [] gs)
  pub gone : (j : ℕ) → j < most_gates → get_or r.gone j false ≡ elem (suc j) (gone_gates [] gs)
