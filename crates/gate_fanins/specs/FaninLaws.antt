-- What holds of each gate that some fanins read holds of the gate that one of them reads.
use Rattle.std.specs.Prelude.{ℕ, zero, suc, ◌<◌, List, [], ◌∷◌, length, get_or}
use Rattle.std.proofs.Common.{arith}
use Rattle.lists.specs.Trusted.Lists.{Every}
use Rattle.lists.specs.ListLaws.{every_left, every_right}
use Rattle.sheet.specs.declared.Edge.{Edge}
use Rattle.sheet.specs.Trusted.Sheet.{gate_of, fanin_gates}
use Rattle.sheet.specs.PlaceLaws.{no_edge}

pub every_fanin : {P : ℕ → Type 0} (fs : List Edge) (i : ℕ) → i < length fs → Every P (fanin_gates fs) → Every P (gate_of (get_or fs i no_edge).source)
every_fanin [] i l h = absurd (omega arith)
every_fanin (f ∷ fs) zero l h = every_left (gate_of f.source) (fanin_gates fs) h
every_fanin {P} (f ∷ fs) (suc i) l h = every_fanin {P = P} fs i (omega arith) (every_right (gate_of f.source) (fanin_gates fs) h)
