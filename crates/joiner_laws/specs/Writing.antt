-- What is held while the gates that stay are written into a sheet, numbered anew. Internal definitions: the laws are in WritingLaws.
use Rattle.std.specs.Prelude.{ℕ, suc, ◌≤◌, ◌<◌, ◌≡◌, List, [], map, length, get_or, take, drop}
use Rattle.lists.specs.Trusted.Lists.{from, sum}
use Rattle.sheet.specs.declared.Source.{Source}
use Rattle.sheet.specs.declared.Source.TheVariants.{Net, Gate as reads}
use Rattle.sheet.specs.declared.Edge.{Edge}
use Rattle.sheet.specs.declared.Gate.{Gate}
use Rattle.sheet.specs.Trusted.Limits.{most_gates, fanin_room}
use Rattle.sheet.specs.Trusted.Sheet.{DrawnGate}
use Rattle.sheet.specs.Trusted.Answers.{drawn_gates}
use Rattle.sheet.specs.PlaceLaws.{no_gate}
use Rattle.sheet.specs.StoreLaws.{Below}
use Rattle.joined.specs.JoinedSheet.{gate_at, joined_gates, gone_gates, staying, new_number, new_fanin, new_gate}

-- a fanin that reads the gate of this number, if it reads one
abbrev pub with_number : Source → ℕ → Source
with_number (Net m) n = Net m
with_number (reads g) n = reads n

abbrev pub renumbered_edge : Edge → ℕ → Edge
renumbered_edge f n = record { inverted = f.inverted; source = with_number f.source n }

-- of the first g gates those that stay
abbrev pub new_gates : List DrawnGate → ℕ → List DrawnGate
new_gates gs g = map (λ h. new_gate (gone_gates [] gs) (gate_at (joined_gates [] gs) h)) (staying (gone_gates [] gs) (from 1 g))

-- how many fanins some gates have
abbrev pub fanin_total : List DrawnGate → ℕ
fanin_total = sum (λ d. length d.fanins)

-- they were written: so many, with so many fanins, and the first g gates have new numbers
pub record GatesWriting (gs : List DrawnGate) (g : ℕ) (numbers : List ℕ) (kept used : ℕ) (gates : List Gate) (fanins : List Edge) : Type 0 where
  pub at : g ≤ length gs
  pub count : kept ≡ new_number (gone_gates [] gs) g
  pub numbered : (j : ℕ) → j < g → get_or numbers j 0 ≡ new_number (gone_gates [] gs) (suc j)
  pub written : drawn_gates fanins kept gates ≡ new_gates gs g
  pub below : Below used (take kept gates)
  pub total : used ≡ fanin_total (new_gates gs g)
  pub number_room : length numbers ≡ most_gates
  pub gate_room : length gates ≡ most_gates
  pub fanin_room_lem : length fanins ≡ fanin_room

-- and of the next one the first i fanins
pub record FaninsWriting (gs : List DrawnGate) (g : ℕ) (numbers : List ℕ) (kept used : ℕ) (gates : List Gate) (i : ℕ) (fanins : List Edge) : Type 0 where
  pub before : GatesWriting gs g numbers kept used gates fanins
  pub upto : i ≤ length (get_or (joined_gates [] gs) g no_gate).fanins
  pub put : take i (drop used fanins) ≡ map (new_fanin (gone_gates [] gs)) (take i (get_or (joined_gates [] gs) g no_gate).fanins)
