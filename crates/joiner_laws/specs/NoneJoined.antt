-- Whether no edge of a sheet is joined, as a test that computes. Internal definitions: NoneJoinedLaws has the proof that such a sheet is its
-- own joined sheet.
use Rattle.std.specs.Prelude.{ℕ, suc, ◌-◌, ◌≤◌, ◌<◌, ◌≡◌, Bool, not, ◌&&◌, List, length, get_or, drop}
use Rattle.lists.specs.Trusted.Tests.{all}
use Rattle.sheet.specs.declared.Edge.{Edge}
use Rattle.sheet.specs.Trusted.Sheet.{DrawnGate}
use Rattle.sheet.specs.PlaceLaws.{no_gate}
use Rattle.joined.specs.JoinedSheet.{joins_source}

-- where all gates are as drawn, a fanin of the gate d stays, and so do all of them
abbrev pub keeps_fanin : (gs : List DrawnGate) → DrawnGate → Edge → Bool
keeps_fanin gs d f = not (joins_source gs d.kind (length d.fanins - 1) f.inverted f.source)

abbrev pub keeps_fanins : (gs : List DrawnGate) → DrawnGate → Bool
keeps_fanins gs d = all (keeps_fanin gs d) d.fanins

abbrev pub none_joined : List DrawnGate → Bool
none_joined gs = all (keeps_fanins gs) gs

-- the first g gates were looked at, and what is left decides
pub record GatesKept (gs : List DrawnGate) (g : ℕ) : Type 0 where
  pub at : g ≤ length gs
  pub left : all (keeps_fanins gs) (drop g gs) ≡ none_joined gs

-- and of the next one, d, the first i fanins
pub record FaninsKept (gs : List DrawnGate) (g : ℕ) (d : DrawnGate) (i : ℕ) : Type 0 where
  pub some : g < length gs
  pub next : get_or gs g no_gate ≡ d
  pub upto : i ≤ length d.fanins
  pub left : (all (keeps_fanin gs d) (drop i d.fanins) && all (keeps_fanins gs) (drop (suc g) gs)) ≡ none_joined gs
