-- The text of a program's next sheet, and the rest after it. Definitions only: the laws are in CutLaws.
use Rattle.std.specs.Prelude.{ℕ, zero, suc, ◌-◌, List, [], ◌∷◌, ◌++◌}
use Rattle.std.proofs.Math.Option.{Option, none, some}
use Rattle.lists.specs.Trusted.Lists.{from}
use Rattle.lists.specs.Trusted.Checked.{Checked, passed, refused, ◌>>=◌, given}
use Rattle.sheet.specs.Trusted.Line.{line, fields}
use Rattle.sheet.specs.Trusted.Sheet.{DrawnSheet}
use Rattle.sheet.specs.Trusted.Read.{Head, head_of, nothing, read_left, read_unread}

-- the first n lines of a text and what follows them; all of it where there are fewer
abbrev pub lines : ℕ → List ℕ → List ℕ × List ℕ
lines zero text = ([], text)
lines (suc n) text = elim (line text) [ none ↦ (text, []) | some p ↦ (p.0 ++ (10 ∷ (lines n p.1).0), (lines n p.1).1) ]

-- the gates that line 1 counts, where it is not turned down
abbrev pub gates_of : Checked Head → Option ℕ
gates_of (passed head) = some head.count
gates_of (refused number place) = none

-- line 1 and a line for each gate that it counts; all that is left where line 1 is missing or turned down
abbrev pub sheet_text : List ℕ → List ℕ × List ℕ
sheet_text text =
    elim (line text) [
      | none ↦ (text, [])
      | some p ↦ elim (gates_of (head_of (fields p.0))) [ none ↦ (text, []) | some n ↦ lines (suc n) text ]
    ]

-- the same without cutting: a sheet read off the front of a text, as `read_sheet` does save that bytes may follow it
abbrev pub next_read : List ℕ → Checked (DrawnSheet × List ℕ)
next_read text = do
  (bytes, rest) ← given (line text) 1 1
  head ← head_of (fields bytes)
  (gates, seen, rest₁) ← read_left head.out head.count 1 nothing rest
  _ ← read_unread (from 1 (head.count - 1)) seen.gates
  passed (record { out = head.out; inverted = head.inverted; gates = gates }, rest₁)
