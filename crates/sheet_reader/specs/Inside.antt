-- What the functions inside answer. Internal definitions.
use Rattle.std.specs.Prelude.{ℕ, ◌+◌, ◌-◌, Bool, not, ◌||◌, List, Result}
use Rattle.lists.specs.Trusted.Lists.{from}
use Rattle.lists.specs.Trusted.Checked.{Checked, passed, ◌>>=◌, require, given}
use Rattle.sheet_gates.specs.declared.Lines.{Lines}
use Rattle.sheet_gates.specs.Gates.{GatesHeld}
use Rattle.sheet_line.specs.declared.Head.{Head}
use Rattle.sheet.specs.declared.SheetError.{SheetError}
use Rattle.sheet.specs.declared.Next.{Next}
use Rattle.sheet.specs.Trusted.Sheet.{DrawnGate, DrawnSheet}
use Rattle.sheet.specs.Trusted.Line.{line, fields}
use Rattle.sheet.specs.Trusted.Read.{is_empty, Head as LineOne, Seen, nothing, read_left, read_unread, head_of}
use Rattle.sheet.specs.Trusted.Promise.{NextRead}

-- what comes after the gates
abbrev pub read_end : (last : Bool) → LineOne → List DrawnGate × Seen × List ℕ → Checked (DrawnSheet × List ℕ)
read_end last head (gates, seen, rest) = do
  _ ← require (not last || is_empty rest) 1 (head.count + 2)
  _ ← read_unread (from 1 (head.count - 1)) seen.gates
  passed (record { out = head.out; inverted = head.inverted; gates = gates }, rest)

-- a sheet off the front of a text, after which bytes may follow unless it is the last
abbrev pub read_front : (last : Bool) → List ℕ → Checked (DrawnSheet × List ℕ)
read_front last text = do
  (bytes, rest) ← given (line text) 1 1
  head ← head_of (fields bytes)
  gates ← read_left head.out head.count 1 nothing rest
  read_end last head gates

-- after the lines of the gates, where `m` is what the definition makes of them
abbrev pub EndRead : List ℕ → Lines → Head → Bool → Result Next SheetError → Type 0
EndRead text l h last r =
    (a : List DrawnGate × Seen × List ℕ) → GatesHeld text h.count l a →
    NextRead text (read_end last (record { out = h.out; inverted = h.inverted; count = h.count }) a) r
