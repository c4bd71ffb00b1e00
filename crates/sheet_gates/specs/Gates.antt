-- What was read of a sheet's gates, and the first that is never read. Internal definitions: the laws are in proofs/.
use Rattle.std.specs.Prelude.{ℕ, ◌+◌, ◌-◌, ◌≤◌, ◌≡◌, List, length, drop, Option as CodeOption, Some, None, Result, Ok, Err}
use Rattle.lists.specs.Trusted.Lists.{from}
use Rattle.lists.specs.Trusted.Checked.{Checked, passed, refused}
use Rattle.tree.specs.Trusted.Limits.{code_base}
use Rattle.sheet.specs.declared.SheetError.{SheetError}
use Rattle.sheet.specs.Trusted.Sheet.{DrawnGate}
use Rattle.sheet.specs.Trusted.Limits.{most_gates}
use Rattle.sheet.specs.Trusted.Read.{Seen, nothing, read_left, read_unread}
use Rattle.sheet.specs.Trusted.Answers.{number_of, drawn_gates}
use Rattle.sheet_fanin.specs.Fanins.{Flagged}
use Rattle.sheet_gates.specs.declared.Lines.{Lines}

-- ---- the lines of the gates

-- the answer is the step's: it went on to something of which `P` holds with what was read, or was refused
abbrev pub Comes : {A B : Type 0} → Result B SheetError → (B → A → Type 0) → Checked A → Type 0
Comes {A} (Ok b) P m = (a : A) × (P b a × (m ≡ passed a))
Comes (Err e) P m = m ≡ refused (number_of e.why) e.line

-- what was read: the gates, the nets and gates seen, and the rest of the text
pub record GatesHeld (text : List ℕ) (count : ℕ) (l : Lines) (a : List DrawnGate × Seen × List ℕ) : Type 0 where
  pub gates : a.0 ≡ drawn_gates l.fanins count l.gates
  pub marked : Flagged code_base (most_gates + 1) l.seen a.1.gates
  pub rest : a.2 ≡ drop l.end text
  pub within : l.end ≤ length text

abbrev pub GatesRead : (text : List ℕ) (start out count : ℕ) → Result Lines SheetError → Type 0
GatesRead text start out count r = Comes r (GatesHeld text count) (read_left out count 1 nothing (drop start text))

-- ---- the first gate that is never read

abbrev pub unread_step : CodeOption ℕ → Checked (Unit {0})
unread_step None = passed tt
unread_step (Some line) = refused 13 line

abbrev pub UnreadFound : List ℕ → ℕ → CodeOption ℕ → Type 0
UnreadFound flags count r = (read : List ℕ) → Flagged code_base (most_gates + 1) flags read → read_unread (from 1 (count - 1)) read ≡ unread_step r
