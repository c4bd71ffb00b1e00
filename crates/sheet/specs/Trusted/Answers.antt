-- What the code's answers stand for: 01's number for each refusal, and a sheet's gates and fanins as lists. Definitions only.
use Rattle.std.specs.Prelude.{ℕ, List, map, take, drop, Option as CodeOption, Some, None, Result, Ok, Err}
use Rattle.std.proofs.Math.Option.{Option, none, some}
use Rattle.lists.specs.Trusted.Checked.{Checked, passed, refused}
use Rattle.sheet.specs.declared.Edge.{Edge}
use Rattle.sheet.specs.declared.Gate.{Gate}
use Rattle.sheet.specs.declared.Sheet.{Sheet}
use Rattle.sheet.specs.declared.Refusal.{Refusal}
use Rattle.sheet.specs.declared.Refusal.TheVariants.{Layout, OutputNet, GateCount, GateKind, FaninCount, NoSource, GateTwice, NetTwice, OutputLeaf, LeafCount, GateUnread}
use Rattle.sheet.specs.declared.SheetError.{SheetError}
use Rattle.sheet.specs.Trusted.Sheet.{DrawnGate, DrawnSheet}

-- 01, "Turned down because of the input"
abbrev pub number_of : Refusal → ℕ
number_of Layout = 1
number_of OutputNet = 4
number_of GateCount = 5
number_of GateKind = 6
number_of FaninCount = 7
number_of NoSource = 8
number_of GateTwice = 9
number_of NetTwice = 10
number_of OutputLeaf = 11
number_of LeafCount = 12
number_of GateUnread = 13

-- the gates that the count says, and of each, among the sheet's fanins, those from its first on that its count says
abbrev pub drawn_gate : List Edge → Gate → DrawnGate
drawn_gate fs g = record { kind = g.kind; fanins = take g.count (drop g.first fs) }

abbrev pub drawn_gates : List Edge → ℕ → List Gate → List DrawnGate
drawn_gates fs n gs = map (drawn_gate fs) (take n gs)

abbrev pub drawn_sheet : Sheet → DrawnSheet
drawn_sheet s = record { out = s.out; inverted = s.inverted; gates = drawn_gates s.fanins s.count s.gates }

-- the code's option as the definitions' one
abbrev pub found : {A : Type 0} → CodeOption A → Option A
found None = none
found (Some a) = some a

-- what was read of a line, or its refusal with the line
abbrev pub on_line : {A : Type 0} → ℕ → Result A Refusal → Result A SheetError
on_line line (Ok a) = Ok a
on_line line (Err why) = Err (record { why = why; line = line })

-- what comes of a reading, where what was read stands for `f` of it
abbrev pub answered : {A B : Type 0} → (A → B) → Result A SheetError → Checked B
answered f (Ok a) = passed (f a)
answered f (Err e) = refused (number_of e.why) e.line

abbrev pub outcome : Result Sheet SheetError → Checked DrawnSheet
outcome = answered drawn_sheet
