-- What the functions inside answer. Internal definitions.
use Rattle.std.specs.Prelude.{ℕ, suc, ◌+◌, ◌-◌, ◌≤◌, ◌<◌, ◌≡◌, not, List, map, eqb, length, take, drop, Option as CodeOption, Some, None, IfSome, Result, Ok, Err, IfOk}
use Rattle.std.proofs.Math.Option.{Option, none, some}
use Rattle.lists.specs.Trusted.Checked.{Checked, passed, refused, ◌>>=◌, given}
use Rattle.tree.specs.declared.Kind.{Kind}
use Rattle.tree.specs.Trusted.Limits.{most_fanins}
use Rattle.decimal.specs.Trusted.Number.{Number}
use Rattle.sheet_line.specs.declared.FieldValue.{FieldValue}
use Rattle.sheet_line.specs.declared.Fields.{Fields}
use Rattle.sheet_line.specs.declared.Head.{Head}
use Rattle.sheet_line.specs.declared.GateHead.{GateHead}
use Rattle.sheet.specs.declared.Refusal.{Refusal}
use Rattle.sheet_line.specs.declared.GateLine.{GateLine}
use Rattle.sheet.specs.Trusted.Limits.{most_fields}
use Rattle.sheet.specs.Trusted.Line.{line, fields}
use Rattle.sheet.specs.Trusted.Read.{Head as LineOne, gate_head_of}
use Rattle.sheet.specs.Trusted.Answers.{number_of}

-- ---- where a line ends

-- the bytes from a place up to the line's end, and those after its line feed
abbrev pub cut_at : List ℕ → ℕ → CodeOption ℕ → Option (List ℕ × List ℕ)
cut_at text start (Some end) = some (take (end - start) (drop start text), drop (end + 1) text)
cut_at text start None = none

pub record LineEnds (text : List ℕ) (start : ℕ) (r : CodeOption ℕ) : Type 0 where
  pub cut : line (drop start text) ≡ cut_at text start r
  pub within : IfSome r (λ end. (start ≤ end) × (end < length text))

-- ---- the fields of a line

abbrev pub value_of : FieldValue → Number
value_of x = record { negative = not (eqb x.sign 0); magnitude = x.magnitude }

abbrev pub values_of : Fields → List Number
values_of f = map value_of (take f.count f.numbers)

abbrev pub numbers_of : CodeOption Fields → Option (List Number)
numbers_of None = none
numbers_of (Some f) = some (values_of f)

-- the numbers fill their array, and the count is at most as many
pub record FieldsRoom (f : Fields) : Type 0 where
  pub whole : length f.numbers ≡ most_fields
  pub within : f.count ≤ most_fields

pub record FieldsRead (bytes : List ℕ) (r : CodeOption Fields) : Type 0 where
  pub same : fields bytes ≡ numbers_of r
  pub room : IfSome r FieldsRoom

-- ---- line 1

abbrev pub head_step : Result Head Refusal → Checked LineOne
head_step (Ok h) = passed (record { out = h.out; inverted = h.inverted; count = h.count })
head_step (Err why) = refused (number_of why) 1

-- ---- the first two fields of a gate's line

abbrev pub gate_head_step : ℕ → Fields → Result GateHead Refusal → Checked (Kind × List Number)
gate_head_step g f (Ok h) = passed (h.kind, drop 2 (values_of f))
gate_head_step g f (Err why) = refused (number_of why) (suc g)

-- of gate g, whichever it is
pub record GateHeadRead (f : Fields) (r : Result GateHead Refusal) : Type 0 where
  pub step : (g : ℕ) → gate_head_of g (some (values_of f)) ≡ gate_head_step g f r
  pub fanins : IfOk r (λ h. (h.count + 2 ≡ f.count) × (h.count ≤ most_fanins))

-- ---- a gate's line

-- the line of gate g at the front of a text: its kind, the numbers of its fanins, and the rest of the text
abbrev pub gate_line : (g : ℕ) → List ℕ → Checked (Kind × List Number × List ℕ)
gate_line g text = do
  (bytes, rest) ← given (line text) 1 (suc g)
  (kind, more) ← gate_head_of g (fields bytes)
  passed (kind, more, rest)

abbrev pub fanin_numbers : GateLine → List Number
fanin_numbers l = map value_of (take l.count (drop 2 l.numbers))

abbrev pub gate_line_step : ℕ → List ℕ → Result GateLine Refusal → Checked (Kind × List Number × List ℕ)
gate_line_step g text (Ok l) = passed (l.kind, fanin_numbers l, drop l.end text)
gate_line_step g text (Err why) = refused (number_of why) (suc g)

-- the numbers fill their array, and the fanins and the place after the line are there
pub record GateLineRoom (text : List ℕ) (l : GateLine) : Type 0 where
  pub whole : length l.numbers ≡ most_fields
  pub within : l.count ≤ most_fanins
  pub ends : l.end ≤ length text

-- of gate g, whichever it is
pub record GateLineRead (text : List ℕ) (start : ℕ) (r : Result GateLine Refusal) : Type 0 where
  pub step : (g : ℕ) → gate_line g (drop start text) ≡ gate_line_step g text r
  pub room : IfOk r (GateLineRoom text)
