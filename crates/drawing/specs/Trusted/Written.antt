-- A drawn sheet as text: 01, "Sheet". Definitions only: that reading it gives the sheet back is in RoundTrip,
-- and that no other text is read as the sheet in OneText.
use Rattle.std.specs.Prelude.{ℕ, Bool, false, List, [], ◌∷◌, ◌++◌, map, length}
use Rattle.lists.specs.Trusted.Lists.{gather}
use Rattle.tree.specs.declared.Kind.{Kind}
use Rattle.tree.specs.declared.Kind.TheVariants.{And as and, Or as or}
use Rattle.decimal.specs.Trusted.Number.{Number, columns}
use Rattle.decimal.specs.Trusted.Columns.{signed_field_of}
use Rattle.sheet.specs.declared.Edge.{Edge as Fanin}
use Rattle.sheet.specs.Trusted.Sheet.{DrawnGate, DrawnSheet, code_of}

-- a net or a gate; a minus sign inverts
abbrev pub signed_number : (inverted : Bool) → ℕ → Number
signed_number inverted n = record { negative = inverted; magnitude = n }

-- a count, or a kind, has no sign
abbrev pub plain_number : ℕ → Number
plain_number = signed_number false

-- the numbers in fields of six columns, and a line of them with its line feed
abbrev pub fields_text : List Number → List ℕ
fields_text = gather (signed_field_of columns)

abbrev pub line_text : List Number → List ℕ
line_text xs = fields_text xs ++ (10 ∷ [])

-- line 1: output net, number of gates
abbrev pub head_numbers : DrawnSheet → List Number
head_numbers s = signed_number s.inverted s.out ∷ plain_number (length s.gates) ∷ []

abbrev pub kind_number : Kind → ℕ
kind_number and = 1
kind_number or = 2

abbrev pub fanin_number : Fanin → Number
fanin_number f = signed_number f.inverted (code_of f.source)

-- a gate's line: kind, fanin count, fanins
abbrev pub gate_numbers : DrawnGate → List Number
gate_numbers g = plain_number (kind_number g.kind) ∷ plain_number (length g.fanins) ∷ map fanin_number g.fanins

abbrev pub gate_text : DrawnGate → List ℕ
gate_text g = line_text (gate_numbers g)

-- line 1, and one line a gate
abbrev pub written : DrawnSheet → List ℕ
written s = line_text (head_numbers s) ++ gather gate_text s.gates
