-- The reading of a sheet, with all that turns it down: 1 and 4 to 13, line by line; a refusal's place is the line, from 1.
-- Definitions only.
use Rattle.std.specs.Prelude.{ℕ, zero, suc, ◌+◌, ◌-◌, Bool, true, false, not, cond, ◌&&◌, List, [], ◌∷◌, ◌++◌, ltb, eqb, length}
use Rattle.std.proofs.Math.Option.{Option, none, some}
use Rattle.lists.specs.Trusted.Lists.{from}
use Rattle.lists.specs.Trusted.Tests.{within, elem}
use Rattle.lists.specs.Trusted.Checked.{Checked, passed, ◌>>=◌, require, given}
use Rattle.tree.specs.declared.Kind.{Kind}
use Rattle.tree.specs.declared.Kind.TheVariants.{And as and, Or as or}
use Rattle.tree.specs.Trusted.Limits.{greatest_net, fewest_fanins, most_fanins, code_base}
use Rattle.decimal.specs.Trusted.Number.{Number}
use Rattle.sheet.specs.Trusted.Limits.{most_gates, most_leaves}
use Rattle.sheet.specs.Trusted.Line.{line, fields}
use Rattle.sheet.specs.declared.Source.{Source}
use Rattle.sheet.specs.declared.Source.TheVariants.{Net as net, Gate as gate}
use Rattle.sheet.specs.declared.Edge.{Edge as Fanin}
use Rattle.sheet.specs.Trusted.Sheet.{DrawnGate, DrawnSheet}

-- ---- tests

-- a count has no sign
abbrev pub counts : (low high : ℕ) → Number → Bool
counts low high x = not x.negative && within low high x.magnitude

abbrev pub is_empty : {A : Type 0} → List A → Bool
is_empty [] = true
is_empty (x ∷ xs) = false

-- the first two, and those after them
abbrev pub two : {A : Type 0} → List A → Option (A × A × List A)
two [] = none
two (x ∷ []) = none
two (x ∷ y ∷ zs) = some (x, y, zs)

-- ---- line 1: output net and number of gates

pub record Head : Type 0 where
  pub out : ℕ
  pub inverted : Bool
  pub count : ℕ

-- of the line's fields
abbrev pub head_of : Option (List Number) → Checked Head
head_of fs = do
  xs ← given fs 1 1
  (out, count, more) ← given (two xs) 1 1
  _ ← require (is_empty more) 1 1
  _ ← require (within 1 greatest_net out.magnitude) 4 1
  _ ← require (counts 1 most_gates count) 5 1
  passed (record { out = out.magnitude; inverted = out.negative; count = count.magnitude })

-- ---- fanins

-- the leaf nets and the gates that were read so far
pub record Seen : Type 0 where
  pub nets : List ℕ
  pub gates : List ℕ

abbrev pub nothing : Seen
nothing = record { nets = []; gates = [] }

-- what the number n names as a fanin of gate g: a net, or an earlier gate
abbrev pub source_of : (g n : ℕ) → Option Source
source_of g n = cond (within 1 greatest_net n) (some (net n)) (cond (ltb code_base n && ltb n (code_base + g)) (some (gate (n - code_base))) none)

abbrev pub read_source : (out place : ℕ) → Seen → Source → Checked Seen
read_source out place seen (gate g) = do
  _ ← require (not (elem g seen.gates)) 9 place
  passed (record { nets = seen.nets; gates = seen.gates ++ (g ∷ []) })
read_source out place seen (net n) = do
  _ ← require (not (elem n seen.nets)) 10 place
  _ ← require (not (eqb n out)) 11 place
  _ ← require (ltb (length seen.nets) most_leaves) 12 place
  passed (record { nets = seen.nets ++ (n ∷ []); gates = seen.gates })

-- a fanin of gate g that is written as n: what it reads
abbrev pub read_fanin : (out g : ℕ) → Seen → (n : ℕ) → Checked (Source × Seen)
read_fanin out g seen n = do
  source ← given (source_of g n) 8 (suc g)
  seen₁ ← read_source out (suc g) seen source
  passed (source, seen₁)

-- the fanins of gate g, from left to right
abbrev pub read_fanins : (out g : ℕ) → Seen → List Number → Checked (List Fanin × Seen)
read_fanins out g seen [] = passed ([], seen)
read_fanins out g seen (x ∷ xs) = do
  (source, seen₁) ← read_fanin out g seen x.magnitude
  (fanins, seen₂) ← read_fanins out g seen₁ xs
  passed (record { inverted = x.negative; source = source } ∷ fanins, seen₂)

-- ---- gate lines: kind, fanin count, fanins

abbrev pub kind_of : Number → Option Kind
kind_of x = cond (counts 1 1 x) (some and) (cond (counts 2 2 x) (some or) none)

-- gate g stands at line g + 1; of the line's fields: the kind, and the numbers of the fanins
abbrev pub gate_head_of : (g : ℕ) → Option (List Number) → Checked (Kind × List Number)
gate_head_of g fs = do
  xs ← given fs 1 (suc g)
  (kind, count, more) ← given (two xs) 1 (suc g)
  kind ← given (kind_of kind) 6 (suc g)
  _ ← require (counts fewest_fanins most_fanins count) 7 (suc g)
  _ ← require (eqb (length more) count.magnitude) 1 (suc g)
  passed (kind, more)

-- of the bytes before the line feed
abbrev pub read_gate : (out g : ℕ) → Seen → List ℕ → Checked (DrawnGate × Seen)
read_gate out g seen bytes = do
  (kind, more) ← gate_head_of g (fields bytes)
  (fanins, seen₁) ← read_fanins out g seen more
  passed (record { kind = kind; fanins = fanins }, seen₁)

-- as many gates as are left, from gate g on; and the rest of the text
abbrev pub read_left : (out left g : ℕ) → Seen → List ℕ → Checked (List DrawnGate × Seen × List ℕ)
read_left out zero g seen text = passed ([], seen, text)
read_left out (suc left) g seen text = do
  (bytes, rest) ← given (line text) 1 (suc g)
  (gate₁, seen₁) ← read_gate out g seen bytes
  (gates, seen₂, rest₁) ← read_left out left (suc g) seen₁ rest
  passed (gate₁ ∷ gates, seen₂, rest₁)

-- ---- after the last line and the bytes beyond it: each gate but the root was read

-- of the gates `gs`, the first that is not among the read ones turns the sheet down
abbrev pub read_unread : (gs read : List ℕ) → Checked (Unit {0})
read_unread [] read = passed tt
read_unread (g ∷ gs) read = do
  _ ← require (elem g read) 13 (suc g)
  read_unread gs read

-- ---- a sheet

abbrev pub read_sheet : List ℕ → Checked DrawnSheet
read_sheet text = do
  (bytes, rest) ← given (line text) 1 1
  head ← head_of (fields bytes)
  (gates, seen, rest₁) ← read_left head.out head.count 1 nothing rest
  _ ← require (is_empty rest₁) 1 (head.count + 2)
  _ ← read_unread (from 1 (head.count - 1)) seen.gates
  passed (record { out = head.out; inverted = head.inverted; gates = gates })
