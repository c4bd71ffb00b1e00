-- The lines of a list as they are read: 01, "List", and 02, #101, "not laid out as the list has it (t the line's number, u from 2 to 6, no
-- minus signs, truth table below 2^64)". Each takes a line, or a part of one, off the front of a text. Definitions only.
use Rattle.std.specs.Prelude.{ℕ, zero, suc, cond, List, [], ◌∷◌, leb, eqb, length, take, drop}
use Rattle.std.proofs.Math.Option.{Option, none, some, bind as ◌>>=◌}
use Rattle.lists.specs.Trusted.Tests.{within}
use Rattle.decimal.specs.Trusted.Number.{columns, word_number}
use Rattle.table.specs.Trusted.Limits.{input_room}
use Rattle.table.specs.Trusted.Records.{record_of}
use Rattle.table.specs.declared.Table.{Table}

-- the number in the first so many columns
abbrev pub first_number : ℕ → List ℕ → Option ℕ
first_number width text = cond (leb width (length text)) (word_number (take width text)) none

-- the number, and the bytes after its columns
abbrev pub take_number : ℕ → List ℕ → Option (ℕ × List ℕ)
take_number width text = do
  n ← first_number width text
  some (n, drop width text)

-- so many numbers, each in a field
abbrev pub take_numbers : ℕ → List ℕ → Option (List ℕ × List ℕ)
take_numbers zero text = some ([], text)
take_numbers (suc n) text = do
  (x, more) ← take_number columns text
  (xs, rest) ← take_numbers n more
  some (x ∷ xs, rest)

-- the line feed, which is the byte 10
abbrev pub take_line_feed : List ℕ → Option (List ℕ)
take_line_feed [] = none
take_line_feed (b ∷ rest) = cond (eqb b 10) (some rest) none

-- line 0: K, the capacity and the used count
abbrev pub take_top : List ℕ → Option (ℕ × ℕ × ℕ × List ℕ)
take_top text = do
  (k, a) ← take_number columns text
  (capacity, b) ← take_number columns a
  (used, c) ← take_number columns b
  rest ← take_line_feed c
  some (k, capacity, used, rest)

-- line t: t, the net driven, u, the u inputs, and the truth table in 21 columns. A line does not say the level: 0 stands for it.
abbrev pub take_table : ℕ → List ℕ → Option (Table × List ℕ)
take_table t text = do
  (number, a) ← take_number columns text
  (net, b) ← take_number columns a
  (u, c) ← take_number columns b
  (inputs, d) ← cond (eqb number t) (cond (within 2 input_room u) (take_numbers u c) none) none
  (truth, e) ← take_number 21 d
  rest ← take_line_feed e
  some (record_of 0 (record { drives = net; inputs = inputs; truth = truth }), rest)
