-- What the steps of a merge compute. Internal definitions: the laws are in MergeLaws.
use Rattle.std.specs.Prelude.{ℕ, ◌-◌, ◌^◌, ◌≤◌, ◌<◌, ◌≡◌, Bool, not, List, ◌++◌, map, length, get_or, take, replicate}
use Rattle.lists.specs.Sequences.{Sorted}
use Rattle.cover.specs.Trusted.Bits.{bit, index, place, truth_of}
use Rattle.pending.specs.declared.Lut.{Lut}
use Rattle.table.specs.Trusted.Limits.{input_room}

-- the inputs of a record, its unused ones zero
abbrev pub padded : List ℕ → List ℕ
padded xs = xs ++ replicate (input_room - length xs) 0

-- the 64 rows' bits at a place
unfoldable pub column_of : ℕ → ℕ
column_of p = truth_of (λ row. bit row p) 64

-- and those at the places of the codes `cs` among the inputs `xs`
abbrev pub columns_of : List ℕ → List ℕ → List ℕ
columns_of cs xs = map (λ c. column_of (place c xs)) cs

-- the value of a truth table in a row, where the inputs have the row's bits of the words `ms`
abbrev pub row_value : ℕ → List ℕ → ℕ → Bool
row_value truth ms row = bit truth (index (map (λ m. bit m row) ms))

-- the word w has the value `f row` as its bit of each row
pub record Rows (f : ℕ → Bool) (w : ℕ) : Type 0 where
  pub bits : (row : ℕ) → row < 64 → bit w row ≡ f row

-- there is room for 32 words, and the first of them have the values `f`
pub record Words (f : ℕ → ℕ → Bool) (size : ℕ) (ws : List ℕ) : Type 0 where
  pub shape : length ws ≡ 32
  pub rows : (j : ℕ) → j < size → Rows (f j) (get_or ws j 0)

-- `xs` are the inputs of a record, of which the first n are in use
pub record MergeRoom (n : ℕ) (xs : List ℕ) : Type 0 where
  pub fits : n ≤ input_room
  pub shape : length xs ≡ input_room

-- with zeros after them
pub record Filled (n : ℕ) (xs : List ℕ) : Type 0 where
  pub fits : n ≤ input_room
  pub zeros : xs ≡ padded (take n xs)

-- and in order
pub record Ordered (n : ℕ) (xs : List ℕ) : Type 0 where
  pub filled : Filled n xs
  pub sorted : Sorted (take n xs)

-- a record of no more inputs than there is room for, with a bit for each of their rows
pub record Tabled (t : Lut) : Type 0 where
  pub fits : t.count ≤ input_room
  pub small : t.truth < 2 ^ 2 ^ t.count

-- the table of the other value
abbrev pub inverted_of : Lut → Lut
inverted_of t = record { net = t.net; count = t.count; inputs = t.inputs; truth = truth_of (λ i. not (bit t.truth i)) (2 ^ t.count) }
