-- What the library's functions promise. Internal definitions: the law is in CallLaws.
use Rattle.std.specs.Prelude.{ℕ, ◌≤◌, ◌≡◌, List, length, Result, Ok, Err}
use Rattle.listing.specs.Lines.{longest}
use Rattle.printing.specs.declared.NoRoom.{NoRoom}
use Rattle.program.specs.Trusted.Program.{Prints}
use Rattle.program.specs.Promises.{AnsweredBy, AtFrontBy}
use Rattle.fast_program.specs.Trusted.FastProgram.{FastPrints}
use Rattle.fast_program.specs.FastLongest.{fast_longest}

-- how many bytes were printed: none where the buffer is too short
abbrev pub printed_bytes : Result ℕ NoRoom → ℕ
printed_bytes (Ok n) = n
printed_bytes (Err x) = 0

-- what is printed for the input, as `P` says, stands in the buffer, or the buffer is too short and as it was; with room for `most` bytes
-- it is never too short, and n is the length of what is printed
pub record PrintedBy (P : List ℕ → List ℕ → Type 0) (most : ℕ) (input : List ℕ) (n : ℕ) (new old : List ℕ) : Type 0 where
  pub outcome : Result ℕ NoRoom
  pub answered : AnsweredBy P input outcome new old
  pub count : n ≡ printed_bytes outcome
  pub whole : most ≤ length old → AtFrontBy P input n new old

-- what the mapping program prints, with room for the longest list
abbrev pub PrintedInto : List ℕ → ℕ → (new old : List ℕ) → Type 0
PrintedInto = PrintedBy Prints longest

-- what the one for the fewest levels prints, with room for the longest list and a line for each table
abbrev pub FastPrintedInto : List ℕ → ℕ → (new old : List ℕ) → Type 0
FastPrintedInto = PrintedBy FastPrints fast_longest
