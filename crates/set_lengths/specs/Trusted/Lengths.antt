-- A set of sheets as one text with the byte length of each sheet in it: 02, #106. Definitions only: the laws are in LengthLaws.
use Rattle.std.specs.Prelude.{ℕ, ◌≤◌, ◌≡◌, Bool, ◌&&◌, List, [], ◌∷◌, eqb, length, take, drop}
use Rattle.lists.specs.Trusted.Lists.{sum}
use Rattle.lists.specs.Trusted.Tests.{within}

-- "up to 16 sheets"
abbrev pub most_sheets : ℕ
most_sheets = 16

-- 33 is "no sheets, more than 16, or lengths that do not add up to the text's", which has `size` bytes
pub record Whole (lengths : List ℕ) (size : ℕ) : Type 0 where
  pub some : 1 ≤ length lengths
  pub few : length lengths ≤ most_sheets
  pub add_up : sum (λ n. n) lengths ≡ size

-- as a test that computes
abbrev pub is_whole : (lengths : List ℕ) (size : ℕ) → Bool
is_whole lengths size = within 1 most_sheets (length lengths) && eqb (sum (λ n. n) lengths) size

-- the texts of the sheets
abbrev pub cut : (lengths text : List ℕ) → List (List ℕ)
cut [] text = []
cut (n ∷ ns) text = take n text ∷ cut ns (drop n text)
