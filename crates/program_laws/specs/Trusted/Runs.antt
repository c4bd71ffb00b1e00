-- What the program prints, as a list of adds, of which demands 2 and 3 speak; and what of it the rules settle.
-- Definitions only: the laws are in ChainLaws and DeterminedLaws.
use Rattle.std.specs.Prelude.{ℕ, suc, ◌<◌, ◌≡◌, List, [], ◌∷◌, map, length, take, drop}
use Rattle.std.proofs.Math.Option.{Option, none, some}
use Rattle.decimal.specs.Trusted.Number.{Number}
use Rattle.sheet.specs.Trusted.Cut.{sheet_text}
use Rattle.part.specs.Trusted.Ways.{least}
use Rattle.part.specs.Trusted.Answers.{Answer, accepted, refused}
use Rattle.part.specs.Trusted.Tries.{CallResult}
use Rattle.part.specs.Trusted.Add.{opened}
use Rattle.demands.specs.Trusted.Calls.{Call, add, final, Chain}
use Rattle.demands.specs.Trusted.Demands.{Demand2, Demand3}
use Rattle.listing.specs.Trusted.Listing.{list_of}
use Rattle.part.specs.declared.Part.{Part}
use Rattle.opening.specs.Trusted.Opening.{opening_numbers, count}
use Rattle.printing.specs.Trusted.RefusalLine.{refusal_line}

-- THE CALLS OF A TEXT, with their results: each adds the next sheet, up to the text's end or to the first that is refused
pub data Texts : List ℕ → List Call → List CallResult → Type 0 where
  end : Texts [] [] []
  stop : {text : List ℕ} {r : CallResult} (number place : ℕ) → 0 < length text → r.answer ≡ refused number place →
      Texts text (add least (sheet_text text).0 ∷ []) (r ∷ [])
  next : {text : List ℕ} {cs : List Call} {r : CallResult} {rs : List CallResult} → 0 < length text → r.answer ≡ accepted → Texts (sheet_text text).1 cs rs →
      Texts text (add least (sheet_text text).0 ∷ cs) (r ∷ rs)

abbrev pub answers : List CallResult → List Answer
answers = map (λ r. r.answer)

-- the first refusal among the answers, where `n` sheets were added before: its number, the sheet's number and the place
abbrev pub first_refusal : ℕ → List Answer → Option (ℕ × ℕ × ℕ)
first_refusal n [] = none
first_refusal n (accepted ∷ later) = first_refusal (suc n) later
first_refusal n (refused number place ∷ later) = some (number, suc n, place)

-- what is printed after the part p and these results: the first refusal, else the list of the last part
abbrev pub printed_by : Part → ℕ → List CallResult → List ℕ
printed_by p n rs = elim (first_refusal n (answers rs)) [ none ↦ list_of (final p rs) | some x ↦ refusal_line x.0 x.1 x.2 ]

-- THE PROGRAM AND THE DEMANDS, after a good opening line: the calls are all the text's, demands 2 and 3 hold of them, and what is printed
-- is told by their results
pub record Run (k capacity : ℕ) (text out : List ℕ) : Type 0 where
  pub calls : List Call
  pub results : List CallResult
  pub chain : Chain (opened k capacity).part calls results
  pub texts : Texts text calls results
  pub printed : out ≡ printed_by (opened k capacity).part 0 results
  pub counted : Demand3 (opened k capacity).part calls results
  pub served : Demand2 k capacity calls results

-- ---- what of it the rules settle

abbrev pub used_counts : List CallResult → List ℕ
used_counts = map (λ r. r.part.used)

-- two lists that were printed for a text: the opening is accepted and so are the calls, which are the same; as many tables are in use after
-- each; and line 0 is the same
pub record Lists (k capacity : ℕ) (text a b : List ℕ) : Type 0 where
  pub good : (opened k capacity).answer ≡ accepted
  pub one : Run k capacity text a
  pub two : Run k capacity text b
  pub calls : one.calls ≡ two.calls
  pub all_accepted : (first_refusal 0 (answers one.results) ≡ none) × (first_refusal 0 (answers two.results) ≡ none)
  pub used : used_counts one.results ≡ used_counts two.results
  pub list_one : a ≡ list_of (final (opened k capacity).part one.results)
  pub list_two : b ≡ list_of (final (opened k capacity).part two.results)
  pub top : take 19 a ≡ take 19 b

-- WHAT THE RULES SETTLE of two outputs for one input: a refusal's line wholly; of a list K, the capacity, the used count and the number of
-- tables for each sheet
pub data Determined (input a b : List ℕ) : Type 0 where
  refusal : (number sheet place : ℕ) → a ≡ refusal_line number sheet place → b ≡ refusal_line number sheet place → Determined input a b
  lists : (x y : Number) → opening_numbers input ≡ some (x, y) → Lists (count x) (count y) (drop 13 input) a b → Determined input a b
