-- What a mapping program prints, as a list of adds, as Runs in program_laws has it of `map`, and what of it the rules settle. The way of the adds and what
-- is printed of the last part are parameters, as those of SheetsPrint in sheets.
-- Definitions only: the laws are in RunsByLaws.
use Rattle.std.specs.Prelude.{ℕ, ◌<◌, ◌≡◌, List, [], ◌∷◌, length, take}
use Rattle.std.proofs.Math.Option.{none, some}
use Rattle.sheet.specs.Trusted.Cut.{sheet_text}
use Rattle.part.specs.Trusted.Ways.{Way}
use Rattle.part.specs.Trusted.Answers.{accepted, refused}
use Rattle.part.specs.Trusted.Tries.{CallResult}
use Rattle.part.specs.Trusted.Add.{opened}
use Rattle.demands.specs.Trusted.Calls.{Call, add, Chain, final}
use Rattle.demands.specs.Trusted.Demands.{Demand2, Demand3}
use Rattle.part.specs.declared.Part.{Part}
use Rattle.printing.specs.Trusted.RefusalLine.{refusal_line}
use Rattle.program_laws.specs.Trusted.Runs.{answers, used_counts, first_refusal}

-- THE CALLS OF A TEXT, with their results: each adds the next sheet in the way w, up to the text's end or to the first that is refused
pub data TextsBy (w : Way) : List ℕ → List Call → List CallResult → Type 0 where
  end : TextsBy w [] [] []
  stop : {text : List ℕ} {r : CallResult} (number place : ℕ) → 0 < length text → r.answer ≡ refused number place →
      TextsBy w text (add w (sheet_text text).0 ∷ []) (r ∷ [])
  next : {text : List ℕ} {cs : List Call} {r : CallResult} {rs : List CallResult} → 0 < length text → r.answer ≡ accepted → TextsBy w (sheet_text text).1 cs rs →
      TextsBy w text (add w (sheet_text text).0 ∷ cs) (r ∷ rs)

-- what is printed after the part p and these results: the first refusal, else what `shown` has for the last part
abbrev pub shown_by : (shown : Part → List ℕ) → Part → ℕ → List CallResult → List ℕ
shown_by shown p n rs = elim (first_refusal n (answers rs)) [ none ↦ shown (final p rs) | some x ↦ refusal_line x.0 x.1 x.2 ]

-- A PROGRAM AND THE DEMANDS, after a good opening line: the calls are all the text's, demands 2 and 3 hold of them, and what is printed
-- is told by their results
pub record RunBy (w : Way) (shown : Part → List ℕ) (k capacity : ℕ) (text out : List ℕ) : Type 0 where
  pub calls : List Call
  pub results : List CallResult
  pub chain : Chain (opened k capacity).part calls results
  pub texts : TextsBy w text calls results
  pub printed : out ≡ shown_by shown (opened k capacity).part 0 results
  pub counted : Demand3 (opened k capacity).part calls results
  pub served : Demand2 k capacity calls results

-- two outputs for a text that are no refusals: the opening is accepted and so are the calls, which are the same; as many tables are in use after
-- each; and line 0 is the same
pub record ListsBy (w : Way) (shown : Part → List ℕ) (k capacity : ℕ) (text a b : List ℕ) : Type 0 where
  pub good : (opened k capacity).answer ≡ accepted
  pub one : RunBy w shown k capacity text a
  pub two : RunBy w shown k capacity text b
  pub calls : one.calls ≡ two.calls
  pub all_accepted : (first_refusal 0 (answers one.results) ≡ none) × (first_refusal 0 (answers two.results) ≡ none)
  pub used : used_counts one.results ≡ used_counts two.results
  pub list_one : a ≡ shown (final (opened k capacity).part one.results)
  pub list_two : b ≡ shown (final (opened k capacity).part two.results)
  pub top : take 19 a ≡ take 19 b

-- of two outputs: both are the line of one refusal, or both are lists, of which L tells
pub data RefusalOr (L : Type 0) (a b : List ℕ) : Type 0 where
  refusal : (number sheet place : ℕ) → a ≡ refusal_line number sheet place → b ≡ refusal_line number sheet place → RefusalOr L a b
  lists : L → RefusalOr L a b
