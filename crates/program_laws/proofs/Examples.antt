-- Worked examples of the definitions, by computation: the opening line, how an input is cut into sheets and calls, and the line of a refusal.
use Rattle.std.specs.Prelude.{ℕ, ◌≡◌, refl, false, List, [], ◌∷◌, ◌++◌, map}
use Rattle.std.proofs.Common.{arith}
use Rattle.std.proofs.Math.Option.{none, some}
use Rattle.lists.specs.Trusted.Checked.{◌>>=◌, require, given}
use Rattle.sheet.specs.Checks.{bytes}
use Rattle.sheet.specs.Trusted.Cut.{sheet_text}
use Rattle.part.specs.Trusted.Answers.{accepted, refused}
use Rattle.part.specs.Trusted.Ways.{least}
use Rattle.demands.specs.Trusted.Calls.{add, one_sheet}
use Rattle.part.specs.declared.Part.{Part}
use Rattle.opening.specs.Trusted.Opening.{opening_numbers, opened_by}
use Rattle.printing.specs.Trusted.RefusalLine.{refusal_line}
use Rattle.program_laws.specs.Trusted.Runs.{first_refusal, Texts, end, stop, next}

-- 01's example
abbrev first_text : List ℕ
first_text = bytes "    20     3\n     2     2     1     2\n     2     2     3     4\n     1     2 10001 10002\n"

abbrev second_text : List ℕ
second_text = bytes "   -21     1\n     1     2    20    -5\n"

opening_read : opening_numbers (bytes "     4     8\n" ++ first_text) ≡ some (record { negative = false; magnitude = 4 }, record { negative = false; magnitude = 8 })
opening_read = refl

sheets_cut : sheet_text (first_text ++ second_text) ≡ (first_text, second_text)
unfolding ◌>>=◌ require given
sheets_cut = refl

-- one field, three fields, an unended line, nothing, a short field, a line feed inside; K 1 and 7, capacity 0 and 801, both, with a minus sign
openings_refused :
    map (λ (input : List ℕ). (opened_by (opening_numbers input)).answer) (
    bytes "     4\n" ∷ bytes "     4     8     1\n" ∷ bytes "     4     8" ∷ [] ∷ bytes "     4    8\n" ∷ bytes "     4\n    8\n" ∷
    bytes "     1     8\n" ∷ bytes "     7     8\n" ∷ bytes "     4     0\n" ∷ bytes "     4   801\n" ∷ bytes "     1     0\n" ∷
    bytes "    -4     8\n" ∷ bytes "     4    -8\n" ∷ bytes "     4     8\n" ∷ [])
    ≡ refused 1 0 ∷ refused 1 0 ∷ refused 1 0 ∷ refused 1 0 ∷ refused 1 0 ∷ refused 1 0 ∷
    refused 2 0 ∷ refused 2 0 ∷ refused 3 0 ∷ refused 3 0 ∷ refused 2 0 ∷ refused 2 0 ∷ refused 3 0 ∷ accepted ∷ []
openings_refused = refl

refusals_printed :
    map (λ (r : ℕ × ℕ × ℕ). refusal_line r.0 r.1 r.2) ((1, 0, 0) ∷ (23, 801, 0) ∷ (6, 2, 256) ∷ [])
    ≡ bytes "    -1     0     0\n" ∷ bytes "   -23   801     0\n" ∷ bytes "    -6     2   256\n" ∷ []
refusals_printed = refl

refusals_first :
    map (first_refusal 0) ([] ∷ (accepted ∷ accepted ∷ []) ∷ (accepted ∷ refused 23 0 ∷ refused 6 2 ∷ []) ∷ (refused 6 2 ∷ accepted ∷ []) ∷ [])
    ≡ none ∷ none ∷ some (23, 2, 0) ∷ some (6, 1, 2) ∷ []
refusals_first = refl

-- the calls of a text of two sheets: both, or the first alone where that is refused
two_calls : (o p q : Part) → Texts (first_text ++ second_text) (add least first_text ∷ add least second_text ∷ [])
    (one_sheet least first_text o p accepted ∷ one_sheet least second_text p q accepted ∷ [])
unfolding ◌>>=◌ require given
two_calls o p q = next {text = first_text ++ second_text} (omega arith) refl (next {text = second_text} (omega arith) refl end)

one_call : (o p : Part) → Texts (first_text ++ second_text) (add least first_text ∷ []) (one_sheet least first_text o p (refused 23 0) ∷ [])
unfolding ◌>>=◌ require given
one_call o p = stop {text = first_text ++ second_text} 23 0 (omega arith) refl
