-- What the answer of adding a set says: 02's number and place, and the sheet's position, for each case. Definitions only.
use Rattle.std.specs.Prelude.{ℕ, ◌≤◌, List, Result, Ok, Err}
use Rattle.part.specs.Trusted.Answers.{Answer, accepted, refused}
use Rattle.part.specs.Trusted.AddAnswers.{add_refusal}
use Rattle.part.specs.Trusted.Tries.{Try, CallResult}
use Rattle.part.specs.declared.Part.{Part}
use Rattle.part.specs.declared.SetError.{SetError}
use Rattle.part.specs.declared.SetError.TheVariants.{Unsound, LengthsUnfit, SheetRefused}

-- the number and the place for each refusal
abbrev pub set_refusal : SetError → Answer
set_refusal Unsound = refused 20 0
set_refusal LengthsUnfit = refused 33 0
set_refusal (SheetRefused why position) = add_refusal why

-- and for each answer
abbrev pub set_answer : Result (Unit {0}) SetError → Answer
set_answer (Ok done) = accepted
set_answer (Err why) = set_refusal why

-- the position of the refused sheet, or 0
abbrev pub refused_position : SetError → ℕ
refused_position Unsound = 0
refused_position LengthsUnfit = 0
refused_position (SheetRefused why position) = position

abbrev pub set_position : Result (Unit {0}) SetError → ℕ
set_position (Ok done) = 0
set_position (Err why) = refused_position why

-- a refused sheet has a position, so that no other answer is told as its
abbrev pub HasPosition : SetError → Type 0
HasPosition Unsound = Unit {0}
HasPosition LengthsUnfit = Unit {0}
HasPosition (SheetRefused why position) = 1 ≤ position

abbrev pub Positioned : Result (Unit {0}) SetError → Type 0
Positioned (Ok done) = Unit {0}
Positioned (Err why) = HasPosition why

-- what adding a set leaves of the part and answers, with the sheets that were tried
abbrev pub set_result : Part → Result (Unit {0}) SetError → List Try → CallResult
set_result p r ts = record { part = p; answer = set_answer r; position = set_position r; tries = ts }
