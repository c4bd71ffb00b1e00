-- What the answer of an add says, and of a reservation, a commit and a withdrawal: 01's and 02's number and place for each case.
-- Definitions only.
use Rattle.std.specs.Prelude.{List, Result, Ok, Err}
use Rattle.sheet.specs.Trusted.Answers.{number_of}
use Rattle.part.specs.Trusted.Answers.{Answer, accepted, refused}
use Rattle.part.specs.Trusted.Tries.{Try, CallResult}
use Rattle.part.specs.declared.Part.{Part}
use Rattle.part.specs.declared.AddError.{AddError}
use Rattle.part.specs.declared.AddError.TheVariants.{Unsound, Misread, OutputDriven, OutputRead, Full, AlreadyReserved, NotReserved}

-- 01's number and place for each refusal
abbrev pub add_refusal : AddError → Answer
add_refusal Unsound = refused 20 0
add_refusal (Misread error) = refused (number_of error.why) error.line
add_refusal OutputDriven = refused 21 0
add_refusal OutputRead = refused 22 0
add_refusal Full = refused 23 0
add_refusal AlreadyReserved = refused 35 0
add_refusal NotReserved = refused 36 0

-- and for each answer
abbrev pub adding_answer : Result (Unit {0}) AddError → Answer
adding_answer (Ok done) = accepted
adding_answer (Err why) = add_refusal why

-- what such a call leaves of the part and answers, with the sheets that were tried
abbrev pub adding_result : Part → Result (Unit {0}) AddError → List Try → CallResult
adding_result p r ts = record { part = p; answer = adding_answer r; position = 0; tries = ts }
