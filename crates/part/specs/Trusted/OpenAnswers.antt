-- What the answer of an opening says: 01's number and place for each case. Definitions only.
use Rattle.std.specs.Prelude.{Result as Outcome, Ok, Err}
use Rattle.part.specs.Trusted.Answers.{Answer, accepted, refused, Result}
use Rattle.part.specs.declared.Opened.{Opened}
use Rattle.part.specs.declared.OpenError.{OpenError}
use Rattle.part.specs.declared.OpenError.TheVariants.{KOutOfRange, CapacityOutOfRange}

abbrev pub open_refusal : OpenError → Answer
open_refusal KOutOfRange = refused 2 0
open_refusal CapacityOutOfRange = refused 3 0

-- and for each answer
abbrev pub opening_answer : Outcome (Unit {0}) OpenError → Answer
opening_answer (Ok done) = accepted
opening_answer (Err why) = open_refusal why

-- the part that an opening hands back, and its answer
abbrev pub opening_result : Opened → Result
opening_result r = record { part = r.part; answer = opening_answer r.answer }
