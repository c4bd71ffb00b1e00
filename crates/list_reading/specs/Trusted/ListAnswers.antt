-- What the answer of a reading says: 02's number and place for each case. Definitions only.
use Rattle.part.specs.Trusted.Answers.{Answer, accepted, refused, Result}
use Rattle.list_reading.specs.declared.ListAnswer.{ListAnswer}
use Rattle.list_reading.specs.declared.ListAnswer.TheVariants.{Accepted, KOutOfRange, CapacityOutOfRange, NotLaidOut, RuleBroken}
use Rattle.list_reading.specs.declared.ListRead.{ListRead}

abbrev pub list_answer : ListAnswer → Answer
list_answer Accepted = accepted
list_answer KOutOfRange = refused 2 0
list_answer CapacityOutOfRange = refused 3 0
list_answer (NotLaidOut line) = refused 31 line
list_answer (RuleBroken line) = refused 32 line

-- the part and the answer that a reading hands back
abbrev pub list_result : ListRead → Result
list_result r = record { part = r.part; answer = list_answer r.answer }
