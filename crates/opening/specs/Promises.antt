-- What the code's values stand for: an answer as a number and a line, and the part that an opening line gives. Internal definitions.
use Rattle.std.specs.Prelude.{cond, eqb}
use Rattle.part.specs.Trusted.Answers.{Answer, accepted, refused, Result}
use Rattle.opening.specs.declared.Told.{Told}
use Rattle.opening.specs.declared.Start.{Start}

-- the number 0 stands for acceptance
abbrev pub told : Told → Answer
told t = cond (eqb t.number 0) accepted (refused t.number t.line)

abbrev pub start_result : Start → Result
start_result s = record { part = s.part; answer = told s.told }
