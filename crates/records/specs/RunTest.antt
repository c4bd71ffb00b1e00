-- What the answer to the test of a run of records says.
use Rattle.std.specs.Prelude.{Result, Ok, Err}
use Rattle.table.specs.Trusted.RecordTest.{Verdict, none, bad, refused}
use Rattle.records.specs.declared.RunError.{RunError}
use Rattle.records.specs.declared.RunError.TheVariants.{KOutOfRange, CapacityOutOfRange, BadRecord}

-- with 01's numbers
abbrev pub verdict_of : Result Unit RunError → Verdict
verdict_of (Ok u) = none
verdict_of (Err (BadRecord n)) = bad n
verdict_of (Err KOutOfRange) = refused 2
verdict_of (Err CapacityOutOfRange) = refused 3
