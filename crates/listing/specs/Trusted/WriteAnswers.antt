-- What the answer of a write says: 01's number and place for each case. Definitions only.
use Rattle.std.specs.Prelude.{ℕ, Result, Ok, Err}
use Rattle.lists.specs.Trusted.Checked.{Checked, passed, refused}
use Rattle.listing.specs.declared.WriteError.{WriteError}
use Rattle.listing.specs.declared.WriteError.TheVariants.{NotSound, NoLine, NoRoom}

-- 01's number for each refusal
abbrev pub result_of : Result ℕ WriteError → Checked ℕ
result_of (Ok count) = passed count
result_of (Err NotSound) = refused 20 0
result_of (Err NoLine) = refused 15 0
result_of (Err NoRoom) = refused 14 0
