-- What a call answers, in 01's numbers, and what it hands back; and a part of no tables. Definitions only.
use Rattle.std.specs.Prelude.{ℕ}
use Rattle.part_records.specs.Trusted.Reservations.{unreserved}
use Rattle.part.specs.Trusted.Parts.{blanks}
use Rattle.part.specs.declared.Part.{Part}

pub data Answer : Type 0 where
  accepted : Answer
  refused : (number place : ℕ) → Answer

-- what a call hands back
pub record Result : Type 0 where
  pub part : Part
  pub answer : Answer

-- a part of no tables, with nothing reserved
abbrev pub empty : ℕ → ℕ → Part
empty k capacity = record { k = k; capacity = capacity; used = 0; reservation = unreserved; tables = blanks }
