-- What a call gives, with the sheets that it tried. Definitions only.
use Rattle.std.specs.Prelude.{ℕ, List}
use Rattle.part.specs.Trusted.Ways.{Way}
use Rattle.part.specs.Trusted.Answers.{Answer}
use Rattle.part.specs.declared.Part.{Part}

-- what a sheet is looked at for
pub data Purpose : Type 0 where
  -- its tables are added
  adding : Purpose
  -- its number is set aside (02, #109)
  reserving : Purpose

-- one sheet in a call: what for, the way in which its tables are chosen, its text, the part that it stands on, which is the call's own or that with
-- those ahead of it added, or for a commit with the reservation closed, and what comes of it
pub record Try : Type 0 where
  pub purpose : Purpose
  pub way : Way
  pub text : List ℕ
  pub before : Part
  pub after : Part
  pub answer : Answer

-- what a call gives: the part that it hands back, the answer, the position of the refused sheet in its set, from 1, or 0, and the sheets
-- that were tried. These and the parts between them exist in the statement alone: a function of the code promises some tries.
pub record CallResult : Type 0 where
  pub part : Part
  pub answer : Answer
  pub position : ℕ
  pub tries : List Try
