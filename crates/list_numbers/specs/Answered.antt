-- What the part and the answer that a reading hands back say. Internal definitions: the laws are in NumbersLaws.
use Rattle.std.specs.Prelude.{ℕ}
use Rattle.lists.specs.Trusted.Checked.{Checked, passed, refused}
use Rattle.part.specs.Trusted.Answers.{Answer, accepted, refused as turned_away}
use Rattle.part.specs.declared.Part.{Part}
use Rattle.list_numbers.specs.Trusted.Numbers.{refusal_code}

-- the part where the answer is accepted, and else the refusal
abbrev pub came_of : Part → Answer → Checked Part
came_of p accepted = passed p
came_of p (turned_away number line) = refused number line

-- the code of an answer
abbrev pub answer_code : Answer → ℕ
answer_code accepted = 0
answer_code (turned_away number line) = refusal_code number line
