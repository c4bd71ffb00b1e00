-- What a program in C is handed of a list that it has read back: the part as a run of numbers, and a refusal as one number.
-- 02, #101, and the level of #103. Definitions only.
use Rattle.std.specs.Prelude.{ℕ, ◌+◌, ◌*◌, cond, List, [], ◌∷◌, ◌++◌, leb, length, drop}
use Rattle.lists.specs.Trusted.Lists.{gather}
use Rattle.lists.specs.Trusted.Checked.{Checked, passed, refused}
use Rattle.table.specs.declared.Table.{Table}
use Rattle.part.specs.Trusted.Parts.{in_use}
use Rattle.part.specs.declared.Part.{Part}

-- ten: the net, u, the six inputs, the truth table, the level
abbrev pub record_numbers : Table → List ℕ
record_numbers r = r.net ∷ r.count ∷ r.inputs ++ r.truth ∷ r.level ∷ []

-- K, the capacity, the used count, and ten for each table in use
abbrev pub part_numbers : Part → List ℕ
part_numbers p = p.k ∷ p.capacity ∷ p.used ∷ gather record_numbers (in_use p)

-- a refusal as one number: 65536 times its number, and the line
abbrev pub refusal_code : ℕ → ℕ → ℕ
refusal_code number line = 65536 * number + line

-- 0 for an accepted list
abbrev pub list_code : Checked Part → ℕ
list_code (passed p) = 0
list_code (refused number line) = refusal_code number line

-- the code, and the buffer's numbers after it
pub record NumbersOutcome : Type 0 where
  pub code : ℕ
  pub numbers : List ℕ

-- WHAT IS HANDED OVER: a part's numbers at the front of the buffer, with the rest as it was; where they do not fit, 14. A refusal leaves
-- the buffer as it was.
abbrev pub numbers_read : Checked Part → List ℕ → NumbersOutcome
numbers_read (passed p) old =
    cond (leb (length (part_numbers p)) (length old))
    (record { code = 0; numbers = part_numbers p ++ drop (length (part_numbers p)) old })
    (record { code = refusal_code 14 0; numbers = old })
numbers_read (refused number line) old = record { code = refusal_code number line; numbers = old }
