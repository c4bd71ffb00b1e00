-- What a write into a buffer comes to: its result, and the buffer's bytes after it. Definitions only.
use Rattle.std.specs.Prelude.{ℕ, ◌+◌, List, ◌++◌, length, take, drop}
use Rattle.lists.specs.Trusted.Checked.{Checked}

-- the result is how many bytes are written, or 01's number and place of a refusal
pub record WriteOutcome : Type 0 where
  pub result : Checked ℕ
  pub bytes : List ℕ

-- the new bytes stand from the place on, and all others are as they were
abbrev pub pasted : List ℕ → ℕ → List ℕ → List ℕ
pasted old at new = take at old ++ (new ++ drop (at + length new) old)
