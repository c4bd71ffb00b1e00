-- What the functions promise. Internal definitions: the laws are in ProgramLaws, AnsweredLaws and RoomLaws.
use Rattle.std.specs.Prelude.{ℕ, ◌≤◌, ◌≡◌, List, length, take, drop, Result}
use Rattle.printing.specs.Promises.{WrittenAs}
use Rattle.printing.specs.declared.NoRoom.{NoRoom}
use Rattle.program.specs.Trusted.Program.{Prints}

-- THE PROMISE of a program, where `P` says what is printed for an input
pub record AnsweredBy (P : List ℕ → List ℕ → Type 0) (input : List ℕ) (r : Result ℕ NoRoom) (new old : List ℕ) : Type 0 where
  pub line : List ℕ
  pub prints : P input line
  pub written : WrittenAs line r new old

-- THE SAME with room for all that can be printed: it stands in the first n bytes of the buffer, and the others are as they were
pub record AtFrontBy (P : List ℕ → List ℕ → Type 0) (input : List ℕ) (n : ℕ) (new old : List ℕ) : Type 0 where
  pub prints : P input (take n new)
  pub within : n ≤ length new
  pub rest : drop n new ≡ drop n old

-- those of the mapping program
abbrev pub Answered : List ℕ → Result ℕ NoRoom → List ℕ → List ℕ → Type 0
Answered = AnsweredBy Prints

abbrev pub AtFront : List ℕ → ℕ → List ℕ → List ℕ → Type 0
AtFront = AtFrontBy Prints
