-- What the functions promise. Internal definitions: the laws are in FastProgramLaws and FastRoomLaws.
use Rattle.std.specs.Prelude.{ℕ, List, Result}
use Rattle.printing.specs.declared.NoRoom.{NoRoom}
use Rattle.program.specs.Promises.{AnsweredBy, AtFrontBy}
use Rattle.fast_program.specs.Trusted.FastProgram.{FastPrints}

-- THE PROMISE of the program
abbrev pub FastAnswered : List ℕ → Result ℕ NoRoom → List ℕ → List ℕ → Type 0
FastAnswered = AnsweredBy FastPrints

-- THE SAME with room for all that can be printed
abbrev pub FastAtFront : List ℕ → ℕ → List ℕ → List ℕ → Type 0
FastAtFront = AtFrontBy FastPrints
