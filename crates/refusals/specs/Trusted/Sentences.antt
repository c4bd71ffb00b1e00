-- What each refusal's number means, in plain words, and what asking for it does.
-- 01, "Turned down because of the input" and "Turned down because of the part"; 02, #101, for 31 and 32, #106, for 33, #107, for 34, and
-- #109, for 35 and 36. Definitions only.
use Rattle.std.specs.Prelude.{ℕ, cond, List, [], ◌∷◌, ◌++◌, leb, eqb, length, drop}
use Prim.Native.Char.{code}
use Prim.Native.String.{String, [] as none, ◌∷◌ as ◌then◌}

-- a refusal's number and its sentence
infix 70 ◌means◌
pub data Entry : Type 0 where
  ◌means◌ : ℕ → String → Entry

abbrev pub refusals : List Entry
refusals =
    1 means "the line is missing, has no line feed, has a wrong number of fields or a field that is not laid out, or follows the last line" ∷
    2 means "K must be from 2 to 6" ∷
    3 means "the capacity must be from 1 to 800" ∷
    4 means "the output net must be from 1 to 9999, with or without a minus sign" ∷
    5 means "the number of gates must be from 1 to 255" ∷
    6 means "the kind must be 1 (AND) or 2 (OR)" ∷
    7 means "the fanin count must be from 2 to 10" ∷
    8 means "a fanin is neither a net (1 to 9999) nor an earlier gate (10000 plus its number)" ∷
    9 means "a gate is read a second time" ∷
    10 means "a net stands at a second leaf" ∷
    11 means "the sheet's output net is one of its leaves" ∷
    12 means "the sheet has more than 256 leaves" ∷
    13 means "a gate other than the last is never read" ∷
    14 means "the buffer has too little room from the place on" ∷
    15 means "the part has no such line" ∷
    20 means "the part is not sound" ∷
    21 means "the output net is already driven" ∷
    22 means "a table already reads the output net" ∷
    23 means "the sheet needs more tables than the part has left" ∷
    31 means "a line of the list is missing, left over, or not laid out as the list has it" ∷
    32 means "a rule of a sound part is broken at this line of the list, or the used count is above the capacity" ∷
    33 means "a set of no sheets or of more than 16, or its lengths do not add up to its text's" ∷
    34 means "the wanted level must be from 0 to 1024" ∷
    35 means "a reservation is already open" ∷
    36 means "no reservation is open, or it is for another output net" ∷ []

-- the bytes of a text: the codes of its characters, which are all ASCII
abbrev pub bytes_of : String → List ℕ
bytes_of none = []
bytes_of (c then s) = code c ∷ bytes_of s

-- the sentence of a number in a list of entries, empty where it has none
abbrev pub sentence_in : List Entry → ℕ → String
sentence_in [] n = ""
sentence_in ((k means s) ∷ es) n = cond (eqb n k) s (sentence_in es n)

-- THE SENTENCE OF A REFUSAL
abbrev pub refusal_text : ℕ → List ℕ
refusal_text n = bytes_of (sentence_in refusals n)

-- how many bytes were written, and the buffer after that
pub record FrontWrite : Type 0 where
  pub count : ℕ
  pub bytes : List ℕ

-- a text at the front of a buffer; a buffer that is too short is as it was
abbrev pub front_write : List ℕ → List ℕ → FrontWrite
front_write text old =
    cond (leb (length text) (length old))
    (record { count = length text; bytes = text ++ drop (length text) old })
    (record { count = 0; bytes = old })
