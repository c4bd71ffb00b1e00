-- Adding a set of sheets, all or none: 02, #106, in its order. Definitions only.
use Rattle.std.specs.Prelude.{ℕ, suc, ◌≡◌, List, [], ◌∷◌, length}
use Rattle.lists.specs.Trusted.Tests.{either}
use Rattle.set_lengths.specs.Trusted.Lengths.{is_whole, cut}
use Rattle.part.specs.Trusted.Ways.{least}
use Rattle.part.specs.Trusted.SoundTest.{sound}
use Rattle.part.specs.Trusted.Answers.{Answer, accepted, refused}
use Rattle.part.specs.Trusted.Add.{Add}
use Rattle.part.specs.Trusted.Tries.{adding, Try, CallResult}
use Rattle.part.specs.declared.Part.{Part}

-- a sheet of a set
abbrev pub member : List ℕ → Part → Part → Answer → Try
member text p q a = record { purpose = adding; way = least; text = text; before = p; after = q; answer = a }

-- "The rule for one sheet is applied to each in turn, as if those before it had been added. If one is refused, the refusal number, its place
-- and the sheet's position in the set (from 1) come back with the part unaltered." The set was given the part o; of the sheets from
-- position i on, with these texts, the first stands on the part p.
pub data InTurn (o : Part) : ℕ → List (List ℕ) → Part → CallResult → Type 0 where
  all : {i : ℕ} {p : Part} → InTurn o i [] p (record { part = p; answer = accepted; position = 0; tries = [] })
  next : {i : ℕ} {text : List ℕ} {texts : List (List ℕ)} {p q : Part} {r : CallResult} → Add least p text q accepted → InTurn o (suc i) texts q r →
      InTurn o i (text ∷ texts) p (record { part = r.part; answer = r.answer; position = r.position; tries = member text p q accepted ∷ r.tries })
  stop : {i : ℕ} {text : List ℕ} {texts : List (List ℕ)} {p q : Part} {number place : ℕ} → Add least p text q (refused number place) →
      InTurn o i (text ∷ texts) p (record { part = o; answer = refused number place; position = i; tries = member text p q (refused number place) ∷ [] })

-- turned down before any sheet: "20 and 33 have position and place 0"
abbrev pub turned_away : Part → ℕ → CallResult
turned_away p number = record { part = p; answer = refused number 0; position = 0; tries = [] }

-- THE PROMISE OF ADDING A SET to the part p: "33 .. after 20 and before any sheet"
unfoldable pub AddSet : Part → (lengths text : List ℕ) → CallResult → Type 0
AddSet p lengths text r =
    either (sound p) (either (is_whole lengths (length text)) (InTurn p 1 (cut lengths text) p r) (r ≡ turned_away p 33)) (r ≡ turned_away p 20)
