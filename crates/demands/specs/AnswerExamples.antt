-- Answers of adds, computed: a text for each condition of the part, in its order after the sheet's own.
use Rattle.std.specs.Prelude.{ℕ, ◌≡◌, refl, List, [], ◌∷◌, map}
use Prim.Native.String.{String}
use Rattle.lists.specs.Trusted.Checked.{◌>>=◌, require, given}
use Rattle.plan.specs.Key.{pack}
use Rattle.plan.specs.Subsets.{least_of}
use Rattle.sheet.specs.Checks.{bytes}
use Rattle.part_records.specs.Trusted.Reservations.{unreserved}
use Rattle.part.specs.Trusted.Parts.{blanks}
use Rattle.part.specs.Trusted.SoundTest.{sound}
use Rattle.part.specs.Trusted.Answers.{Answer, accepted, refused}
use Rattle.demands.specs.Determined.{least_number, answer_of}
use Rattle.part.specs.Trusted.Reading.{read_of}
use Rattle.part.specs.Trusted.Ways.{least}
use Rattle.list_reading.specs.PartExamples.{part}
use Rattle.part.specs.declared.Part.{Part}

-- the part of 01's list, which drives 20 and 21 and reads 1 to 5 and 20, with another capacity and used count
abbrev with : (capacity used : ℕ) → Part
with capacity used = record { k = part.k; capacity = capacity; used = used; reservation = unreserved; tables = part.tables }

abbrev Case : Type 0
Case = Part × String × Answer

abbrev cases : List Case
cases =
    (with 8 1, "", refused 20 0)
    ∷ (with 8 2, "", refused 1 1)
    ∷ (with 8 2, "    22     1\n     1     2     6    22\n", refused 11 2)
    ∷ (with 2 2, "    20     1\n     1     2     6     7\n", refused 21 0)
    ∷ (with 2 2, "    -5     1\n     1     2     6     7\n", refused 22 0)
    ∷ (with 2 2, "    22     1\n     1     2     6     7\n", refused 23 0)
    ∷ (with 3 2, "    22     1\n     1     2     6     7\n", accepted)
    ∷ []

answers_right : map (λ (c : Case). answer_of least c.0 (read_of (bytes c.1))) cases ≡ map (λ (c : Case). c.2) cases
unfolding read_of sound blanks least_number pack least_of ◌>>=◌ require given
answers_right = refl
