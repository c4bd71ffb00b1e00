-- What the code's values stand for. Internal definitions: the laws are in ListSetLaws.
use Rattle.std.specs.Prelude.{ℕ, ◌≡◌, ◌≢◌, List, Result, Ok, Err}
use Rattle.lists.specs.Trusted.Checked.{Checked, passed, refused as unread}
use Rattle.part_records.specs.declared.Reservation.{Reservation}
use Rattle.part.specs.Trusted.Parts.{with_reservation}
use Rattle.part.specs.Trusted.Answers.{Answer, accepted, refused}
use Rattle.part.specs.declared.Part.{Part}
use Rattle.listing.specs.Trusted.Listing.{list_of}
use Rattle.list_sets.specs.Trusted.ListSets.{set_code, PutInFront}

-- a reading's part with the reservation, and 0; or the code of its refusal
abbrev pub ReadBeside : Checked Part → Reservation → Part → (code : ℕ) → Type 0
ReadBeside (passed p) reservation q code = (q ≡ with_reservation p reservation) × (code ≡ 0)
ReadBeside (unread number line) reservation q code = (code ≡ set_code 0 number line) × (code ≢ 0)

-- an answer, with the sheet's position in the set
abbrev pub told_of : (position : ℕ) → Answer → Result (Unit {0}) ℕ
told_of position accepted = Ok tt
told_of position (refused number place) = Err (set_code position number place)

-- where the call is accepted its part's list is put in front, else the buffer is as it was
abbrev pub PutOutcome : Result (Unit {0}) ℕ → Part → (old : List ℕ) (code : ℕ) (bytes : List ℕ) → Type 0
PutOutcome (Ok done) p old code bytes = PutInFront (list_of p) old code bytes
PutOutcome (Err refusal) p old code bytes = (code ≡ refusal) × (bytes ≡ old)
