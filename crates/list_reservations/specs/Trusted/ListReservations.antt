-- Reserving tables on the text of a list, committing and withdrawing: 02, #109, and #101 for the list. "A list shows no hold", so the
-- reservation stands beside it. Definitions only.
use Rattle.std.specs.Prelude.{ℕ, ◌+◌, ◌*◌, ◌≡◌, List}
use Rattle.lists.specs.Trusted.Checked.{Checked, passed, refused as unread}
use Rattle.part_records.specs.declared.Reservation.{Reservation}
use Rattle.part.specs.Trusted.Parts.{with_reservation}
use Rattle.part.specs.Trusted.Answers.{Answer, accepted, refused}
use Rattle.part.specs.Trusted.Tries.{CallResult}
use Rattle.part.specs.Trusted.Reservations.{Reserve, Commit, withdrawn}
use Rattle.part.specs.declared.Part.{Part}
use Rattle.list_reading.specs.Trusted.ReadList.{read_list}
use Rattle.list_sets.specs.Trusted.ListSets.{set_code, AfterList}

-- a reservation as one number: 2^48 times the number set aside, and the net; 0 for none
abbrev pub reservation_code : Reservation → ℕ
reservation_code r = 281474976710656 * r.count + r.net

-- the code of a call that writes nothing: of its refusal, or of the reservation that the part has then
abbrev pub outcome_code : Answer → Part → ℕ
outcome_code accepted p = reservation_code p.reservation
outcome_code (refused number place) p = set_code 0 number place

-- after the reading: the list's refusal, or a call on its part with the reservation; `Gives p r`: on the part p the call may give r
abbrev pub CodeAfterList : (Gives : Part → CallResult → Type 0) → Checked Part → Reservation → (code : ℕ) → Type 0
CodeAfterList Gives (passed p) reservation code = (r : CallResult) × Gives (with_reservation p reservation) r × (code ≡ outcome_code r.answer r.part)
CodeAfterList Gives (unread number line) reservation code = code ≡ set_code 0 number line

-- THE PROMISE OF RESERVING ON A LIST: the code
abbrev pub ReservedOnList : (list : List ℕ) → Reservation → (text : List ℕ) (code : ℕ) → Type 0
ReservedOnList list reservation text = CodeAfterList (λ p r. Reserve p text r) (read_list list) reservation

-- THE PROMISE OF COMMITTING TO A LIST: the code, and the buffer's bytes after it
abbrev pub CommittedToList : (list : List ℕ) → Reservation → (text old : List ℕ) (code : ℕ) (bytes : List ℕ) → Type 0
CommittedToList list reservation text = AfterList (λ p r. Commit p text r) (read_list list) reservation

-- THE PROMISE OF WITHDRAWING FROM A LIST: the code
abbrev pub WithdrawnFromList : (list : List ℕ) → Reservation → (code : ℕ) → Type 0
WithdrawnFromList list = CodeAfterList (λ p r. r ≡ withdrawn p) (read_list list)
