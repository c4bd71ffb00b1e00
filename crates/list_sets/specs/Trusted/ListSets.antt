-- A set of sheets added to the text of a list: the list is read, the set is added to its part, and the new part's list is written. 02, #101
-- and #106, and 01's 14 for the buffer; "A list shows no hold" (#109), so the reservation stands beside it. Definitions only.
use Rattle.std.specs.Prelude.{ℕ, ◌+◌, ◌*◌, ◌≡◌, List, leb, length}
use Rattle.lists.specs.Trusted.Checked.{Checked, passed, refused as unread}
use Rattle.lists.specs.Trusted.Tests.{either}
use Rattle.part_records.specs.declared.Reservation.{Reservation}
use Rattle.part.specs.Trusted.Parts.{with_reservation}
use Rattle.part.specs.Trusted.Answers.{accepted, refused}
use Rattle.part.specs.Trusted.Tries.{CallResult}
use Rattle.part.specs.Trusted.Sets.{AddSet}
use Rattle.part.specs.declared.Part.{Part}
use Rattle.list_line.specs.Trusted.Writes.{pasted}
use Rattle.listing.specs.Trusted.Listing.{list_of}
use Rattle.list_reading.specs.Trusted.ReadList.{read_list}
use Rattle.list_numbers.specs.Trusted.Numbers.{refusal_code}

-- a refusal as one number: 2^32 times the sheet's position in the set, or 0, then 65536 times its number, and the place
abbrev pub set_code : (position number place : ℕ) → ℕ
set_code position number place = 4294967296 * position + refusal_code number place

-- refused: the buffer is as it was
abbrev pub Unwritten : (position number place : ℕ) (old : List ℕ) (code : ℕ) (bytes : List ℕ) → Type 0
Unwritten position number place old code bytes = (code ≡ set_code position number place) × (bytes ≡ old)

-- the list stands at the front of the buffer, and the code is its count of bytes; 14 where it does not fit
abbrev pub PutInFront : (list old : List ℕ) (code : ℕ) (bytes : List ℕ) → Type 0
PutInFront list old code bytes =
    either (leb (length list) (length old)) ((code ≡ length list) × (bytes ≡ pasted old 0 list)) (Unwritten 0 14 0 old code bytes)

-- after a call that adds sheets: its refusal, or the new part's list
abbrev pub AfterCall : CallResult → (old : List ℕ) (code : ℕ) (bytes : List ℕ) → Type 0
AfterCall r old code bytes =
    elim r.answer [ accepted ↦ PutInFront (list_of r.part) old code bytes | refused number place ↦ Unwritten r.position number place old code bytes ]

-- after the reading: the list's refusal, or a call on its part with the reservation; `Gives p r`: on the part p the call may give r
abbrev pub AfterList : (Gives : Part → CallResult → Type 0) → Checked Part → Reservation → (old : List ℕ) (code : ℕ) (bytes : List ℕ) → Type 0
AfterList Gives (passed p) reservation old code bytes = (r : CallResult) × Gives (with_reservation p reservation) r × AfterCall r old code bytes
AfterList Gives (unread number line) reservation old code bytes = Unwritten 0 number line old code bytes

-- THE PROMISE OF ADDING A SET TO A LIST: the code, and the buffer's bytes after it
abbrev pub AddedToList : (list : List ℕ) → Reservation → (lengths text old : List ℕ) (code : ℕ) (bytes : List ℕ) → Type 0
AddedToList list reservation lengths text = AfterList (λ p r. AddSet p lengths text r) (read_list list) reservation
