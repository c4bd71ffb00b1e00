-- The codes, computed: of a list whose line 2 breaks a rule, of a set whose lengths do not add up, of a third sheet that is refused with 8 at
-- its line 4, and of a buffer that is too short; a list in front of a buffer, and one that is too long for it; and what comes of a text that is
-- no list, of a set of no sheets, and of the same beside nine tables set aside of eight.
use Rattle.std.specs.Prelude.{◌≡◌, refl, [], ◌∷◌}
use Rattle.std.proofs.Math.Option.{bind}
use Rattle.lists.specs.Trusted.Checked.{◌>>=◌, require, given}
use Rattle.sheet.specs.Checks.{bytes}
use Rattle.part_records.specs.Trusted.Reservations.{unreserved}
use Rattle.part.specs.Trusted.Parts.{blanks}
use Rattle.part.specs.Trusted.SoundTest.{sound}
use Rattle.part.specs.Trusted.Sets.{AddSet}
use Rattle.list_reading.specs.Trusted.ReadList.{read_list}
use Rattle.list_sets.specs.Trusted.ListSets.{set_code, PutInFront, AddedToList}

codes : (set_code 0 32 2 ≡ 2097154) × (set_code 0 33 0 ≡ 2162688) × (set_code 3 8 4 ≡ 12885426180) × (set_code 0 14 0 ≡ 917504)
codes = (refl, refl, refl, refl)

in_front : PutInFront (1 ∷ 2 ∷ []) (7 ∷ 8 ∷ 9 ∷ []) 2 (1 ∷ 2 ∷ 9 ∷ []) × PutInFront (1 ∷ 2 ∷ []) (7 ∷ []) 917504 (7 ∷ [])
in_front = ((refl, refl), (refl, refl))

no_list : AddedToList [] unreserved (1 ∷ []) (10 ∷ []) (7 ∷ []) 2031616 (7 ∷ [])
unfolding read_list bind ◌>>=◌ given
no_list = (refl, refl)

no_sheets : AddedToList (bytes "     4     8     0\n") unreserved [] [] (7 ∷ []) 2162688 (7 ∷ [])
unfolding read_list bind ◌>>=◌ require given AddSet sound blanks
no_sheets = (_, refl, (refl, refl))

none_sound : AddedToList (bytes "     4     8     0\n") (record { count = 9; net = 20 }) [] [] (7 ∷ []) 1310720 (7 ∷ [])
unfolding read_list bind ◌>>=◌ require given AddSet sound blanks
none_sound = (_, refl, (refl, refl))
