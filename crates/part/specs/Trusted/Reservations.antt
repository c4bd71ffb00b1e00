-- Reserving tables, and closing the reservation: 02, #109, in its order (the paper says "hold", "commit" and "withdrawal").
-- Definitions only.
use Rattle.std.specs.Prelude.{ℕ, ◌≡◌, Bool, false, not, cond, List, [], ◌∷◌, eqb}
use Rattle.lists.specs.Trusted.Checked.{Checked, passed, refused as unread}
use Rattle.lists.specs.Trusted.Tests.{either}
use Rattle.cover.specs.Trusted.CoverTables.{Circuit}
use Rattle.part.specs.Trusted.Parts.{with_reservation, released}
use Rattle.part.specs.Trusted.SoundTest.{sound}
use Rattle.part.specs.Trusted.Ways.{Way, least, reading, NumberBy}
use Rattle.part.specs.Trusted.Answers.{Answer, accepted, refused}
use Rattle.part.specs.Trusted.Add.{Add}
use Rattle.part.specs.Trusted.Tries.{reserving, Try, CallResult}
use Rattle.part.specs.Trusted.Sets.{InTurn, turned_away}
use Rattle.part.specs.declared.Part.{Part}

-- a reservation is open
abbrev pub reservation_open : Part → Bool
reservation_open p = not (eqb p.reservation.count 0)

-- ---- reserving

-- the part q after an accepted one: it "sets aside its least number; the part remembers that number and the output net"
pub record SetAside (w : Way) (p : Part) (text : List ℕ) (q : Part) : Type 0 where
  pub sheet : Circuit
  pub read : reading w text ≡ passed sheet
  pub count : ℕ
  pub number : NumberBy w p sheet count
  pub part : q ≡ with_reservation p (record { count = count; net = sheet.out })

-- refused, the part is handed back as it was
abbrev pub Reserved : Way → Part → List ℕ → Answer → Part → Type 0
Reserved w p text accepted q = SetAside w p text q
Reserved w p text (refused number place) q = q ≡ p

-- "A hold takes a sheet, does every check of an add": the answer is that of an add of the sheet, whichever part this would hand back
abbrev pub Reserves : Way → Part → List ℕ → Part → Answer → Type 0
Reserves w p text q a = ((o : Part) × Add w p text o a) × Reserved w p text a q

-- what it gives: its one sheet was tried
abbrev pub reserving_try : Way → List ℕ → Part → Part → Answer → Try
reserving_try w text p q a = record { purpose = reserving; way = w; text = text; before = p; after = q; answer = a }

abbrev pub reserving_sheet : Way → List ℕ → Part → Part → Answer → CallResult
reserving_sheet w text p q a = record { part = q; answer = a; position = 0; tries = reserving_try w text p q a ∷ [] }

-- THE PROMISE OF A RESERVATION: "35, a hold while one is open", "right after 20"
unfoldable pub Reserve : Part → List ℕ → CallResult → Type 0
Reserve p text r =
    either (sound p)
    (either (reservation_open p) (r ≡ turned_away p 35) (Reserves least p text r.part r.answer × (r ≡ reserving_sheet least text p r.part r.answer)))
    (r ≡ turned_away p 20)

-- ---- closing

-- a sheet was read, and its output net is not the one that is held
abbrev pub is_other : Part → Checked Circuit → Bool
is_other p (passed s) = not (eqb s.out p.reservation.net)
is_other p (unread number place) = false

-- "36 .. for the net, right before 21"; else it "does every check of an add afresh, may use the tables set aside, and closes the hold": an add
-- to the part with its reservation closed, as of a set of one sheet, with position 0; "a refused commit keeps it open"
abbrev pub Committed : Part → List ℕ → CallResult → Type 0
Committed p text r = either (is_other p (reading least text)) (r ≡ turned_away p 36) (InTurn p 0 (text ∷ []) (released p) r)

-- THE PROMISE OF A COMMIT: "36, commit or withdrawal with none open", right after 20
unfoldable pub Commit : Part → List ℕ → CallResult → Type 0
Commit p text r = either (sound p) (either (reservation_open p) (Committed p text r) (r ≡ turned_away p 36)) (r ≡ turned_away p 20)

-- WHAT A WITHDRAWAL GIVES: it "closes it too"
unfoldable pub withdrawn : Part → CallResult
withdrawn p =
    cond (sound p) (cond (reservation_open p) (record { part = released p; answer = accepted; position = 0; tries = [] }) (turned_away p 36)) (turned_away p 20)
