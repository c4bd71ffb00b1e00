-- Calls one after the other, each given the part that the one before handed back, and what is counted over them:
-- 01, "Counting over a list of adds". Definitions only.
use Rattle.std.specs.Prelude.{ℕ, ◌≡◌, List, [], ◌∷◌, ◌++◌, map}
use Rattle.lists.specs.Trusted.Lists.{gather}
use Rattle.lists.specs.Trusted.Checked.{Checked, passed, refused as unread}
use Rattle.cover.specs.Trusted.CoverTables.{Circuit}
use Rattle.set_lengths.specs.Trusted.Lengths.{cut}
use Rattle.part_records.specs.Trusted.Reservations.{unreserved}
use Rattle.part_records.specs.declared.Reservation.{Reservation}
use Rattle.part.specs.Trusted.Parts.{with_reservation}
use Rattle.part.specs.Trusted.Ways.{Way, least, reading}
use Rattle.part.specs.Trusted.Answers.{Answer, accepted, refused}
use Rattle.part.specs.Trusted.Add.{Add}
use Rattle.part.specs.Trusted.Tries.{Purpose, adding, reserving, Try, CallResult}
use Rattle.part.specs.Trusted.Sets.{AddSet}
use Rattle.part.specs.Trusted.Reservations.{Reserve, Commit, withdrawn}
use Rattle.part.specs.declared.Part.{Part}

-- a call that takes a part and hands one back
pub data Call : Type 0 where
  -- one sheet, its tables chosen in some way
  add : Way → List ℕ → Call
  -- a set of sheets (02, #106)
  add_set : (lengths text : List ℕ) → Call
  -- tables set aside for a sheet, and the two that close it (02, #109)
  reserve : List ℕ → Call
  commit : List ℕ → Call
  withdraw : Call

-- its sheets: what each is looked at for, its way, and its text
abbrev pub sheets_of : Call → List (Purpose × Way × List ℕ)
sheets_of (add w text) = (adding, w, text) ∷ []
sheets_of (add_set lengths text) = map (λ t. (adding, least, t)) (cut lengths text)
sheets_of (reserve text) = (reserving, least, text) ∷ []
sheets_of (commit text) = (adding, least, text) ∷ []
sheets_of withdraw = []

-- what is set aside from them: a commit "may use the tables set aside, and closes the hold", a withdrawal "closes it too", and all other adding
-- "finds only what is neither used nor set aside"
abbrev pub withheld : Call → Part → Reservation
withheld (add w text) o = o.reservation
withheld (add_set lengths text) o = o.reservation
withheld (reserve text) o = o.reservation
withheld (commit text) o = unreserved
withheld withdraw o = unreserved

-- the part that the first of them stands on
abbrev pub stands_upon : Call → Part → Part
stands_upon c o = with_reservation o (withheld c o)

-- what an add on the part p gives: its one sheet was tried
abbrev pub one_sheet : Way → List ℕ → Part → Part → Answer → CallResult
one_sheet w text p q a = record { part = q; answer = a; position = 0; tries = record { purpose = adding; way = w; text = text; before = p; after = q; answer = a } ∷ [] }

-- what the call itself promises
abbrev pub Promise : Part → Call → CallResult → Type 0
Promise p (add w text) r = Add w p text r.part r.answer × (r ≡ one_sheet w text p r.part r.answer)
Promise p (add_set lengths text) r = AddSet p lengths text r
Promise p (reserve text) r = Reserve p text r
Promise p (commit text) r = Commit p text r
Promise p withdraw r = r ≡ withdrawn p

-- the results of the calls, from the part p on
pub data Chain : Part → List Call → List CallResult → Type 0 where
  done : {p : Part} → Chain p [] []
  call : {p : Part} {c : Call} {cs : List Call} {r : CallResult} {rs : List CallResult} → Promise p c r → Chain r.part cs rs → Chain p (c ∷ cs) (r ∷ rs)

-- the last part handed back
abbrev pub final : Part → List CallResult → Part
final p [] = p
final p (r ∷ rs) = final r.part rs

-- ---- the accepted sheets

-- a sheet, with its way and the part that it stands on
pub record SheetEntry : Type 0 where
  pub way : Way
  pub part : Part
  pub sheet : Circuit

-- the sheet that is read, if one is; "a held sheet is among a part's accepted sheets only through its accepted commit"
abbrev pub entered : Purpose → Way → Part → Checked Circuit → List SheetEntry
entered adding w p (passed s) = record { way = w; part = p; sheet = s } ∷ []
entered adding w p (unread number place) = []
entered reserving w p v = []

abbrev pub sheet_entries : List Try → List SheetEntry
sheet_entries = gather (λ t. entered t.purpose t.way t.before (reading t.way t.text))

-- "A sheet is accepted where the call that it stands in turns nothing down"
abbrev pub if_accepted : Answer → List SheetEntry → List SheetEntry
if_accepted accepted es = es
if_accepted (refused number place) es = []

abbrev pub accepted_by : CallResult → List SheetEntry
accepted_by r = if_accepted r.answer (sheet_entries r.tries)

-- those of all calls, in order
abbrev pub accepted_in : List CallResult → List SheetEntry
accepted_in = gather accepted_by

-- in the calls from the part p on, the call d was given the part o and gave t, and the sheets `es` were accepted before it
pub data Link : Part → List Call → List CallResult → List SheetEntry → Part → Call → CallResult → Type 0 where
  here : {p : Part} {d : Call} {cs : List Call} {t : CallResult} {rs : List CallResult} → Link p (d ∷ cs) (t ∷ rs) [] p d t
  next : {p o : Part} {c d : Call} {cs : List Call} {r t : CallResult} {rs : List CallResult} {es : List SheetEntry} →
      Link r.part cs rs es o d t → Link p (c ∷ cs) (r ∷ rs) (accepted_by r ++ es) o d t
