-- THE USER'S THREE DEMANDS, in the user's order and words, as statements about what the contracts say of the code: `Part::open` gives
-- `opened`, `Part::add` keeps `Add` (part/specs/Trusted/Add), `Part::add_set` keeps `AddSet` (part/specs/Trusted/Sets), `Part::reserve`,
-- `Part::commit` and `Part::withdraw` keep `Reserve`, `Commit` and `withdrawn` (part/specs/Trusted/Reservations), `write_line` and `write_list` give `line_written` and `list_written` (listing/specs/Lines), `read_list` gives `read_list` (list_reading/specs/Trusted/ReadList).
-- Definitions only: that they hold is `demand_1`, `demand_2` and `demand_3` in Theorems.
use Rattle.std.specs.Prelude.{ℕ, suc, ◌+◌, ◌-◌, ◌≤◌, ◌<◌, ◌≡◌, ◌↔◌, ◌≢◌, Bool, List, [], ◌∷◌, ◌++◌, map, length}
use Rattle.lists.specs.Trusted.Lists.{Every}
use Rattle.tree.specs.Trusted.Limits.{code_base}
use Rattle.lists.specs.Trusted.Checked.{passed, refused as unread, refused as unwritten}
use Rattle.cover.specs.Trusted.Tables.{LookupTable, settled}
use Rattle.cover.specs.Trusted.CoverTables.{Circuit, Fresh}
use Rattle.sheet.specs.Trusted.Sheet.{DrawnSheet}
use Rattle.sheet.specs.Trusted.Read.{read_sheet}
use Rattle.sheet.specs.Trusted.Values.{sheet_value}
use Rattle.table.specs.Trusted.Limits.{KRange, CapacityRange}
use Rattle.table.specs.Trusted.Records.{records_after}
use Rattle.table.specs.Trusted.Rules.{IsNet}
use Rattle.part_records.specs.Trusted.Reservations.{unreserved}
use Rattle.part_records.specs.declared.Reservation.{Reservation}
use Rattle.part.specs.Trusted.Parts.{in_use, tables_of, available, released, Shaped}
use Rattle.part.specs.Trusted.Sound.{Sound}
use Rattle.set_lengths.specs.Trusted.Lengths.{Whole, cut}
use Rattle.part.specs.Trusted.Nets.{Driven, Read}
use Rattle.part.specs.Trusted.Ways.{Way, least, reading, NumberBy, Chosen}
use Rattle.part.specs.Trusted.Answers.{Answer, accepted, refused, Result, empty}
use Rattle.part.specs.Trusted.Add.{opened, Add}
use Rattle.part.specs.Trusted.Tries.{Purpose, adding, reserving, Try, CallResult}
use Rattle.part.specs.Trusted.Sets.{turned_away, AddSet}
use Rattle.part.specs.Trusted.Reservations.{SetAside, reserving_sheet, Reserve, Commit, withdrawn}
use Rattle.listing.specs.Trusted.Listing.{line_of, list_of}
use Rattle.part.specs.declared.Part.{Part}
use Rattle.list_line.specs.Trusted.Writes.{WriteOutcome, pasted}
use Rattle.listing.specs.Lines.{line_written, list_written}
use Rattle.list_reading.specs.Trusted.ReadList.{read_list, read_result}
use Rattle.list_reading.specs.Trusted.ListConditions.{ListTold}
use Rattle.demands.specs.Trusted.Calls.{Call, add, add_set, reserve, commit, withdraw, sheets_of, withheld, stands_upon, Chain, final, SheetEntry, sheet_entries, accepted_in, Link}

-- ---- DEMAND 1. "Whatever it is handed (a damaged sheet, a part that breaks its own rules, a buffer too short), it ends with the one
-- ---- refusal whose stated condition holds, and the part and the buffer are byte for byte as before."

-- of each entry point: 01's condition for each number and place, and that the refusal is given exactly where its condition holds, with the
-- part or the buffer as before; what no condition turns down is accepted

-- opening: 2 is tested before 3
pub data OpeningCondition (k capacity : ℕ) : (number place : ℕ) → Type 0 where
  bad_k : ¬ (KRange k) → OpeningCondition k capacity 2 0
  bad_capacity : KRange k → ¬ (CapacityRange capacity) → OpeningCondition k capacity 3 0

pub record OpeningTold (k capacity : ℕ) (r : Result) : Type 0 where
  pub refuses : (number place : ℕ) → (r.answer ≡ refused number place) ↔ OpeningCondition k capacity number place
  pub accepts : (r.answer ≡ accepted) ↔ (KRange k × CapacityRange capacity)
  pub zeros : (number place : ℕ) → r.answer ≡ refused number place → r.part ≡ empty 0 0

-- no condition that an add tests before 23 holds, and s is the sheet as it is covered
pub record Passes (w : Way) (o : Part) (text : List ℕ) (s : Circuit) : Type 0 where
  pub sound : Sound o
  pub read : reading w text ≡ passed s
  pub fresh : Fresh s (tables_of o)

-- adding: 20, then those of the sheet, which `reading` states in 01's order, then 21, 22 and 23
pub data AddCondition (w : Way) (p : Part) (text : List ℕ) : (number place : ℕ) → Type 0 where
  not_sound : ¬ (Sound p) → AddCondition w p text 20 0
  not_read : (number place : ℕ) → Sound p → reading w text ≡ unread number place → AddCondition w p text number place
  out_driven : (s : Circuit) → Sound p → reading w text ≡ passed s → Driven s.out (tables_of p) → AddCondition w p text 21 0
  out_read : (s : Circuit) → Sound p → reading w text ≡ passed s → ¬ (Driven s.out (tables_of p)) → Read s.out (tables_of p) → AddCondition w p text 22 0
  no_room : (s : Circuit) (n : ℕ) → Passes w p text s → NumberBy w p s n → available p < n → AddCondition w p text 23 0

-- accepted is what passes, with a number that is not above the number left
pub record AddTold (w : Way) (p : Part) (text : List ℕ) (q : Part) (a : Answer) : Type 0 where
  pub refuses : (number place : ℕ) → (a ≡ refused number place) ↔ AddCondition w p text number place
  pub accepts : (a ≡ accepted) ↔ ((s : Circuit) × (n : ℕ) × Passes w p text s × NumberBy w p s n × (n ≤ available p))
  pub stays : (number place : ℕ) → a ≡ refused number place → q ≡ p

-- adding a set (02, #106): 20, then 33, then the sheets in turn

-- the sheets with these texts are added one after the other, from the part p to the part q
pub data AddedAll : Part → List (List ℕ) → Part → Type 0 where
  none_added : {p : Part} → AddedAll p [] p
  one_added : {p q r : Part} {text : List ℕ} {texts : List (List ℕ)} → Add least p text q accepted → AddedAll q texts r → AddedAll p (text ∷ texts) r

-- of a sheet of the set, its own condition "as if those before it had been added"; its position is from 1
pub data SetCondition (p : Part) (lengths text : List ℕ) : (number place position : ℕ) → Type 0 where
  part_bad : ¬ (Sound p) → SetCondition p lengths text 20 0 0
  not_whole : Sound p → ¬ (Whole lengths (length text)) → SetCondition p lengths text 33 0 0
  of_sheet : Sound p → Whole lengths (length text) → (ahead : List (List ℕ)) (one : List ℕ) (rest : List (List ℕ)) → cut lengths text ≡ ahead ++ one ∷ rest →
      (q : Part) → AddedAll p ahead q → (number place : ℕ) → AddCondition least q one number place →
      SetCondition p lengths text number place (suc (length ahead))

-- all of the sheets are added, or the part is unaltered
pub record SetTold (p : Part) (lengths text : List ℕ) (r : CallResult) : Type 0 where
  pub refuses : (number place position : ℕ) →
      ((r.answer ≡ refused number place) × (r.position ≡ position)) ↔ SetCondition p lengths text number place position
  pub accepts : (r.answer ≡ accepted) ↔ (Sound p × Whole lengths (length text) × ((q : Part) × AddedAll p (cut lengths text) q))
  pub all : r.answer ≡ accepted → AddedAll p (cut lengths text) r.part × (r.position ≡ 0)
  pub stays : (number place : ℕ) → r.answer ≡ refused number place → r.part ≡ p

-- reserving (02, #109): 20, then 35, then every check of an add
pub data ReserveCondition (p : Part) (text : List ℕ) : (number place : ℕ) → Type 0 where
  reserve_on_unsound : ¬ (Sound p) → ReserveCondition p text 20 0
  open_already : Sound p → p.reservation.count ≢ 0 → ReserveCondition p text 35 0
  as_an_add : Sound p → p.reservation.count ≡ 0 → (number place : ℕ) → AddCondition least p text number place → ReserveCondition p text number place

-- an accepted one sets aside the least number for the output net, and leaves all else as it was
pub record ReserveTold (p : Part) (text : List ℕ) (r : CallResult) : Type 0 where
  pub refuses : (number place : ℕ) → (r.answer ≡ refused number place) ↔ ReserveCondition p text number place
  pub accepts : (r.answer ≡ accepted)
      ↔ ((p.reservation.count ≡ 0) × ((s : Circuit) × (n : ℕ) × Passes least p text s × NumberBy least p s n × (n ≤ available p)))
  pub aside : r.answer ≡ accepted → SetAside least p text r.part
  pub stays : (number place : ℕ) → r.answer ≡ refused number place → r.part ≡ p

-- committing: 20, then 36 where none is open, the sheet's own, 36 for another net, and 21 to 23 on the part with the reservation closed
pub data CommitCondition (p : Part) (text : List ℕ) : (number place : ℕ) → Type 0 where
  commit_on_unsound : ¬ (Sound p) → CommitCondition p text 20 0
  none_open : Sound p → p.reservation.count ≡ 0 → CommitCondition p text 36 0
  other_net : (s : Circuit) → Sound p → p.reservation.count ≢ 0 → reading least text ≡ passed s → s.out ≢ p.reservation.net → CommitCondition p text 36 0
  of_the_sheet : Sound p → p.reservation.count ≢ 0 → ((s : Circuit) → reading least text ≡ passed s → s.out ≡ p.reservation.net) → (number place : ℕ) →
      AddCondition least (released p) text number place → CommitCondition p text number place

-- an accepted one is an accepted add on the part with the reservation closed; a refused one keeps the reservation
pub record CommitTold (p : Part) (text : List ℕ) (r : CallResult) : Type 0 where
  pub refuses : (number place : ℕ) → (r.answer ≡ refused number place) ↔ CommitCondition p text number place
  pub accepts : (r.answer ≡ accepted) ↔ (Sound p × (p.reservation.count ≢ 0)
      × ((s : Circuit) × (n : ℕ) × Passes least (released p) text s × (s.out ≡ p.reservation.net) × NumberBy least p s n × (n ≤ p.capacity - p.used)))
  pub adds : r.answer ≡ accepted → Add least (released p) text r.part accepted
  pub stays : (number place : ℕ) → r.answer ≡ refused number place → r.part ≡ p

-- withdrawing: 20, then 36
pub data WithdrawCondition (p : Part) : (number place : ℕ) → Type 0 where
  withdraw_on_unsound : ¬ (Sound p) → WithdrawCondition p 20 0
  nothing_open : Sound p → p.reservation.count ≡ 0 → WithdrawCondition p 36 0

pub record WithdrawTold (p : Part) (r : CallResult) : Type 0 where
  pub refuses : (number place : ℕ) → (r.answer ≡ refused number place) ↔ WithdrawCondition p number place
  pub accepts : (r.answer ≡ accepted) ↔ (Sound p × (p.reservation.count ≢ 0))
  pub closes : r.answer ≡ accepted → r.part ≡ released p
  pub stays : (number place : ℕ) → r.answer ≡ refused number place → r.part ≡ p

-- writing a line, and the list: 20, then 15 where what is to be written is not there, then 14 where the bytes `new` do not fit from the
-- place `at` on
pub data WriteCondition (p : Part) (There : Type 0) (old : List ℕ) (at : ℕ) (new : List ℕ) : (number place : ℕ) → Type 0 where
  part_unsound : ¬ (Sound p) → WriteCondition p There old at new 20 0
  not_there : Sound p → ¬ There → WriteCondition p There old at new 15 0
  too_short : Sound p → There → length old < at + length new → WriteCondition p There old at new 14 0

pub record WriteTold (p : Part) (There : Type 0) (old : List ℕ) (at : ℕ) (new : List ℕ) (o : WriteOutcome) : Type 0 where
  pub refuses : (number place : ℕ) → (o.result ≡ unwritten number place) ↔ WriteCondition p There old at new number place
  pub writes : (count : ℕ) → (o.result ≡ passed count) ↔ (Sound p × There × (at + length new ≤ length old) × (count ≡ length new))
  pub stays : (number place : ℕ) → o.result ≡ unwritten number place → o.bytes ≡ old
  pub bytes : (count : ℕ) → o.result ≡ passed count → o.bytes ≡ pasted old at new

-- DEMAND 1, of every entry point that can turn something down, whatever it is handed; the list of a part is always there
pub record Demand1 : Type 0 where
  pub opening : (k capacity : ℕ) → OpeningTold k capacity (opened k capacity)
  pub adding : (w : Way) (p : Part) (text : List ℕ) (q : Part) (a : Answer) → Add w p text q a → AddTold w p text q a
  pub sets : (p : Part) → Shaped p → (lengths text : List ℕ) (r : CallResult) → AddSet p lengths text r → SetTold p lengths text r
  pub reserving : (p : Part) (text : List ℕ) (r : CallResult) → Reserve p text r → ReserveTold p text r
  pub committing : (p : Part) (text : List ℕ) (r : CallResult) → Commit p text r → CommitTold p text r
  pub withdrawing : (p : Part) → WithdrawTold p (withdrawn p)
  pub line : (p : Part) (old : List ℕ) (at line : ℕ) → WriteTold p (line ≤ p.used) old at (line_of p line) (line_written p line old at)
  pub list : (p : Part) (old : List ℕ) (at : ℕ) → WriteTold p (Unit {0}) old at (list_of p) (list_written p old at)
  -- reading a list back (02, #101): the conditions are in list_reading/specs/Trusted/ListConditions
  pub reading : (text : List ℕ) → ListTold text (read_result (read_list text))

-- ---- DEMAND 2. "On a part opened and passed on untouched: each table has at most K inputs, and at every setting of the free nets each
-- ---- accepted sheet's output net has the value its gates give. The list's lines say exactly those tables."

-- the value of each net in the part p, where the nets are set by σ, and then those that a table drives take its value
abbrev pub values_in : Part → (ℕ → Bool) → ℕ → Bool
values_in p = settled code_base (tables_of p)

-- A sheet in a call, of calls that end with the part `last`: the text reads as the sheet d, and its tables `new` stand unchanged in the last
-- part; and there its output net has the value that its gates as drawn give, one after the other, at the values of the nets.
pub record Served (last : Part) (t : Try) (d : DrawnSheet) (new : List LookupTable) : Type 0 where
  pub read : read_sheet t.text ≡ passed d
  pub tables : tables_of t.after ≡ tables_of t.before ++ new
  pub stay : (later : List LookupTable) × (tables_of last ≡ tables_of t.after ++ later)
  pub value : (σ : ℕ → Bool) → values_in last σ d.out ≡ sheet_value d (values_in last σ)

-- each sheet that a call which turned nothing down added; a reservation adds none
abbrev pub CallServed : Part → CallResult → Type 0
CallServed last r = r.answer ≡ accepted → Every (λ t. t.purpose ≡ adding → (d : DrawnSheet) × (new : List LookupTable) × Served last t d new) r.tries

-- the last part of calls from an opening on
abbrev pub last_part : ℕ → ℕ → List CallResult → Part
last_part k capacity rs = final (opened k capacity).part rs

-- DEMAND 2, of the calls `cs` with the results `rs`, "on a part opened and passed on untouched"
pub record Demand2 (k capacity : ℕ) (cs : List Call) (rs : List CallResult) : Type 0 where
  -- "each table has at most K inputs"
  pub narrow : Every (λ t. length t.inputs ≤ k) (tables_of (last_part k capacity rs))
  -- "at every setting of the free nets": what a setting says of a net that a table drives makes no difference
  pub free : (σ τ : ℕ → Bool) → ((n : ℕ) → IsNet n → ¬ (Driven n (tables_of (last_part k capacity rs))) → σ n ≡ τ n) → (n : ℕ) → IsNet n →
      values_in (last_part k capacity rs) σ n ≡ values_in (last_part k capacity rs) τ n
  -- "each accepted sheet's output net has the value its gates give"
  pub each : (es : List SheetEntry) (o : Part) (c : Call) (r : CallResult) → Link (opened k capacity).part cs rs es o c r →
      CallServed (last_part k capacity rs) r
  -- "The list's lines say exactly those tables": the part is sound, so that demand 1 has its list written and read back as the same part with
  -- nothing reserved, and no sound part that differs in more than what is reserved has the same list, or the same lines
  pub sound : Sound (last_part k capacity rs)
  pub back : read_result (read_list (list_of (last_part k capacity rs))) ≡ record { part = released (last_part k capacity rs); answer = accepted }
  pub list : (q : Part) → Shaped q → Sound q → list_of (last_part k capacity rs) ≡ list_of q → released (last_part k capacity rs) ≡ released q
  pub lines : (q : Part) → Shaped q → Sound q → ((t : ℕ) → t ≤ (last_part k capacity rs).used → line_of (last_part k capacity rs) t ≡ line_of q t) →
      released (last_part k capacity rs) ≡ released q

-- ---- DEMAND 3. "One claim over any list of adds, on any part: the tables taken for each accepted sheet are those of one of its covers, and
-- ---- their number is its least number over all splittings and covers; 23 is given exactly when the least number is above the number
-- ---- left; the used count is the start's plus the sum of the least numbers."

-- a sheet's covers and its least number are those of its joined tree (02, #104), which `reading` gives it; a sheet whose tables are chosen
-- in another way has that way's number in place of the least one

-- n is the sum of the sheets' numbers; a sheet has one at most (`number_unique`), and so has the sum one value (`total_unique`)
pub data Total : List SheetEntry → ℕ → Type 0 where
  none : Total [] 0
  more : {e : SheetEntry} {es : List SheetEntry} (n : ℕ) {m : ℕ} → NumberBy e.way e.part e.sheet n → Total es m → Total (e ∷ es) (n + m)

-- the number left, from the start p on, after sheets whose numbers have the sum n, where `aside` tables are set aside and not for it (02, #109)
abbrev pub left : Part → (n aside : ℕ) → ℕ
left p n aside = p.capacity - p.used - n - aside

-- the tables `new` were taken for the sheet s: the records put after the old ones are theirs, with their levels in the whole list (02, #103),
-- they "are those of one of its covers, and their number is its least number" and the used count handed back less the one handed in
pub record Taken (t : Try) (s : Circuit) (new : List LookupTable) : Type 0 where
  pub read : reading t.way t.text ≡ passed s
  pub records : in_use t.after ≡ in_use t.before ++ records_after (tables_of t.before) new
  pub tables : tables_of t.after ≡ tables_of t.before ++ new
  pub cover : Chosen t.way t.before s new
  pub number : NumberBy t.way t.before s (length new)
  pub used : t.after.used ≡ t.before.used + length new

-- what an accepted sheet brings: its tables, or, where it is reserved, its number set aside and no table
abbrev pub Brings : Purpose → Try → Type 0
Brings adding t = (s : Circuit) × (new : List LookupTable) × Taken t s new
Brings reserving t = SetAside t.way t.before t.text t.after

-- a sheet that passes every other check has a number, "23 is given exactly when the least number is above the number left", and it is
-- accepted exactly when it is not
pub record RoomTold (left : ℕ) (w : Way) (p : Part) (s : Circuit) (a : Answer) : Type 0 where
  pub some : (n : ℕ) × NumberBy w p s n
  pub refuses : (n : ℕ) → NumberBy w p s n → (a ≡ refused 23 0) ↔ (left < n)
  pub accepts : (n : ℕ) → NumberBy w p s n → (a ≡ accepted) ↔ (n ≤ left)

-- a sheet in a call, where `left` tables are left for it; 23 is given to no sheet but one that passes every other check
pub record Accounted (left : ℕ) (t : Try) : Type 0 where
  pub brings : t.answer ≡ accepted → Brings t.purpose t
  pub room : (s : Circuit) → Passes t.way t.before t.text s → RoomTold left t.way t.before s t.answer
  pub only : t.answer ≡ refused 23 0 → (s : Circuit) × Passes t.way t.before t.text s

-- the tries stand one on what the other left, from the part p to the part q, and each is accepted and adds its tables
pub data OnEachOther : Part → List Try → Part → Type 0 where
  no_try : {p : Part} → OnEachOther p [] p
  next_try : {t : Try} {ts : List Try} {q : Part} → t.purpose ≡ adding → t.answer ≡ accepted → OnEachOther t.after ts q → OnEachOther t.before (t ∷ ts) q

abbrev pub tried_of : Try → Purpose × Way × List ℕ
tried_of t = (t.purpose, t.way, t.text)

-- which sheets of a call on the part o are tried: none, where a condition of the call's own holds; all, and the call is accepted; those up to
-- the first that is refused, and its answer is the call's; or the one that is reserved
pub data TriedSheets (o : Part) (c : Call) (r : CallResult) : Type 0 where
  before_any : (number : ℕ) → number ≢ 23 → r ≡ turned_away o number → TriedSheets o c r
  every : map tried_of r.tries ≡ sheets_of c → OnEachOther (stands_upon c o) r.tries r.part → r.answer ≡ accepted → TriedSheets o c r
  up_to : (ahead : List Try) (t : Try) (rest : List (Purpose × Way × List ℕ)) (number place : ℕ) → r.tries ≡ ahead ++ t ∷ [] → sheets_of c ≡ map tried_of r.tries ++ rest →
      OnEachOther (stands_upon c o) ahead t.before → t.answer ≡ refused number place → r.answer ≡ t.answer → r.part ≡ o → TriedSheets o c r
  sets_aside : (text : List ℕ) → c ≡ reserve text → r ≡ reserving_sheet least text o r.part accepted → TriedSheets o c r

-- what is reserved after a call that found `before` reserved: of an accepted reservation `Brings` says it
abbrev pub ReservedAfter : Call → Answer → (before after : Reservation) → Type 0
ReservedAfter c (refused number place) b a = a ≡ b
ReservedAfter (add w text) accepted b a = a ≡ b
ReservedAfter (add_set lengths text) accepted b a = a ≡ b
ReservedAfter (reserve text) accepted b a = b ≡ unreserved
ReservedAfter (commit text) accepted b a = a ≡ unreserved
ReservedAfter withdraw accepted b a = a ≡ unreserved

-- a call on the part o, with the result r, after the sheets `es` were accepted from the part p on, whose K stays: "each counts as an add of its own on the
-- part with those ahead of it added. For its number left, those ahead count as accepted even if the call is turned down."
pub record CallAccounted (p : Part) (es : List SheetEntry) (o : Part) (c : Call) (r : CallResult) : Type 0 where
  pub tried : TriedSheets o c r
  pub each : (ahead : List Try) (t : Try) (rest : List Try) → r.tries ≡ ahead ++ t ∷ rest →
      (n : ℕ) × Total (es ++ sheet_entries ahead) n × (t.before.k ≡ p.k) × Accounted (left p n (withheld c o).count) t
  pub reservation : ReservedAfter c r.answer o.reservation r.part.reservation

-- DEMAND 3, of the calls `cs` from the part p on, with the results `rs`
pub record Demand3 (p : Part) (cs : List Call) (rs : List CallResult) : Type 0 where
  -- each call, with the number left for each of its sheets
  pub each : (es : List SheetEntry) (o : Part) (c : Call) (r : CallResult) → Link p cs rs es o c r → CallAccounted p es o c r
  -- "the used count is the start's plus the sum of the least numbers"
  pub used : (n : ℕ) × Total (accepted_in rs) n × ((final p rs).used ≡ p.used + n)
  -- K and the capacity are the start's
  pub same : Every (λ r. (r.part.k ≡ p.k) × (r.part.capacity ≡ p.capacity)) rs

-- ---- THE GUARANTEE OF A RESERVATION (02, #109). "Where each state from the hold on was passed on untouched and that hold is still open, the
-- ---- same sheet is never refused 23 at commit."

-- the call does not close the reservation that is open
abbrev pub LeavesOpen : Call → CallResult → Type 0
LeavesOpen (add w text) r = Unit {0}
LeavesOpen (add_set lengths text) r = Unit {0}
LeavesOpen (reserve text) r = Unit {0}
LeavesOpen (commit text) r = r.answer ≢ accepted
LeavesOpen withdraw r = r.answer ≢ accepted

-- "that hold is still open": none of the calls closed it
abbrev pub StillOpen : List Call → List CallResult → Type 0
StillOpen [] rs = Unit {0}
StillOpen (c ∷ cs) [] = Unit {0}
StillOpen (c ∷ cs) (r ∷ rs) = LeavesOpen c r × StillOpen cs rs

-- of a part and a sheet's text: `h` is the reservation, `cs` the calls after it, each given the part that the one before handed back, and `r`
-- the commit
abbrev pub Guaranteed : Part → List ℕ → Type 0
Guaranteed p text = (h : CallResult) → Reserve p text h → h.answer ≡ accepted → (cs : List Call) (rs : List CallResult) → Chain h.part cs rs →
    StillOpen cs rs → (r : CallResult) → Commit (final h.part rs) text r → (place : ℕ) → r.answer ≢ refused 23 place
