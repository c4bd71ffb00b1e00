-- The two adds of 01's example, "List", one after the other on the part that an opening gave, and the two sheets as a set: the promises can
-- be kept, and the part that they leave behind is the one whose list 01 prints (Examples). And adds by fewest levels, sets that are turned down,
-- and reservations.
use Rattle.std.specs.Prelude.{ℕ, ◌≤◌, ◌≡◌, refl, ◌≢◌, true, false, List, [], ◌∷◌, ◌++◌, map, take, replicate}
use Rattle.std.proofs.Common.{arith, ap}
use mathlib.Core.List.Memᴰ
use Rattle.lists.specs.Trusted.Lists.{Every, here}
use Rattle.lists.specs.ListLaws.{every_none, every_cons, permuted_refl}
use Rattle.lists.specs.Trusted.Checked.{passed, refused as unread, ◌>>=◌, require, given}
use Rattle.tree.specs.declared.Kind.TheVariants.{And as and, Or as or}
use Rattle.tree.specs.Trusted.Limits.{code_base}
use Rattle.tree.specs.Trusted.Tree.{leaf, gate, none, edge}
use Rattle.cover.specs.Trusted.Cover.{Cover, net, top, end, old, Rooted, rooted, tables, CoverOf, Least, same, split, done, match}
use Rattle.cover.specs.Trusted.Tables.{LookupTable, code_levels}
use Rattle.cover.specs.Trusted.CoverTables.{Circuit, LeastCoverTables}
use Rattle.levels.specs.Trusted.Levels.{Fastest}
use Rattle.levels.proofs.LineLaws.{greatest_net_lem, greatest_more}
use Rattle.levels.proofs.TieLaws.{one_fastest, free_fastest}
use Rattle.sheet.specs.Checks.{bytes}
use Rattle.table.specs.ResultLaws.{says_true}
use Rattle.part_records.specs.declared.Reservation.{Reservation}
use Rattle.part.specs.Trusted.Parts.{blanks, tables_of, with_reservation, released}
use Rattle.part.specs.Trusted.Sound.{Sound}
use Rattle.part.specs.Trusted.Nets.{Driven}
use Rattle.part.specs.SoundLaws.{sound_reflects}
use Rattle.part.proofs.OpenLaws.{opened_shaped, opened_sound}
use Rattle.part.specs.Trusted.SoundTest.{sound}
use Rattle.part.specs.Trusted.Reading.{read_of}
use Rattle.set_lengths.specs.Trusted.Lengths.{is_whole}
use Rattle.part.specs.Trusted.Ways.{least, fastest}
use Rattle.part.specs.Trusted.Answers.{accepted, refused}
use Rattle.part.specs.Trusted.Tries.{adding, Try, CallResult}
use Rattle.part.specs.Trusted.Sets.{member, InTurn, turned_away, AddSet}
use Rattle.part.specs.Trusted.Reservations.{reserving_sheet, Reserve, Commit, withdrawn}
use Rattle.part.specs.Trusted.Add.{opened, extended, Add}
use Rattle.demands.specs.Trusted.Calls.{add, add_set, withdraw, one_sheet, final, Chain, call}
use Rattle.list_reading.specs.PartExamples.{part}
use Rattle.part.specs.declared.Part.{Part}
use Rattle.demands.proofs.Theorems.{guaranteed}
use Rattle.demands.specs.Trusted.Calls as calls
use Rattle.demands.specs.Trusted.Demands as Demands
use Rattle.demands.specs.Trusted.Demands.{StillOpen, Total, more, out_driven, none_added, one_added, SetCondition, of_sheet, no_try, next_try, TriedSheets, up_to}

-- net 20 = (1 or 2) and (3 or 4), and net 21 = not (20 and not 5)
abbrev pub first : Circuit
first = record {
  tree = gate and (edge false (gate or (edge false (leaf 1) (edge false (leaf 2) none))) (edge false (gate or (edge false (leaf 3) (edge false (leaf 4) none))) none));
  out = 20;
  inverted = false;
}

abbrev pub second : Circuit
second = record { tree = gate and (edge false (leaf 20) (edge true (leaf 5) none)); out = 21; inverted = true }

abbrev pub first_text : List ℕ
first_text = bytes "    20     3\n     2     2     1     2\n     2     2     3     4\n     1     2 10001 10002\n"

abbrev pub second_text : List ℕ
second_text = bytes "   -21     1\n     1     2    20    -5\n"

-- the texts read as the sheets: no gates of theirs are chained
pub first_read : read_of first_text ≡ passed first
unfolding read_of ◌>>=◌ require given
first_read = refl

pub second_read : read_of second_text ≡ passed second
unfolding read_of ◌>>=◌ require given
second_read = refl

abbrev table_1 : List LookupTable
table_1 = record { drives = 20; inputs = 1 ∷ 2 ∷ 3 ∷ 4 ∷ []; truth = 61152 } ∷ []

abbrev table_2 : List LookupTable
table_2 = record { drives = 21; inputs = 5 ∷ 20 ∷ []; truth = 11 } ∷ []

abbrev pub start : Part
start = (opened 4 8).part

abbrev pub middle : Part
middle = extended start table_1

abbrev pub end_part : Part
end_part = extended middle table_2

-- each cover has a table at its root
one_table : (c : Cover) → Rooted c → 1 ≤ tables c
one_table c (rooted {fs = fs}) = omega arith

two : {A : Type 0} (P : A → Type 0) {x y : A} → P x → P y → Every P (x ∷ y ∷ [])
two P p q = every_cons p (every_cons q (every_none _))

cover_1 : CoverOf 4 first.tree (top 1 and (old false (top 0 or (old false (net 1) (old false (net 2) end))) (old false (top 0 or (old false (net 3) (old false (net 4) end))) end)))
cover_1 = record {
  split = split (match here (split (match here same (match here same done))) (match here (split (match here same (match here same done))) done));
  root = rooted;
  fits = omega arith;
}

cover_2 : CoverOf 4 second.tree (top 2 and (old false (net 20) (old true (net 5) end)))
cover_2 = record { split = split (match here same (match here same done)); root = rooted; fits = omega arith }

least_1 : Least 4 first.tree 1
least_1 = record { some = (_, cover_1, refl); none_fewer = λ c h. one_table c h.root }

least_2 : Least 4 second.tree 1
least_2 = record { some = (_, cover_2, refl); none_fewer = λ c h. one_table c h.root }

added_1 : LeastCoverTables code_base 4 [] table_1 first
added_1 = record {
  added = record {
    cover = _;
    covers = cover_1;
    taken = permuted_refl _;
    earlier = every_cons (every_cons (omega arith) (every_cons (omega arith) (two _ (omega arith) (omega arith)))) (every_none _);
    last = refl;
  };
  fewest = least_1;
}

added_2 : LeastCoverTables code_base 4 table_1 table_2 second
added_2 = record {
  added = record {
    cover = _;
    covers = cover_2;
    taken = permuted_refl _;
    earlier = every_cons (two _ (omega arith) (omega arith)) (every_none _);
    last = refl;
  };
  fewest = least_2;
}

add_1 : Add least start first_text middle accepted
unfolding Add sound blanks
add_1 = rw first_read (1, least_1, record { new = table_1; chosen = added_1; part = refl; answer = refl })

add_2 : Add least middle second_text end_part accepted
unfolding Add sound blanks
add_2 = rw second_read (1, least_2, record { new = table_2; chosen = added_2; part = refl; answer = refl })

abbrev results : List CallResult
results = one_sheet least first_text start middle accepted ∷ one_sheet least second_text middle end_part accepted ∷ []

-- the sum of the sheets' least numbers is the part's used count
total : Total (record { way = least; part = start; sheet = first } ∷ record { way = least; part = middle; sheet = second } ∷ []) part.used
total = more 1 least_1 (more 1 least_2 Demands.none)

-- the promises can be kept
chain : Chain start (add least first_text ∷ add least second_text ∷ []) results
chain = call {c = add least first_text} (add_1, refl) (call {c = add least second_text} (add_2, refl) calls.done)

-- and the part is the one in 01
ends : final start results ≡ part
unfolding blanks
ends = refl

-- ---- fewest levels (02, #107): nets 1 to 4 are free, so the first sheet's root has level 1; then net 20 has it, and the second sheet's root has level 2

pub fastest_1 : Fastest (code_levels code_base []) 4 first.tree 1 1
fastest_1 = free_fastest (omega arith) first.tree tt (λ n m. refl) least_1

pub fastest_2 : Fastest (code_levels code_base table_1) 4 second.tree 1 2
fastest_2 = one_fastest (omega arith) tt (greatest_more (greatest_net_lem false 20) (greatest_net_lem true 5)) least_2

pub fast_add_1 : Add fastest start first_text middle accepted
unfolding Add sound blanks added_1
fast_add_1 =
    rw first_read (1, (1, fastest_1), record { new = table_1; chosen = record { added = added_1.added; fastest = fastest_1 }; part = refl; answer = refl })

pub fast_add : Add fastest middle second_text end_part accepted
unfolding Add sound blanks added_2
fast_add =
    rw second_read (1, (2, fastest_2), record { new = table_2; chosen = record { added = added_2.added; fastest = fastest_2 }; part = refl; answer = refl })

-- after an add in the other way, and the sum has each sheet's number in its own
both_ways : Chain start (add least first_text ∷ add fastest second_text ∷ []) (one_sheet least first_text start middle accepted ∷ one_sheet fastest second_text middle end_part accepted ∷ [])
both_ways = call {c = add least first_text} (add_1, refl) (call {c = add fastest second_text} (fast_add, refl) calls.done)

both_total : Total (record { way = least; part = start; sheet = first } ∷ record { way = fastest; part = middle; sheet = second } ∷ []) part.used
both_total = more 1 least_1 (more {e = record { way = fastest; part = middle; sheet = second }} 1 (2, fastest_2) Demands.none)

-- ---- sets (02, #106): the first sheet has 88 bytes, the second 38

-- the second sheet reads what the first one drives
set_accepted : (ts : List Try) × AddSet start (88 ∷ 38 ∷ []) (first_text ++ second_text) (record { part = end_part; answer = accepted; position = 0; tries = ts })
unfolding AddSet sound blanks
set_accepted = (_, InTurn.next add_1 (InTurn.next add_2 InTurn.all))

-- the first sheet again, as the second of three: its net is driven already, and the part is unaltered
driven_again : Add least middle first_text middle (refused 21 0)
unfolding Add sound blanks
driven_again = rw first_read (refl, refl)

set_refused : (ts : List Try) ×
    AddSet start (88 ∷ 88 ∷ 38 ∷ []) (first_text ++ first_text ++ second_text) (record { part = start; answer = refused 21 0; position = 2; tries = ts })
unfolding AddSet sound blanks
set_refused = (_, InTurn.next add_1 (InTurn.stop driven_again))

-- the same by its condition, the first sheet being added ahead, and by what is tried, the third sheet not being looked at
middle_sound : Sound middle
unfolding sound blanks
middle_sound = says_true (sound_reflects middle) refl

middle_drives : Driven 20 (tables_of middle)
unfolding blanks
middle_drives = (_, Memᴰ.head refl, refl)

refused_condition : SetCondition start (88 ∷ 88 ∷ 38 ∷ []) (first_text ++ first_text ++ second_text) 21 0 2
refused_condition =
    of_sheet (opened_sound 4 8 refl) (record { some = omega arith; few = omega arith; add_up = refl }) (first_text ∷ []) first_text (second_text ∷ []) refl
    middle (one_added add_1 none_added) 21 0 (out_driven first middle_sound first_read middle_drives)

refused_tried : TriedSheets start (add_set (88 ∷ 88 ∷ 38 ∷ []) (first_text ++ first_text ++ second_text))
    (record {
      part = start;
      answer = refused 21 0;
      position = 2;
      tries = member first_text start middle accepted ∷ member first_text middle middle (refused 21 0) ∷ [];
    })
refused_tried =
    up_to (member first_text start middle accepted ∷ []) (member first_text middle middle (refused 21 0)) ((adding, least, second_text) ∷ []) 21 0 refl refl
    (next_try {t = member first_text start middle accepted} refl refl no_try) refl refl refl

-- one table for both: none is left for the second sheet, and the part is unaltered
abbrev small : Part
small = (opened 4 1).part

abbrev filled : Part
filled = extended small table_1

fills : Add least small first_text filled accepted
unfolding Add sound blanks
fills = rw first_read (1, least_1, record { new = table_1; chosen = added_1; part = refl; answer = refl })

none_left : Add least filled second_text filled (refused 23 0)
unfolding Add sound blanks
none_left = rw second_read (1, least_2, (refl, refl))

set_too_large : (ts : List Try) × AddSet small (88 ∷ 38 ∷ []) (first_text ++ second_text) (record { part = small; answer = refused 23 0; position = 2; tries = ts })
unfolding AddSet sound blanks
set_too_large = (_, InTurn.next fills (InTurn.stop none_left))

-- the second sheet's first byte with the first: bytes after its last line, so 1 there, at line 5
one_byte_more : read_of (take 89 (first_text ++ second_text)) ≡ unread 1 5
unfolding read_of ◌>>=◌ require given
one_byte_more = refl

misread_first : Add least start (take 89 (first_text ++ second_text)) start (refused 1 5)
unfolding Add sound blanks
misread_first = rw one_byte_more (refl, refl)

set_torn : (ts : List Try) × AddSet start (89 ∷ 37 ∷ []) (first_text ++ second_text) (record { part = start; answer = refused 1 5; position = 1; tries = ts })
unfolding AddSet sound blanks
set_torn = (_, InTurn.stop misread_first)

-- lengths that do not add up, no sheet, and seventeen; and 20 before 33
sets_unfit :
    map (λ (lengths : List ℕ). is_whole lengths 126) ((88 ∷ 38 ∷ []) ∷ (88 ∷ 37 ∷ []) ∷ (88 ∷ 39 ∷ []) ∷ (126 ∷ replicate 15 0) ∷ (126 ∷ replicate 16 0) ∷ (126 ∷ 4294967295 ∷ 1 ∷ []) ∷ [])
    ≡ true ∷ false ∷ false ∷ true ∷ false ∷ false ∷ []
sets_unfit = refl

set_empty : AddSet start [] [] (turned_away start 33)
unfolding AddSet sound blanks
set_empty = refl

unsound_first : AddSet (opened 7 8).part [] [] (turned_away (opened 7 8).part 20)
unfolding AddSet sound blanks
unsound_first = refl

-- ---- reservations (02, #109): the one table of a part is set aside for the first sheet

abbrev held : Part
held = with_reservation small (record { count = 1; net = 20 })

reserve_accepted : Reserve small first_text (reserving_sheet least first_text small held accepted)
unfolding Reserve sound blanks
reserve_accepted = (((filled, fills), record { sheet = first; read = first_read; count = 1; number = least_1; part = refl }), refl)

-- an add and a set find no table besides, and another reservation is turned away
none_besides : Add least held second_text held (refused 23 0)
unfolding Add sound blanks
none_besides = rw second_read (1, least_2, (refl, refl))

set_besides : (ts : List Try) × AddSet held (38 ∷ []) second_text (record { part = held; answer = refused 23 0; position = 1; tries = ts })
unfolding AddSet sound blanks
set_besides = (_, InTurn.stop none_besides)

reserve_again : Reserve held second_text (turned_away held 35)
unfolding Reserve sound blanks
reserve_again = refl

-- the commit of the first sheet uses the table and closes the reservation; one of the second sheet is for another net; a line too few is the
-- sheet's own refusal, and comes first
commit_accepted : (ts : List Try) × Commit held first_text (record { part = filled; answer = accepted; position = 0; tries = ts })
unfolding Commit sound blanks
commit_accepted = (member first_text small filled accepted ∷ [], rw first_read (InTurn.next fills InTurn.all))

commit_other : Commit held second_text (turned_away held 36)
unfolding Commit sound blanks
commit_other = rw second_read refl

one_line : read_of (take 13 second_text) ≡ unread 1 2
unfolding read_of ◌>>=◌ require given
one_line = refl

cut_refused : Add least small (take 13 second_text) small (refused 1 2)
unfolding Add sound blanks
cut_refused = rw one_line (refl, refl)

commit_cut : (ts : List Try) × Commit held (take 13 second_text) (record { part = held; answer = refused 1 2; position = 0; tries = ts })
unfolding Commit sound blanks
commit_cut = (member (take 13 second_text) small small (refused 1 2) ∷ [], rw one_line (InTurn.stop cut_refused))

-- with the net driven in between, the commit gets 21 and keeps the reservation
abbrev driven_since : Part
driven_since = with_reservation filled (record { count = 1; net = 20 })

abbrev roomy : Part
roomy = record { k = 4; capacity = 2; used = 1; reservation = record { count = 1; net = 20 }; tables = filled.tables }

driven_by_then : Add least (released roomy) first_text (released roomy) (refused 21 0)
unfolding Add sound blanks
driven_by_then = rw first_read (refl, refl)

commit_driven : (ts : List Try) × Commit roomy first_text (record { part = roomy; answer = refused 21 0; position = 0; tries = ts })
unfolding Commit sound blanks
commit_driven = (member first_text (released roomy) (released roomy) (refused 21 0) ∷ [], rw first_read (InTurn.stop driven_by_then))

-- withdrawn, the part is as it was before; and with none open nothing can be closed
withdraw_closes : withdrawn held ≡ record { part = small; answer = accepted; position = 0; tries = [] }
unfolding withdrawn sound blanks
withdraw_closes = refl

none_to_close : (withdrawn small ≡ turned_away small 36) × Commit small first_text (turned_away small 36)
unfolding withdrawn Commit sound blanks
none_to_close = (refl, refl)

-- what may be reserved where one table is left, and where none is: as many as are left; both numbers zero or none; a net from 1 to 9999
reservations :
    map (λ (r : Reservation). sound (with_reservation small r))
    (record { count = 0; net = 0 } ∷ record { count = 1; net = 1 } ∷ record { count = 1; net = 9999 } ∷ record { count = 2; net = 1 } ∷ record { count = 1; net = 0 }
    ∷ record { count = 0; net = 1 } ∷ record { count = 1; net = 10000 } ∷ [])
    ≡ true ∷ true ∷ true ∷ false ∷ false ∷ false ∷ false ∷ []
unfolding sound blanks
reservations = refl

full_reserved : sound driven_since ≡ false
unfolding sound blanks
full_reserved = refl

-- the guarantee: after an add that found no table the reservation is still open, and a commit of the first sheet is not refused 23; after a
-- withdrawal it is not open
still_open : StillOpen (add least second_text ∷ []) (one_sheet least second_text held held (refused 23 0) ∷ [])
still_open = (tt, tt)

promise_kept : (r : CallResult) → Commit held first_text r → (place : ℕ) → r.answer ≢ refused 23 place
promise_kept r c place =
    guaranteed small (opened_shaped 4 1) first_text (reserving_sheet least first_text small held accepted) reserve_accepted refl (add least second_text ∷ [])
    (one_sheet least second_text held held (refused 23 0) ∷ []) (call {c = add least second_text} (none_besides, refl) calls.done) still_open r c place

closed_since : StillOpen (withdraw ∷ []) (withdrawn held ∷ []) → ⊥
closed_since s = s.0 (ap (λ r. r.answer) withdraw_closes)
