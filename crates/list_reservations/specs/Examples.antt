-- The promises computed, on the list of an empty part with K 4 and room for eight tables, and for the sheet of net 20 that is 1 AND 2: the
-- codes of reservations; what is refused; and what is accepted, with one table set aside, taken or released.
use Rattle.std.specs.Prelude.{ℕ, ◌≤◌, ◌≡◌, refl, false, List, [], ◌∷◌, ◌++◌, replicate}
use Rattle.std.proofs.Common.{arith}
use Rattle.std.proofs.Math.Option.{bind}
use Rattle.lists.specs.Trusted.Lists.{here}
use Rattle.lists.specs.ListLaws.{every_none, every_cons, permuted_refl}
use Rattle.lists.specs.Trusted.Checked.{passed, ◌>>=◌, require, given}
use Rattle.tree.specs.declared.Kind.TheVariants.{And as and}
use Rattle.tree.specs.Trusted.Limits.{code_base}
use Rattle.tree.specs.Trusted.Tree.{leaf, gate, none, edge}
use Rattle.cover.specs.Trusted.Cover.{Cover, net, top, end, old, Rooted, rooted, tables, CoverOf, Least, same, split, done, match}
use Rattle.cover.specs.Trusted.Tables.{LookupTable}
use Rattle.cover.specs.Trusted.CoverTables.{Circuit, LeastCoverTables}
use Rattle.sheet.specs.Checks.{bytes}
use Rattle.part_records.specs.Trusted.Reservations.{unreserved}
use Rattle.part_records.specs.declared.Reservation.{Reservation}
use Rattle.part.specs.Trusted.Parts.{blanks}
use Rattle.part.specs.Trusted.SoundTest.{sound}
use Rattle.part.specs.Trusted.Reading.{read_of}
use Rattle.part.specs.Trusted.Ways.{least}
use Rattle.part.specs.Trusted.Answers.{empty, accepted, refused}
use Rattle.part.specs.Trusted.Sets.{all, next, stop}
use Rattle.part.specs.Trusted.Add.{extended, Add}
use Rattle.part.specs.Trusted.Reservations.{Reserve, Commit, withdrawn}
use Rattle.list_reading.specs.Trusted.ReadList.{read_list}
use Rattle.list_reservations.specs.Trusted.ListReservations.{reservation_code, ReservedOnList, CommittedToList, WithdrawnFromList}

codes : (reservation_code (record { count = 3; net = 20 }) ≡ 844424930131988) × (reservation_code unreserved ≡ 0)
codes = (refl, refl)

abbrev list : List ℕ
list = bytes "     4     8     0\n"

abbrev sheet : List ℕ
sheet = bytes "    20     1\n     1     2     1     2\n"

-- one table set aside for net 20
abbrev one : Reservation
one = record { count = 1; net = 20 }

-- ---- refused

no_list : ReservedOnList [] unreserved sheet 2031616
unfolding read_list bind ◌>>=◌ given
no_list = refl

-- 35 with one open
open_already : ReservedOnList list one sheet 2293760
unfolding read_list bind ◌>>=◌ require given Reserve sound blanks
open_already = (_, refl, refl)

-- 36 with none open, before the text is read
none_open : CommittedToList list unreserved [] (7 ∷ []) 2359296 (7 ∷ []) × WithdrawnFromList list unreserved 2359296
unfolding read_list bind ◌>>=◌ require given Commit withdrawn sound blanks
none_open = ((_, refl, (refl, refl)), (_, refl, refl))

-- 20: nine set aside of eight, one of the two numbers zero, a net above 9999
not_sound : WithdrawnFromList list (record { count = 9; net = 20 }) 1310720
    × WithdrawnFromList list (record { count = 0; net = 20 }) 1310720
    × WithdrawnFromList list (record { count = 1; net = 0 }) 1310720
    × WithdrawnFromList list (record { count = 1; net = 10000 }) 1310720
unfolding read_list bind ◌>>=◌ require given withdrawn sound blanks
not_sound = ((_, refl, refl), (_, refl, refl), (_, refl, refl), (_, refl, refl))

-- the sheet's own: 1 at its line 1
unread : Add least (empty 4 8) [] (empty 4 8) (refused 1 1)
unfolding Add read_of ◌>>=◌ require given sound blanks
unread = (refl, refl)

no_sheet_lem : CommittedToList list one [] (7 ∷ []) 65537 (7 ∷ [])
unfolding read_list bind ◌>>=◌ require given Commit read_of sound blanks
no_sheet_lem = (_, stop unread, (refl, refl))

-- 36 for the output net 20 where 21 is reserved
another_net : CommittedToList list (record { count = 1; net = 21 }) sheet (7 ∷ []) 2359296 (7 ∷ [])
unfolding read_list bind ◌>>=◌ require given Commit read_of sound blanks
another_net = (_, refl, (refl, refl))

-- ---- accepted

withdrawn_one : WithdrawnFromList list one 0
unfolding read_list bind ◌>>=◌ require given withdrawn sound blanks
withdrawn_one = (_, refl, refl)

abbrev circuit : Circuit
circuit = record { tree = gate and (edge false (leaf 1) (edge false (leaf 2) none)); out = 20; inverted = false }

cover : CoverOf 4 circuit.tree (top 1 and (old false (net 1) (old false (net 2) end)))
cover = record { split = split (match here same (match here same done)); root = rooted; fits = omega arith }

one_table : (c : Cover) → Rooted c → 1 ≤ tables c
one_table c (rooted {fs = fs}) = omega arith

fewest : Least 4 circuit.tree 1
fewest = record { some = (_, cover, refl); none_fewer = λ c h. one_table c h.root }

abbrev new : List LookupTable
new = record { drives = 20; inputs = 1 ∷ 2 ∷ []; truth = 8 } ∷ []

chosen : LeastCoverTables code_base 4 [] new circuit
chosen = record {
  added = record {
    cover = _;
    covers = cover;
    taken = permuted_refl _;
    earlier = every_cons (every_cons (omega arith) (every_cons (omega arith) (every_none _))) (every_none _);
    last = refl;
  };
  fewest = fewest;
}

sheet_read : read_of sheet ≡ passed circuit
unfolding read_of ◌>>=◌ require given
sheet_read = refl

added : Add least (empty 4 8) sheet (extended (empty 4 8) new) accepted
unfolding Add sound blanks
added = rw sheet_read (1, fewest, record { new = new; chosen = chosen; part = refl; answer = refl })

-- 2^48 for one table, and the net
reserved_one : ReservedOnList list unreserved sheet 281474976710676
unfolding read_list bind ◌>>=◌ require given Reserve sound blanks
reserved_one = (_, (((_, added), record { sheet = circuit; read = sheet_read; count = 1; number = fewest; part = refl }), refl), refl)

-- the new list, in front of a buffer with one byte more
committed_one : CommittedToList list one sheet (replicate 72 7) 71
    (bytes "     4     8     1\n     1    20     2     1     2                    8\n" ++ 7 ∷ [])
unfolding read_list bind ◌>>=◌ require given Commit read_of sound blanks
committed_one = (_, next added all, (refl, refl))
