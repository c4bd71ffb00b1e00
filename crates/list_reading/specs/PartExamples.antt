-- The definitions run on worked examples: the list printed in 01, "List", and the first bad record of some runs.
-- Each is a computation.
use Rattle.std.specs.Prelude.{ℕ, ◌-◌, ◌≡◌, refl, true, false, List, [], ◌∷◌, ◌++◌, map, length, replicate, drop}
use Rattle.table.specs.declared.Table.{Table}
use Rattle.part.specs.declared.Part.{Part}
use Rattle.table.specs.Trusted.Limits.{input_room}
use Rattle.table.specs.Trusted.Records.{table_of, records_after, blank}
use Rattle.table.specs.Trusted.RecordTest.{Verdict, none, bad, refused, tested}
use Rattle.part_records.specs.Trusted.Reservations.{unreserved}
use Rattle.part.specs.Trusted.Parts.{blanks}
use Rattle.part.specs.Trusted.SoundTest.{sound}
use Rattle.part.specs.Trusted.Add.{opened}
use Rattle.listing.specs.Trusted.Listing.{list_of}

-- a record of this level, with its unused inputs zero
abbrev made : (level : ℕ) → ℕ → List ℕ → ℕ → Table
made level n xs t = record { net = n; count = length xs; inputs = xs ++ replicate (input_room - length xs) 0; truth = t; level = level }

-- the two tables of 01's list
abbrev one : Table
one = made 1 20 (1 ∷ 2 ∷ 3 ∷ 4 ∷ []) 61152

abbrev two : Table
two = made 2 21 (5 ∷ 20 ∷ []) 11

-- the records of tables that follow the first: net 20 has level 1, so net 21 has 2 and what reads it 3
follow : records_after (map table_of (one ∷ [])) (map table_of (two ∷ made 0 22 (6 ∷ 21 ∷ []) 8 ∷ [])) ≡ two ∷ made 3 22 (6 ∷ 21 ∷ []) 8 ∷ []
follow = refl

abbrev pub part : Part
part = record { k = 4; capacity = 8; used = 2; reservation = unreserved; tables = one ∷ two ∷ drop 2 blanks }

-- its lines, byte by byte
abbrev line_0 : List ℕ
line_0 = 32 ∷ 32 ∷ 32 ∷ 32 ∷ 32 ∷ 52 ∷ 32 ∷ 32 ∷ 32 ∷ 32 ∷ 32 ∷ 56 ∷ 32 ∷ 32 ∷ 32 ∷ 32 ∷ 32 ∷ 50 ∷ 10 ∷ []

abbrev line_1 : List ℕ
line_1 =
    32 ∷ 32 ∷ 32 ∷ 32 ∷ 32 ∷ 49 ∷ 32 ∷ 32 ∷ 32 ∷ 32 ∷ 50 ∷ 48 ∷ 32 ∷ 32 ∷ 32 ∷ 32 ∷ 32 ∷ 52 ∷ 32 ∷ 32 ∷ 32 ∷ 32 ∷ 32 ∷ 49
    ∷ 32 ∷ 32 ∷ 32 ∷ 32 ∷ 32 ∷ 50 ∷ 32 ∷ 32 ∷ 32 ∷ 32 ∷ 32 ∷ 51 ∷ 32 ∷ 32 ∷ 32 ∷ 32 ∷ 32 ∷ 52 ∷ 32 ∷ 32 ∷ 32 ∷ 32 ∷ 32 ∷ 32
    ∷ 32 ∷ 32 ∷ 32 ∷ 32 ∷ 32 ∷ 32 ∷ 32 ∷ 32 ∷ 32 ∷ 32 ∷ 54 ∷ 49 ∷ 49 ∷ 53 ∷ 50 ∷ 10 ∷ []

abbrev line_2 : List ℕ
line_2 =
    32 ∷ 32 ∷ 32 ∷ 32 ∷ 32 ∷ 50 ∷ 32 ∷ 32 ∷ 32 ∷ 32 ∷ 50 ∷ 49 ∷ 32 ∷ 32 ∷ 32 ∷ 32 ∷ 32 ∷ 50 ∷ 32 ∷ 32 ∷ 32 ∷ 32 ∷ 32 ∷ 53
    ∷ 32 ∷ 32 ∷ 32 ∷ 32 ∷ 50 ∷ 48 ∷ 32 ∷ 32 ∷ 32 ∷ 32 ∷ 32 ∷ 32 ∷ 32 ∷ 32 ∷ 32 ∷ 32 ∷ 32 ∷ 32 ∷ 32 ∷ 32 ∷ 32 ∷ 32 ∷ 32 ∷ 32
    ∷ 32 ∷ 49 ∷ 49 ∷ 10 ∷ []

listed : list_of part ≡ line_0 ++ line_1 ++ line_2
listed = refl

is_sound : sound part ≡ true
unfolding sound blanks
is_sound = refl

-- the same with used 1 has a record past the used count that is not zero, and with used 3 one of zeros in use
short : sound (record { k = 4; capacity = 8; used = 1; reservation = unreserved; tables = one ∷ two ∷ drop 2 blanks }) ≡ false
unfolding sound blanks
short = refl

long : sound (record { k = 4; capacity = 8; used = 3; reservation = unreserved; tables = one ∷ two ∷ drop 2 blanks }) ≡ false
unfolding sound blanks
long = refl

opened_sound : sound (opened 6 800).part ≡ true
unfolding sound blanks
opened_sound = refl

-- runs of records with K and the capacity, and what the test says of each
abbrev runs : List ((ℕ × ℕ × List Table) × Verdict)
runs =
    -- no record
    ((4, 8, []), none) ∷
    -- 01's two tables
    ((4, 8, (one ∷ two ∷ [])), none) ∷
    -- K and the capacity out of range: 2 first
    ((1, 801, (one ∷ [])), refused 2) ∷
    ((7, 8, (one ∷ [])), refused 2) ∷
    ((4, 0, []), refused 3) ∷
    ((4, 801, []), refused 3) ∷
    -- the record after the capacity
    ((4, 1, (one ∷ two ∷ [])), bad 2) ∷
    -- u above K
    ((3, 8, (one ∷ two ∷ [])), bad 1) ∷
    -- a record of zeros
    ((4, 8, (one ∷ blank ∷ [])), bad 2) ∷
    -- one input
    ((4, 8, (made 1 9 (1 ∷ []) 1 ∷ [])), bad 1) ∷
    -- an unused input that is not zero
    ((4, 8, (record { net = 9; count = 2; inputs = 1 ∷ 2 ∷ 3 ∷ 0 ∷ 0 ∷ 0 ∷ []; truth = 8; level = 1 } ∷ [])), bad 1) ∷
    -- a net driven above 9999
    ((4, 8, (made 1 10000 (1 ∷ 2 ∷ []) 8 ∷ [])), bad 1) ∷
    -- inputs 0 and 10000
    ((4, 8, (made 1 9 (0 ∷ 2 ∷ []) 8 ∷ [])), bad 1) ∷
    ((4, 8, (made 1 9 (1 ∷ 10000 ∷ []) 8 ∷ [])), bad 1) ∷
    -- nets 1001 and 9999, and what names table 800 or none
    ((4, 8, (made 1 9999 (1001 ∷ 9998 ∷ []) 8 ∷ [])), none) ∷
    ((4, 8, (made 1 9998 (1001 ∷ 9999 ∷ []) 8 ∷ [])), none) ∷
    ((4, 8, (made 1 9 (1 ∷ 10800 ∷ []) 8 ∷ [])), bad 1) ∷
    ((4, 8, (made 1 9 (1 ∷ 10801 ∷ []) 8 ∷ [])), bad 1) ∷
    -- inputs that do not rise
    ((4, 8, (made 1 9 (2 ∷ 2 ∷ []) 8 ∷ [])), bad 1) ∷
    -- a truth table of 2^(2^u)
    ((4, 8, (made 1 9 (1 ∷ 2 ∷ []) 16 ∷ [])), bad 1) ∷
    ((4, 8, (made 1 9 (1 ∷ 2 ∷ []) 15 ∷ [])), none) ∷
    -- table 1 is read by itself; by an earlier one; by a later one
    ((4, 8, (made 1 0 (1 ∷ 10001 ∷ []) 8 ∷ [])), bad 1) ∷
    ((4, 8, (made 1 9 (1 ∷ 10002 ∷ []) 8 ∷ made 1 0 (2 ∷ 3 ∷ []) 8 ∷ [])), bad 1) ∷
    ((4, 8, (made 1 0 (2 ∷ 3 ∷ []) 8 ∷ made 2 9 (1 ∷ 10001 ∷ []) 8 ∷ [])), none) ∷
    -- a table that drives a net is read as a table
    ((4, 8, (made 1 8 (2 ∷ 3 ∷ []) 8 ∷ made 2 9 (1 ∷ 10001 ∷ []) 8 ∷ [])), bad 2) ∷
    -- a net driven twice
    ((4, 8, (one ∷ made 1 20 (6 ∷ 7 ∷ []) 8 ∷ [])), bad 2) ∷
    -- a net read and later driven is found at its driver
    ((4, 8, (made 1 21 (5 ∷ 20 ∷ []) 11 ∷ one ∷ [])), bad 2) ∷
    -- a net read by its own driver
    ((4, 8, (made 1 9 (1 ∷ 9 ∷ []) 8 ∷ [])), bad 1) ∷
    -- a level that is too low; too high; and that of a net's driver, not one more
    ((4, 8, (made 0 9 (1 ∷ 2 ∷ []) 8 ∷ [])), bad 1) ∷
    ((4, 8, (made 2 9 (1 ∷ 2 ∷ []) 8 ∷ [])), bad 1) ∷
    ((4, 8, (one ∷ made 1 21 (5 ∷ 20 ∷ []) 11 ∷ [])), bad 2) ∷
    -- a chain of nets and tables
    ((4, 8, (one ∷ made 2 0 (5 ∷ 20 ∷ []) 11 ∷ made 3 22 (6 ∷ 10002 ∷ []) 8 ∷ made 4 23 (7 ∷ 22 ∷ []) 8 ∷ [])), none) ∷
    -- one more than the greatest level, and not than the last input's
    ((4, 8, (one ∷ made 2 21 (5 ∷ 20 ∷ []) 11 ∷ made 1 0 (5 ∷ 6 ∷ []) 8 ∷ made 3 23 (21 ∷ 10003 ∷ []) 8 ∷ [])), none) ∷
    ((4, 8, (one ∷ made 2 21 (5 ∷ 20 ∷ []) 11 ∷ made 1 0 (5 ∷ 6 ∷ []) 8 ∷ made 2 23 (21 ∷ 10003 ∷ []) 8 ∷ [])), bad 4) ∷ []

abbrev results : List ((ℕ × ℕ × List Table) × Verdict) → List Verdict
results [] = []
results (x ∷ xs) = tested x.0.0 x.0.1 x.0.2 ∷ results xs

abbrev said : List ((ℕ × ℕ × List Table) × Verdict) → List Verdict
said [] = []
said (x ∷ xs) = x.1 ∷ said xs

runs_right : results runs ≡ said runs
runs_right = refl
