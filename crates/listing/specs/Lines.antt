-- What writing a line of a part's list, or the whole list, into a buffer does: the answer, and the buffer's bytes after it.
-- 01, "List", with its refusals 14, 15 and 20 in their order. Internal definitions: the laws are in LineLaws.
use Rattle.std.specs.Prelude.{ℕ, suc, ◌+◌, ◌*◌, cond, List, leb, length, get_or}
use Rattle.lists.specs.Trusted.Lists.{gather}
use Rattle.lists.specs.Sequences.{upto}
use Rattle.lists.specs.Trusted.Checked.{passed, refused}
use Rattle.table.specs.Trusted.Limits.{input_room, table_room}
use Rattle.table.specs.Trusted.Records.{blank}
use Rattle.part.specs.declared.Part.{Part}
use Rattle.part.specs.Trusted.SoundTest.{sound}
use Rattle.list_line.specs.Trusted.TableLine.{table_line}
use Rattle.listing.specs.Trusted.Listing.{line_of, list_of}
use Rattle.list_line.specs.Trusted.Writes.{WriteOutcome, pasted}

-- turned down: no byte is altered
abbrev pub turned_down : ℕ → List ℕ → WriteOutcome
turned_down number old = record { result = refused number 0; bytes = old }

-- 14 where fewer bytes are left from the place on, or the place is past the end
abbrev pub fitted : List ℕ → ℕ → List ℕ → WriteOutcome
fitted old at new = cond (leb (at + length new) (length old)) (record { result = passed (length new); bytes = pasted old at new }) (turned_down 14 old)

-- WRITING A LINE: 20, then 15, then 14
abbrev pub line_written : Part → ℕ → List ℕ → ℕ → WriteOutcome
line_written p line old at = cond (sound p) (cond (leb line p.used) (fitted old at (line_of p line)) (turned_down 15 old)) (turned_down 20 old)

-- WRITING THE LIST: 20, then 14
abbrev pub list_written : Part → List ℕ → ℕ → WriteOutcome
list_written p old at = cond (sound p) (fitted old at (list_of p)) (turned_down 20 old)

-- the lines of the first n tables, one after another
abbrev pub table_lines : Part → ℕ → List ℕ
table_lines p n = gather (λ t. table_line (suc t) (get_or p.tables t blank)) (upto n)

-- the bytes of the longest list of a sound part: line 0, and the lines of as many tables as a part has room for, each with as many inputs as
-- a record has room for (`list_short` in LineLaws)
unfoldable pub longest : ℕ
longest = 19 + (40 + 6 * input_room) * table_room
