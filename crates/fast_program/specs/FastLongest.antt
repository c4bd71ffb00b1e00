-- The most bytes that are printed: the longest list, and a line of 13 bytes for each of as many tables as a part has room for. Internal definitions:
-- the laws are in FastRoomLaws.
use Rattle.std.specs.Prelude.{ℕ, ◌+◌, ◌*◌}
use Rattle.table.specs.Trusted.Limits.{table_room}
use Rattle.listing.specs.Lines.{longest}

unfoldable pub fast_longest : ℕ
fast_longest = longest + 13 * table_room
