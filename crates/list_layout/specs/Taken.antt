-- What the functions that read a line answer, and the numbers that a record has no room for. Internal definitions.
use Rattle.std.specs.Prelude.{ℕ, ◌+◌, ◌-◌, ◌*◌, ◌≤◌, ◌<◌, min, ◌≡◌, Bool, true, cond, ◌&&◌, List, map, eqb, length, get_or, take, drop, replicate, Option, Some, None, MatchOption}
use Rattle.std.proofs.Math.Option.{none, some}
use Rattle.lists.specs.Trusted.Tests.{within}
use Rattle.decimal.specs.Trusted.Number.{columns}
use Rattle.table.specs.Trusted.Limits.{input_room}
use Rattle.table.specs.declared.Table.{Table}
use Rattle.list_layout.specs.declared.ListTop.{ListTop}
use Rattle.list_layout.specs.declared.TableRead.{TableRead}
use Rattle.list_layout.specs.Trusted.Layout.{take_numbers, take_line_feed, take_top, take_table}

-- the record with this level
abbrev pub at_level : ℕ → Table → Table
at_level l r = record { net = r.net; count = r.count; inputs = r.inputs; truth = r.truth; level = l }

-- as a record holds it
abbrev pub narrow : ℕ → ℕ
narrow n = min n 65535

abbrev pub narrowed : Table → Table
narrowed r = record { net = narrow r.net; count = r.count; inputs = map narrow r.inputs; truth = r.truth; level = r.level }

-- the numbers of n fields from the place on, where all are laid out, with zeros after them
pub record NumbersThere (text : List ℕ) (at n : ℕ) (numbers : List ℕ) : Type 0 where
  pub same : take_numbers n (drop at text) ≡ some (take n numbers, drop (at + columns * n) text)
  pub padded : drop n numbers ≡ replicate (input_room - n) 0
  pub ends : 0 < n → at + columns * n ≤ length text

abbrev pub NumbersTaken : List ℕ → ℕ → ℕ → Option (List ℕ) → Type 0
NumbersTaken text at n r = MatchOption r (take_numbers n (drop at text) ≡ none) (NumbersThere text at n)

-- a line feed at the place
pub record LineFeedTaken (text : List ℕ) (at : ℕ) (r : Bool) : Type 0 where
  pub same : take_line_feed (drop at text) ≡ cond r (some (drop (at + 1) text)) none
  pub ends : r ≡ true → at < length text

-- line 0, where it is laid out; it has 19 bytes
pub record TopThere (text : List ℕ) (r : ListTop) : Type 0 where
  pub same : take_top text ≡ some (r.k, r.capacity, r.used, drop 19 text)
  pub ends : 19 ≤ length text

abbrev pub TopTaken : List ℕ → Option ListTop → Type 0
TopTaken text r = MatchOption r (take_top text ≡ none) (TopThere text)

-- how many inputs the first three numbers of table t's line say, where they are such a line's
abbrev pub input_count : List ℕ → ℕ → Option ℕ
input_count numbers t = cond (eqb (get_or numbers 0 0) t && within 2 input_room (get_or numbers 2 0)) (Some (get_or numbers 2 0)) None

-- the line of table t from the place on, where it is laid out
pub record TableThere (text : List ℕ) (at t : ℕ) (r : TableRead) : Type 0 where
  pub says : Table
  pub same : take_table t (drop at text) ≡ some (says, drop r.end text)
  pub held : r.table ≡ narrowed says
  pub ends : r.end ≤ length text

abbrev pub TableTaken : List ℕ → ℕ → ℕ → Option TableRead → Type 0
TableTaken text at t r = MatchOption r (take_table t (drop at text) ≡ none) (TableThere text at t)
