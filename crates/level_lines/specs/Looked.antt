-- What is read of the fanins' lines: what has to hold of the fanins, and the rows that come of it. Internal definitions.
use Rattle.std.specs.Prelude.{ℕ, ◌+◌, ◌*◌, ◌≤◌, ◌<◌, ◌≡◌, List, length, get_or}
use Rattle.level_arrays.specs.declared.Fans.{Fans}
use Rattle.level_arrays.specs.Arrays.{big, fan_row}

-- the places of the lines of 255 gates
abbrev pub store_room : ℕ
store_room = 391680

-- the lines of fanin h are in the store
pub record FanStored (f : Fans) (h : ℕ) : Type 0 where
  pub place : h < 10
  pub gate : 0 < get_or f.lines h 0 → get_or f.gates h 0 < 255
  pub few : get_or f.lines h 0 ≤ 256

-- so of each fanin
pub record FansStored (f : Fans) : Type 0 where
  pub count : f.count ≤ 10
  pub each : (h : ℕ) → h < f.count → FanStored f h

-- the rows of the fanins at a bound
pub record RowsLooked (store : List ℕ) (f : Fans) (bound : ℕ) (rows looked : List ℕ) : Type 0 where
  pub is : (h w : ℕ) → h < f.count → w ≤ 6 → get_or looked (h * 8 + w) big ≡ fan_row store f bound h w
  pub room : length looked ≡ length rows

-- two arrays are the same in the first n places
abbrev pub SameRows : List ℕ → List ℕ → ℕ → Type 0
SameRows x y n = (i : ℕ) → i < n → get_or y i big ≡ get_or x i big
