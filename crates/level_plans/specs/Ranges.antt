-- The arrays of the search for a gate's plan: what filling them takes and gives. Internal definitions.
use Rattle.std.specs.Prelude.{ℕ, ◌+◌, ◌-◌, ◌^◌, ◌≤◌, ◌<◌, ◌≡◌, List, length, replicate}
use Rattle.plan.specs.Key.{key}
use Rattle.plan.specs.PlanOf.{empty_plan}
use Rattle.level_arrays.specs.declared.Fans.{Fans}
use Rattle.level_arrays.specs.declared.Draft.{Draft}
use Rattle.level_arrays.specs.Arrays.{entry_at, fan_row, Searchable, FansGood, start_at, Ranged, Falling, ReadsBack, Drafted}
use Rattle.level_lines.specs.Looked.{store_room, FansStored}
use Rattle.level_plans.specs.Backing.{arrays_room}

-- the rows of the first n fanins at a bound are put into the first array, and no other row is changed
pub record SinglesPut (store : List ℕ) (f : Fans) (bound : ℕ) (a b : List ℕ) (n : ℕ) : Type 0 where
  pub is : (h w : ℕ) → h < n → w ≤ 6 → entry_at b 0 (2 ^ h) w ≡ fan_row store f bound h w
  pub others : (h r w : ℕ) → 0 < r → r < 2 ^ h → w ≤ 6 → entry_at b 0 (2 ^ h + r) w ≡ entry_at a 0 (2 ^ h + r) w
  pub room : length b ≡ length a

-- the arrays of the first `top` bounds are filled
pub record RangeFilled (K from top : ℕ) (f : Fans) (store a : List ℕ) : Type 0 where
  pub ranged : Ranged K f.count from top (fan_row store f) a
  pub room : length a ≡ arrays_room

-- none is, and the array before them is made
abbrev pub RangeStarted : ℕ → Fans → List ℕ → List ℕ → Type 0
RangeStarted from f store a = (K : ℕ) → Searchable K f.count → RangeFilled K from 0 f store a

-- `top` arrays can be filled
pub record RangeFillable (K from top : ℕ) (f : Fans) (store a : List ℕ) : Type 0 where
  pub some : Searchable K f.count
  pub fans : FansStored f
  pub room : length store ≡ store_room
  pub low : from ≤ 3000
  pub few : (1 ≤ top) × (top ≤ 10)
  pub started : RangeFilled K from 0 f store a

-- a draft of no steps
abbrev pub empty_draft : Draft
empty_draft = record { plan = empty_plan (key 0 0); bounds = replicate 10 0; inputs = replicate 10 0 }

-- how many arrays are filled: those of the bounds from which a search is right, up to the one that is asked for
abbrev pub range_of : (n bound : ℕ) → ℕ
range_of n bound = bound - start_at n bound + 1

-- the arrays for a gate that is asked for a plan
abbrev pub PlanArrays : (K : ℕ) → Fans → ℕ → List ℕ → List ℕ → Type 0
PlanArrays K f bound store a = Ranged K f.count (start_at f.count bound) (range_of f.count bound) (fan_row store f) a

-- a plan can be read back from them, whichever they are
pub record PlanAsked (K : ℕ) (f : Fans) (bound w : ℕ) (store a : List ℕ) : Type 0 where
  pub gate : ℕ
  pub sheet : gate ≤ 255
  pub good : FansGood K gate f
  pub low : bound ≤ 3000
  pub rooms : (length store ≡ store_room) × (length a ≡ arrays_room)
  pub back : (b : List ℕ) → PlanArrays K f bound store b →
      Falling K f.count (range_of f.count bound) b × ReadsBack K b (range_of f.count bound) (2 ^ f.count - 1) w

-- THE PLAN OF A GATE that is to give w inputs at most, none of a level above the bound, read back from the arrays `a`
pub record GatePlanned (K : ℕ) (f : Fans) (bound w : ℕ) (store a : List ℕ) (e : Draft) : Type 0 where
  pub ranged : PlanArrays K f bound store a
  pub room : length a ≡ arrays_room
  pub start : Draft
  pub none : start.plan.len ≡ 0
  pub drafted : Drafted K f.count (start_at f.count bound) (range_of f.count bound) a (range_of f.count bound) (2 ^ f.count - 1) w start e
