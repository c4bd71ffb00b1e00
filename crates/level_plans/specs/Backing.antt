-- Reading a plan back from the arrays of a search: what each function takes and gives. Internal definitions.
use Rattle.std.specs.Prelude.{ℕ, suc, ◌+◌, ◌-◌, ◌*◌, ◌^◌, ◌≤◌, ◌<◌, ◌≡◌, ◌≢◌, Bool, true, false, Option, Some, None, List, length, get_or, set}
use Rattle.plan.specs.declared.Token.{Token}
use Rattle.plan.specs.declared.Token.TheVariants.{Push as push}
use Rattle.plan.specs.Limits.{masks}
use Rattle.plan.specs.Masks.{MaskWithin}
use Rattle.plan.specs.Steps.{stepped}
use Rattle.level_arrays.specs.declared.Draft.{Draft}
use Rattle.level_arrays.specs.Arrays.{big, entry_at, Searchable, Searched, Falling, ReadsBack, DraftRoom, Drafted}

-- the bytes of all arrays, and of one
abbrev pub arrays_room : ℕ
arrays_room = 90112

abbrev pub array_room : ℕ
array_room = 8192

-- b is the highest bit of s
pub record HighestBit (s b : ℕ) : Type 0 where
  pub bit : ℕ
  pub is : b ≡ 2 ^ bit
  pub within : (b ≤ s) × (s < b + b)

-- two rows at x and y, of which entries are asked for w inputs in all
pub record RowPair (a : List ℕ) (w x y : ℕ) : Type 0 where
  pub room : length a ≡ arrays_room
  pub inputs : w < 8
  pub places : (x + 8 ≤ arrays_room) × (y + 8 ≤ arrays_room)

-- the sum of the entries for i inputs at x and for the other inputs at y
abbrev pub row_sum : List ℕ → (w x y i : ℕ) → ℕ
row_sum a w x y i = get_or a (x + i) big + get_or a (y + (w - i)) big

-- that sum is e; or no such sum is e
abbrev pub InputsOf : List ℕ → (w e x y : ℕ) → Option ℕ → Type 0
InputsOf a w e x y (Some i) = (0 < i) × (i < w) × (row_sum a w x y i ≡ e)
InputsOf a w e x y None = (j : ℕ) → 0 < j → j < w → row_sum a w x y j ≢ e

-- the entry for w inputs at the mask top + r is the sum of those for i inputs at the mask without a submask u of r, and for the other inputs at u
pub record SumOf (a : List ℕ) (at top r w u i : ℕ) : Type 0 where
  pub some : 0 < u
  pub part : MaskWithin u r
  pub inputs : (0 < i) × (i < w)
  pub is : entry_at a at (top + r) w ≡ entry_at a at (top + r - u) i + entry_at a at u (w - i)

-- it is such a sum
pub record Halvable (a : List ℕ) (at top r w : ℕ) : Type 0 where
  pub room : length a ≡ arrays_room
  pub place : at + array_room ≤ arrays_room
  pub mask : top + r < masks
  pub inputs : w < 8
  pub sub : ℕ
  pub first : ℕ
  pub sum : SumOf a at top r w sub first

-- there is an entry for w inputs at the mask s in the i-th array, which is not the first
pub record Seekable (K : ℕ) (a : List ℕ) (i s w : ℕ) : Type 0 where
  pub room : length a ≡ arrays_room
  pub table : K ≤ 6
  pub slot : (1 ≤ i) × (i ≤ 10)
  pub mask : s < masks
  pub some : entry_at a (i * array_room) s w < big
  pub inputs : (1 ≤ w) × (w ≤ K)

-- what holds it is placed, and it is one more than the entry for v inputs in the array before, the j-th; or it is that entry itself
abbrev pub TakenFrom : List ℕ → (i s w j v : ℕ) → Bool → Type 0
TakenFrom a i s w j v true = (suc j ≡ i) × (suc (entry_at a (j * array_room) s v) ≡ entry_at a (i * array_room) s w)
TakenFrom a i s w j v false = (j ≡ i) × (v ≡ w)

pub record Sought (K : ℕ) (a : List ℕ) (i s w j v : ℕ) (placed : Bool) : Type 0 where
  pub kept : ReadsBack K a j s v
  pub from : TakenFrom a i s w j v placed

-- a draft with one step more
abbrev pub draft_stepped : Draft → Token → Draft
draft_stepped d t = record { plan = stepped d.plan t; bounds = d.bounds; inputs = d.inputs }

-- with fanin h taken, which is to give w inputs at a bound
abbrev pub draft_taken : Draft → (h bound w : ℕ) → Draft
draft_taken d h bound w = record { plan = stepped d.plan (push h); bounds = set d.bounds h bound; inputs = set d.inputs h w }

abbrev pub DraftTook : (s bound w : ℕ) → Draft → Draft → Type 0
DraftTook s bound w d e = (h : ℕ) × (2 ^ h ≡ s) × (e ≡ draft_taken d h bound w)

-- arrays from which a plan can be read back: those of a search, in which no entry for K inputs rises with the bound. The first has no entry where there
-- is no bound before
pub record Backing (K n from top : ℕ) (a : List ℕ) : Type 0 where
  pub some : Searchable K n
  pub few : top ≤ 10
  pub low : from ≤ 3000
  pub room : length a ≡ arrays_room
  pub rows : ℕ → ℕ → ℕ → ℕ
  pub searched : Searched K n from top rows (λ i. a) (λ i. i * array_room)
  pub nothing : (h w : ℕ) → h < n → w ≤ K → from ≡ 0 → entry_at a 0 (2 ^ h) w ≡ big
  pub falling : Falling K n top a

-- the entry for w inputs at the mask s in the i-th array can be read back, and there is room for its plan
pub record Backed (K n from top : ℕ) (a : List ℕ) (i s w : ℕ) (d : Draft) : Type 0 where
  pub arrays : Backing K n from top a
  pub mask : (0 < s) × (s < 2 ^ n)
  pub slot : i ≤ top
  pub kept : ReadsBack K a i s w
  pub room : DraftRoom n s d

-- with some number of fanins and of arrays
abbrev pub SomeBacked : (K from : ℕ) → List ℕ → (i s w : ℕ) → Draft → Type 0
SomeBacked K from a i s w d = (n : ℕ) × (top : ℕ) × Backed K n from top a i s w d

-- e is d with its plan added, however many fanins and arrays there are
abbrev pub Drafts : (K from : ℕ) → List ℕ → (i s w : ℕ) → Draft → Draft → Type 0
Drafts K from a i s w d e = (n top : ℕ) → Backed K n from top a i s w d → Drafted K n from top a i s w d e
