-- Fanins that are alike, such as nets of one level: a label for each fanin tells which are. Masks that select as many fanins of each label have the same entries, so
-- that the search finds a row once for all of them. Internal definitions: the laws are in AlikeLaws.
use Rattle.std.specs.Prelude.{ℕ, suc, ◌+◌, ◌^◌, ◌≤◌, ◌<◌, ◌≡◌, List, map, length, get_or}
use Rattle.lists.specs.Trusted.Lists.{Permuted}
use Rattle.lists.specs.Sequences.{upto}
use Rattle.cover.specs.Trusted.Cover.{pick}
use Rattle.plan.specs.Masks.{select}
use Rattle.level_arrays.specs.declared.Fans.{Fans}

abbrev pub Label : Type 0
Label = ℕ × ℕ

abbrev pub no_label : Label
no_label = (0, 0)

-- the masks s and t select as many fanins of each label
abbrev pub MasksAlike : List Label → ℕ → ℕ → Type 0
MasksAlike cs s t = Permuted (select s cs) (select t cs)

-- fanins of one label have one row
abbrev pub RowsAlike : ℕ → List Label → (ℕ → ℕ → ℕ) → Type 0
RowsAlike K cs rows = (g h w : ℕ) → g < length cs → h < length cs → w ≤ K → get_or cs g no_label ≡ get_or cs h no_label → rows g w ≡ rows h w

-- alike masks of two fanins or more have one entry of a table of its own
abbrev pub OwnsAlike : List Label → (ℕ → ℕ) → Type 0
OwnsAlike cs own =
    (h r g q : ℕ) → h < length cs → 0 < r → r < 2 ^ h → g < length cs → 0 < q → q < 2 ^ g → MasksAlike cs (2 ^ h + r) (2 ^ g + q) → own (2 ^ h + r) ≡ own (2 ^ g + q)

-- for each mask below m a mask that is alike, itself or a smaller one
pub record LikeMasks (cs : List Label) (like : List ℕ) (m : ℕ) : Type 0 where
  pub low : (s : ℕ) → 0 < s → s < m → get_or like s 0 ≤ s
  pub alike : (s : ℕ) → 0 < s → s < m → MasksAlike cs (get_or like s 0) s

-- so for the masks of n fanins, with labels that tell which fanins' rows and which masks' entries are the same
pub record Likened (K n : ℕ) (rows : ℕ → ℕ → ℕ) (own : ℕ → ℕ) (like : List ℕ) : Type 0 where
  pub labels : List Label
  pub count : length labels ≡ n
  pub rows_alike : RowsAlike K labels rows
  pub owns_alike : OwnsAlike labels own
  pub masks : LikeMasks labels like (2 ^ n)

-- ---- the labels of a gate's fanins: that of a net has its level, and that of a gate is its own

abbrev pub fan_label : Fans → ℕ → Label
fan_label f h = (pick (get_or f.lines h 0) 0 (suc h), get_or f.levels h 0)

abbrev pub fan_labels : Fans → List Label
fan_labels f = map (fan_label f) (upto f.count)
