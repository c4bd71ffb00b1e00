-- What the functions on one row promise: the least of sums of two entries. Internal definitions.
use Rattle.std.specs.Prelude.{ℕ, ◌+◌, ◌-◌, ◌≤◌, ◌<◌, ◌≡◌, ◌⊎◌, List, get_or}
use Rattle.cover.specs.Trusted.Cover.{pick}
use Rattle.levels.specs.Groups.{LevelCell}
use Rattle.level_arrays.specs.Arrays.{big, entry_at}

-- `e` is the least of q and of the sums of two entries for w inputs in all, of the rows at two places, the first with fewer than m inputs
pub record LeastSum (a : List ℕ) (x y w m q e : ℕ) : Type 0 where
  pub most : e ≤ q
  pub sums : (i : ℕ) → 0 < i → i < m → e ≤ get_or a (x + i) big + get_or a (y + (w - i)) big
  pub some : (e ≡ q) ⊎ ((i : ℕ) × (0 < i) × (i < m) × (e ≡ get_or a (x + i) big + get_or a (y + (w - i)) big))

-- `row` is the row of the mask top + r, top being its highest bit, and q the entry of a table of its own
abbrev pub RowOfMask : (K : ℕ) → List ℕ → (at top r q : ℕ) → List ℕ → Type 0
RowOfMask K a at top r q row = (w : ℕ) → w ≤ K → LevelCell big (entry_at a at) top r w (pick w big q) (get_or row w big)

-- or that of the mask t, which is a smaller one
abbrev pub RowOrLike : (K : ℕ) → List ℕ → (at top r t q : ℕ) → List ℕ → Type 0
RowOrLike K a at top r t q row = ((t < top + r) × ((w : ℕ) → w ≤ K → get_or row w big ≡ entry_at a at t w)) ⊎ RowOfMask K a at top r q row
