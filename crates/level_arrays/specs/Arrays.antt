-- The arrays of the search for one gate: what stands in one at one bound, what its fanins bring, what is kept of a gate, and what a plan that is
-- read back from them meets. Internal definitions: the laws are in ArrayLaws.
use Rattle.std.specs.Prelude.{ℕ, suc, ◌+◌, ◌-◌, ◌*◌, ◌^◌, ◌≤◌, ◌<◌, min, ◌≡◌, ◌⊎◌, ◌≢◌, Bool, true, false, ◌&&◌, List, [], ◌∷◌, ◌++◌, map, length, get_or}
use Rattle.lists.specs.Trusted.Lists.{◌∈◌}
use Rattle.lists.specs.Sequences.{upto}
use Rattle.cover.specs.Trusted.Cover.{pick}
use Rattle.plan.specs.declared.Token.{Token}
use Rattle.plan.specs.declared.Token.TheVariants.{Push as push, Join as join}
use Rattle.plan.specs.Limits.{most_steps}
use Rattle.plan.specs.Masks.{select}
use Rattle.plan.specs.Steps.{tokens}
use Rattle.levels.specs.Groups.{LevelCell}
use Rattle.levels.specs.Lines.{look}
use Rattle.levels.specs.Demands.{Demand, demand, MaskMeets}
use Rattle.level_arrays.specs.declared.Fans.{Fans}
use Rattle.level_arrays.specs.declared.Draft.{Draft}

-- where a group cannot give so many inputs
abbrev pub big : ℕ
big = 255

-- a table has from 2 to 6 inputs, and a gate from 2 to 10 fanins
pub record Searchable (K n : ℕ) : Type 0 where
  pub table : (2 ≤ K) × (K ≤ 6)
  pub fanins : (2 ≤ n) × (n ≤ 10)

-- ---- one array: the entry for w inputs at the mask s, in the array that starts at a place

abbrev pub entry_at : List ℕ → (at s w : ℕ) → ℕ
entry_at a at s w = get_or a (at + s * 8 + w) big

-- the array of one bound, filled at each mask below m: a single fanin has its row, and a mask of more bits the least of its entry of a table of
-- its own and of the sums of two entries. `rows h w` is the fanin's entry, and `own s` that of a table of its own
pub record ArrayFilled (K n : ℕ) (rows : ℕ → ℕ → ℕ) (own : ℕ → ℕ) (a : List ℕ) (at m : ℕ) : Type 0 where
  pub one : (h w : ℕ) → h < n → 2 ^ h < m → w ≤ K → entry_at a at (2 ^ h) w ≡ rows h w
  pub none : (h r : ℕ) → h < n → 0 < r → r < 2 ^ h → 2 ^ h + r < m → entry_at a at (2 ^ h + r) 0 ≡ big
  pub more : (h r w : ℕ) → h < n → 0 < r → r < 2 ^ h → 2 ^ h + r < m → 1 ≤ w → w ≤ K →
      LevelCell big (entry_at a at) (2 ^ h) r w (own (2 ^ h + r)) (entry_at a at (2 ^ h + r) w)

-- the entries of a table of its own, from the array of the bound before
abbrev pub own_above : ℕ → List ℕ → ℕ → ℕ → ℕ
own_above K a at s = min big (suc (entry_at a at s K))

-- ---- what fanins bring: their rows at a bound

-- the line j of gate g, counted from 0, in the store: its entry for w inputs, from 1
abbrev pub line_at : List ℕ → (g j w : ℕ) → ℕ
line_at store g j w = pick w big (get_or store ((g * 256 + j) * 6 + (w - 1)) big)

-- the lines of fanin h: of a net, which has one, and of a gate
abbrev pub fan_line : List ℕ → Fans → ℕ → ℕ → ℕ → ℕ
fan_line store f h j w = pick (get_or f.lines h 0) (pick w big 0) (line_at store (get_or f.gates h 0) j w)

-- its entry for w inputs at the bound ℓ
abbrev pub fan_row : List ℕ → Fans → (ℓ h w : ℕ) → ℕ
fan_row store f ℓ h w = look big (get_or f.levels h 0) (get_or f.lines h 0 - 1) (fan_line store f h) ℓ w

-- the fanins of gate g: two to ten, each a net or a gate before it that has lines, of levels that are not high
pub record FansGood (K g : ℕ) (f : Fans) : Type 0 where
  pub some : Searchable K f.count
  pub rooms : (length f.levels ≡ 10) × (length f.lines ≡ 10) × (length f.gates ≡ 10)
  pub before : (h : ℕ) → h < f.count → 0 < get_or f.lines h 0 → get_or f.gates h 0 < g
  pub few : (h : ℕ) → h < f.count → get_or f.lines h 0 ≤ 256
  pub low : (h : ℕ) → h < f.count → get_or f.levels h 0 ≤ 2000

-- ---- a search over bounds, from one on: `a i` at `at i` is the array of the bound from + i - 1, for i from 1 to `top`. Before it stands one that has
-- no entry for a group of fanins
pub record Searched (K n from top : ℕ) (rows : ℕ → ℕ → ℕ → ℕ) (a : ℕ → List ℕ) (at : ℕ → ℕ) : Type 0 where
  pub first : (h r : ℕ) → h < n → 0 < r → r < 2 ^ h → entry_at (a 0) (at 0) (2 ^ h + r) K ≡ big
  pub next : (i : ℕ) → i < top → ArrayFilled K n (rows (from + i)) (own_above K (a i) (at i)) (a (suc i)) (at (suc i)) (2 ^ n)

-- the greatest level of a net under the fanins
pub record GreatestFan (f : Fans) (a : ℕ) : Type 0 where
  pub within : (h : ℕ) → h < f.count → get_or f.levels h 0 ≤ a
  pub met : (h : ℕ) × (h < f.count) × (get_or f.levels h 0 ≡ a)

-- the bound at which a search that is to be right from the bound ℓ on starts
abbrev pub start_at : (n ℓ : ℕ) → ℕ
start_at n ℓ = ℓ - (n - 1)

-- the last array, which has an entry for one input, is the one before it, `earlier`, and the fanins' lines do not change any more
pub record SearchStill (K : ℕ) (f : Fans) (a count : ℕ) (earlier array : List ℕ) : Type 0 where
  pub two : 2 ≤ count
  pub one : entry_at array 0 (2 ^ f.count - 1) 1 < big
  pub fans : (h : ℕ) → h < f.count → get_or f.levels h 0 + (get_or f.lines h 0 - 1) ≤ a + (count - 2)
  pub same : (s w : ℕ) → s < 2 ^ f.count → w ≤ K → entry_at array 0 s w ≡ entry_at earlier 0 s w

-- THE LINES OF A GATE with those fanins, by some search: `a` is the greatest level, `count` how many lines there are. The last is that of a bound that is
-- as far above the greatest level as the entry for one input, or that of a bound at which the search stands still, or the last that there is room for
pub record LinesKept (K g : ℕ) (f : Fans) (store store' : List ℕ) (a count : ℕ) : Type 0 where
  pub greatest : GreatestFan f a
  pub arrays : ℕ → List ℕ
  pub searched : Searched K f.count (start_at f.count a) (a - start_at f.count a + count) (fan_row store f) arrays (λ i. 0)
  pub kept : (j w : ℕ) → j < count → 1 ≤ w → w ≤ K → line_at store' g j w ≡ entry_at (arrays (suc (a - start_at f.count a + j))) 0 (2 ^ f.count - 1) w
  pub some : (1 ≤ count) × (count ≤ 256)
  pub last : (line_at store' g (count - 1) 1 ≤ count - 1)
      ⊎ ((count ≡ 256) ⊎ SearchStill K f a count (arrays (a - start_at f.count a + count - 1)) (arrays (a - start_at f.count a + count)))
  pub before : (i : ℕ) → i < g * 1536 → get_or store' i big ≡ get_or store i big
  pub room : length store' ≡ length store

-- ---- reading a plan back

-- the arrays of the search for a gate that is to give w inputs at most, none of a level above ℓ, one after the other in one run: that of the bound
-- from + i - 1 is the i-th, and in the one before the first a single fanin has its row of the bound before `from`
pub record Ranged (K n from top : ℕ) (rows : ℕ → ℕ → ℕ → ℕ) (a : List ℕ) : Type 0 where
  pub searched : Searched K n from top rows (λ i. a) (λ i. i * 8192)
  pub zeroth : (h w p : ℕ) → h < n → w ≤ K → suc p ≡ from → entry_at a 0 (2 ^ h) w ≡ rows p h w
  pub nothing : (h w : ℕ) → h < n → w ≤ K → from ≡ 0 → entry_at a 0 (2 ^ h) w ≡ big

-- no entry for K inputs rises with the bound
abbrev pub Falling : (K n top : ℕ) → List ℕ → Type 0
Falling K n top a = (i s : ℕ) → i < top → 0 < s → s < 2 ^ n → entry_at a (suc i * 8192) s K ≤ entry_at a (i * 8192) s K

-- the entry for w inputs at the mask s in the i-th array can be read back where what holds it is not placed: there is one, and w is K or it is
-- not that of a table of its own
pub record ReadsBack (K : ℕ) (a : List ℕ) (i s w : ℕ) : Type 0 where
  pub some : entry_at a (i * 8192) s w < big
  pub inputs : (1 ≤ w) × (w ≤ K)
  pub held : (w ≡ K) ⊎ ((p : ℕ) × (suc p ≡ i) × (entry_at a (i * 8192) s w ≢ own_above K a (p * 8192) s))

-- the demand of a fanin in a draft: its bound is that of the array from which its entry is
abbrev pub draft_demand : (from : ℕ) → List ℕ → Draft → ℕ → Demand
draft_demand from a d h =
    demand (get_or d.bounds h 0) (get_or d.inputs h 0) (entry_at a ((get_or d.bounds h 0 + 1 - from) * 8192) (2 ^ h) (get_or d.inputs h 0))

abbrev pub draft_demands : (n from : ℕ) → List ℕ → Draft → List Demand
draft_demands n from a d = map (draft_demand from a d) (upto n)

-- the fanins at the mask s
abbrev pub AtMask : (n s : ℕ) → ℕ → Type 0
AtMask n s h = h ∈ select s (upto n)

-- a draft with room for the steps of the mask s
pub record DraftRoom (n s : ℕ) (d : Draft) : Type 0 where
  pub steps : length d.plan.steps ≡ most_steps
  pub rooms : (length d.bounds ≡ 10) × (length d.inputs ≡ 10)
  pub room : d.plan.len + 2 * length (select s (upto n)) ≤ most_steps + 1

-- no net is placed: `net` says which fanins are nets, and the list which of the operands are, the last one first
abbrev pub PlacesGates : (ℕ → Bool) → List Token → List Bool → Type 0
PlacesGates net [] st = Unit {0}
PlacesGates net (push i ∷ p) st = PlacesGates net p (net i ∷ st)
PlacesGates net (join l r ∷ p) [] = ⊥
PlacesGates net (join l r ∷ p) (y ∷ []) = ⊥
PlacesGates net (join l r ∷ p) (y ∷ x ∷ st) = ((l && x) ≡ false) × ((r && y) ≡ false) × PlacesGates net p (false ∷ st)

-- the entries of a fanin that is a net are 0, or there is none
abbrev pub NetEntries : (K n top : ℕ) → (ℕ → Bool) → List ℕ → Type 0
NetEntries K n top net a =
    (h i w : ℕ) → h < n → net h ≡ true → i ≤ top → 1 ≤ w → w ≤ K → (entry_at a (i * 8192) (2 ^ h) w ≡ 0) ⊎ (entry_at a (i * 8192) (2 ^ h) w ≡ big)

-- the tokens of the mask s place no net, and leave one operand, which is a net only where s is the mask of one
pub record PlacesNone (n s : ℕ) (net : ℕ → Bool) (added : List Token) : Type 0 where
  pub left : Bool
  pub single : left ≡ true → (h : ℕ) × (h < n) × (s ≡ 2 ^ h) × (net h ≡ true)
  pub places : (rest : List Token) (st : List Bool) → PlacesGates net rest (left ∷ st) → PlacesGates net (added ++ rest) st

-- THE PLAN OF A MASK: e is d with a plan for the mask s added, which meets the demand for w inputs at the i-th array's bound; each fanin of the mask has
-- its demand, which can be read back, and those of the other fanins are as they were
pub record Drafted (K n from top : ℕ) (a : List ℕ) (i s w : ℕ) (d e : Draft) : Type 0 where
  pub added : List Token
  pub planned : MaskMeets K (draft_demands n from a e) s added (demand (from + i - 1) w (entry_at a (i * 8192) s w))
  pub is : tokens e.plan ≡ tokens d.plan ++ added
  -- a placed operand has an entry of 1 or more, so it is no net
  pub places : (net : ℕ → Bool) → NetEntries K n top net a → PlacesNone n s net added
  pub len : e.plan.len ≡ d.plan.len + length added
  pub few : length added + 1 ≡ 2 * length (select s (upto n))
  pub steps : length e.plan.steps ≡ most_steps
  pub rooms : (length e.bounds ≡ 10) × (length e.inputs ≡ 10)
  pub others : (h : ℕ) → h < n → ¬ (AtMask n s h) → (get_or e.bounds h 0 ≡ get_or d.bounds h 0) × (get_or e.inputs h 0 ≡ get_or d.inputs h 0)
  pub demands : (h : ℕ) → AtMask n s h →
      (from ≤ get_or e.bounds h 0 + 1) × (get_or e.bounds h 0 + 1 ≤ from + top) × ReadsBack K a (get_or e.bounds h 0 + 1 - from) (2 ^ h) (get_or e.inputs h 0)
