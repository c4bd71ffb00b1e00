-- The arrays that the search for one gate fills, indexed by masks: tables below, inputs, the submask that a mask is split by,
-- and the sum of the selected fanins' volumes. Internal definitions: the laws are in EntryLaws.
use Rattle.std.specs.Prelude.{ℕ, ◌+◌, ◌-◌, ◌^◌, ◌≤◌, ◌<◌, ◌≡◌, List, length, get_or, take}
use Rattle.lists.specs.Trusted.Lists.{Every, sum}
use Rattle.plan.specs.declared.Key.{Key}
use Rattle.plan.specs.Key.{key, leaf_key, ◌≼◌, join}
use Rattle.tree.specs.Trusted.Limits.{fewest_fanins, most_fanins}
use Rattle.plan.specs.Limits.{least_inputs, most_inputs, most_gate_leaves, masks}
use Rattle.plan.specs.Masks.{select, MaskWithin}
use Rattle.plan.specs.Reach.{LeastReach}
use Rattle.plan.specs.Volume.{volume, fewest_leaves}

-- the key at a mask
abbrev pub entry : List ℕ → List ℕ → ℕ → Key
entry bs ws s = key (get_or bs s 0) (get_or ws s 0)

-- a key of at least one input and at most K
pub record Small (K : ℕ) (a : Key) : Type 0 where
  pub some : 1 ≤ a.width
  pub most : a.width ≤ K

-- there are no more leaves under two keys than under a gate
abbrev pub FewUnder : Key → Key → Type 0
FewUnder a b = fewest_leaves a + fewest_leaves b ≤ most_gate_leaves

-- two such keys, and a table of 2 to 6 inputs
pub record Joinable (K : ℕ) (a b : Key) : Type 0 where
  pub table : (least_inputs ≤ K) × (K ≤ most_inputs)
  pub left : Small K a
  pub right : Small K b
  pub few : FewUnder a b

-- at two masks
pub record JoinableAt (K : ℕ) (bs ws : List ℕ) (x y : ℕ) : Type 0 where
  pub places : (x < masks) × (y < masks)
  pub keys : Joinable K (entry bs ws x) (entry bs ws y)

-- a small key, or a join of two
pub record Joined (K : ℕ) (a : Key) : Type 0 where
  pub table : (least_inputs ≤ K) × (K ≤ most_inputs)
  pub most : a.width ≤ K

-- at each mask below n
abbrev pub Smalls : ℕ → List ℕ → List ℕ → ℕ → Type 0
Smalls K bs ws n = (s : ℕ) → 0 < s → s < n → Small K (entry bs ws s)

-- a mask of two bits or more: its highest, and r below it; with keys at all smaller masks, of which those at a submask of r and at
-- the rest have few leaves, and no join of two such has a volume below `least`
pub record Split (K top r least : ℕ) (bs ws : List ℕ) : Type 0 where
  pub table : (least_inputs ≤ K) × (K ≤ most_inputs)
  pub some : 0 < r
  pub below : r < top
  pub within : top + r < masks
  pub keys : Smalls K bs ws (top + r)
  pub few : (v : ℕ) → 0 < v → MaskWithin v r → FewUnder (entry bs ws (top + r - v)) (entry bs ws v)
  pub bound : (v : ℕ) → 0 < v → MaskWithin v r → least ≤ volume K (join K (entry bs ws (top + r - v)) (entry bs ws v))

-- `a` is the join of the keys at u, a submask of r, and at the rest of top + r
pub record Made (K : ℕ) (bs ws : List ℕ) (top r : ℕ) (a : Key) (u : ℕ) : Type 0 where
  pub some : 0 < u
  pub part : MaskWithin u r
  pub is : a ≡ join K (entry bs ws (top + r - u)) (entry bs ws u)

-- and no such join is better
pub record BestJoin (K : ℕ) (bs ws : List ℕ) (top r : ℕ) (a : Key) (u : ℕ) : Type 0 where
  pub made : Made K bs ws top r a u
  pub low : (v : ℕ) → 0 < v → MaskWithin v r → a ≼ join K (entry bs ws (top + r - v)) (entry bs ws v)

-- `a` and `u` are right for the mask s: the key is the least that the selected keys reach; where u is 0 it is a single fanin's,
-- and else the join of those at the submask u and at the rest
pub record Entered (K : ℕ) (ks : List Key) (bs ws : List ℕ) (s : ℕ) (a : Key) (u : ℕ) : Type 0 where
  pub least : LeastReach K (select s ks) a
  pub alone : u ≡ 0 → (h : ℕ) × (h < length ks) × (s ≡ 2 ^ h) × (a ≡ get_or ks h leaf_key)
  pub apart : 0 < u → MaskWithin u s × (u < s) × (a ≡ join K (entry bs ws (s - u)) (entry bs ws u))

-- so at each mask below n
pub record Entries (K : ℕ) (ks : List Key) (bs ws us : List ℕ) (n : ℕ) : Type 0 where
  pub at : (s : ℕ) → 0 < s → s < n → Entered K ks bs ws s (entry bs ws s) (get_or us s 0)

-- the volume at each mask below n is the sum of the selected keys' volumes
pub record Volumes (K : ℕ) (ks : List Key) (vs : List ℕ) (n : ℕ) : Type 0 where
  pub at : (s : ℕ) → 0 < s → s < n → get_or vs s 0 ≡ sum (volume K) (select s ks)

-- there are no more leaves under the fanins with these keys than under a gate
abbrev pub FewLeaves : List Key → Type 0
FewLeaves ks = sum fewest_leaves ks ≤ most_gate_leaves

-- what can be searched: the keys of from 2 to 10 fanins
pub record GoodKeys (K : ℕ) (ks : List Key) : Type 0 where
  pub table : (least_inputs ≤ K) × (K ≤ most_inputs)
  pub count : (fewest_fanins ≤ length ks) × (length ks ≤ most_fanins)
  pub keys : Every (Small K) ks
  pub few : FewLeaves ks

-- and the arrays for it: one place for each mask of ten fanins
pub record Fillable (K count : ℕ) (keys : List Key) (bs ws us vs : List ℕ) : Type 0 where
  pub good : GoodKeys K (take count keys)
  pub size : length (take count keys) ≡ count
  pub rooms : (length bs ≡ masks) × (length ws ≡ masks) × (length us ≡ masks) × (length vs ≡ masks)

-- a mask of one bit of at most ten
abbrev pub OneBit : ℕ → Type 0
OneBit s = (h : ℕ) × (h < most_fanins) × (s ≡ 2 ^ h)
