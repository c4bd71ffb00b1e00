-- The least key that a list of keys reaches, computed: `entries` has, for each part of the list, the least key that the part
-- reaches. Internal definitions: that it is so is in SubsetLaws.
use Rattle.std.specs.Prelude.{ℕ, List, [], ◌∷◌}
use Rattle.std.proofs.Math.Option.{Option, some, none, get_or}
use Rattle.plan.specs.declared.Key.{Key}
use Rattle.plan.specs.Key.{leaf_key, better, join}

-- without the first key, and with it
pub data SubsetEntries : List Key → Type 0 where
  tip : Option Key → SubsetEntries []
  fork : {k : Key} {ks : List Key} → SubsetEntries ks → SubsetEntries ks → SubsetEntries (k ∷ ks)

abbrev pub better_of : Option Key → Option Key → Option Key
better_of none b = b
better_of (some a) none = some a
better_of (some a) (some b) = some (better a b)

abbrev pub join_of : ℕ → Option Key → Option Key → Option Key
join_of K none b = none
join_of K (some a) none = none
join_of K (some a) (some b) = some (join K a b)

-- entry by entry, the better one
abbrev pub betters : {ks : List Key} → SubsetEntries ks → SubsetEntries ks → SubsetEntries ks
betters (tip a) (tip b) = tip (better_of a b)
betters (fork a b) (fork c d) = fork (betters a c) (betters b d)

-- at each part, the best join of an entry of the first table and an entry of the second that make up the part
abbrev pub joins : {ks : List Key} → ℕ → SubsetEntries ks → SubsetEntries ks → SubsetEntries ks
joins K (tip a) (tip b) = tip (join_of K a b)
joins K (fork a b) (fork c d) = fork (joins K a c) (betters (joins K b c) (joins K a d))

-- the best table `s` with `s = betters h (joins K s f)`; `f` has no entry at the empty part
abbrev pub solve : {ks : List Key} → ℕ → SubsetEntries ks → SubsetEntries ks → SubsetEntries ks
solve K (tip f) h = h
solve K (fork f g) (fork h l) = let s = solve K f h in fork s (solve K f (betters l (joins K s g)))

abbrev pub no_entries : (ks : List Key) → SubsetEntries ks
no_entries [] = tip none
no_entries (k ∷ ks) = let b = no_entries ks in fork b b

-- an entry at the empty part, and no other
abbrev pub only : (ks : List Key) → Key → SubsetEntries ks
only [] r = tip (some r)
only (k ∷ ks) r = fork (only ks r) (no_entries ks)

-- at each part, the least key that it reaches
abbrev pub entries : ℕ → (ks : List Key) → SubsetEntries ks
entries K [] = tip none
entries K (k ∷ ks) = let f = entries K ks in fork f (solve K f (only ks k))

abbrev pub full : {ks : List Key} → SubsetEntries ks → Option Key
full (tip a) = a
full (fork a b) = full b

-- the least key that a list reaches
unfoldable pub least_of : ℕ → List Key → Key
least_of K ks = get_or (full (entries K ks)) leaf_key
