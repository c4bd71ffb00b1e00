-- The entries of a search, computed: the array of one gate at one bound, from its fanins' lines at that bound and from the array
-- of the bound before; and the line of a tree, which has its entry for each number of inputs.
-- Internal definitions: that they are the least is in FillLaws.
use Rattle.std.specs.Prelude.{ℕ, zero, suc, ◌+◌, ◌-◌, ◌^◌, min, cond, List, [], ◌∷◌, ◌++◌, map, leb, eqb, length, get_or}
use Rattle.std.specs.Int.Bits.{bit_and}
use Rattle.lists.specs.Sequences.{upto}
use Rattle.tree.specs.Trusted.Tree.{Node, leaf, gate, Edges, none, edge}
use Rattle.cover.specs.Trusted.Cover.{pick}
use Rattle.levels.specs.Gives.{fanins}

module _ (big : ℕ) where
  -- the least of f 0 to f (n - 1), or `big`
  abbrev pub lowest : (ℕ → ℕ) → ℕ → ℕ
  lowest f zero = big
  lowest f (suc n) = min (f n) (lowest f n)

  -- the least sum of an entry of `a` and one of `b`, for w inputs in all
  unfoldable pub sum_of : (ℕ → ℕ) → (ℕ → ℕ) → ℕ → ℕ
  sum_of a b w = lowest (λ i. a (suc i) + b (w - suc i)) (w - 1)

  module _ (best : ℕ → ℕ → ℕ) (top r : ℕ) where
    -- that of the mask top + r without u, and of u, if u is a submask of r
    unfoldable pub tried : ℕ → ℕ → ℕ
    tried w u = cond (eqb (bit_and u r) u) (sum_of (best (top + r - u)) (best u) w) big

    -- the entry for w inputs at the mask top + r: q, or the least sum
    unfoldable pub cell : ℕ → ℕ → ℕ
    cell q w = min q (lowest (λ x. tried w (suc x)) r)

  -- an entry in a line, and in an array of lines
  abbrev pub at : List ℕ → ℕ → ℕ
  at xs w = get_or xs w big

  abbrev pub row_entry : List (List ℕ) → ℕ → ℕ → ℕ
  row_entry a s = at (get_or a s [])

  module _ (K : ℕ) where
    -- the line of f 1 to f K: there is no entry for no input
    abbrev pub level_line : (ℕ → ℕ) → List ℕ
    level_line f = big ∷ map (λ w. f (suc w)) (upto K)

    -- the array for the masks below `top`, with the lines of the masks from `top` to top + n - 1: `top` alone has the line `f`
    abbrev pub grow : ℕ → List ℕ → (ℕ → ℕ) → ℕ → List (List ℕ) → List (List ℕ)
    grow top f own zero a = a
    grow top f own (suc r) a =
        let b = grow top f own r a in
        b ++ (pick r f (level_line (cell (row_entry b) top r (own (top + r)))) ∷ [])

    -- ONE GATE AT ONE BOUND: the array for all sets of the first n fanins, from the fanins' lines, and for each set from the
    -- entry of a table of its own
    abbrev pub fill : List (List ℕ) → (ℕ → ℕ) → ℕ → List (List ℕ)
    fill fs own zero = [] ∷ []
    fill fs own (suc h) = grow (2 ^ h) (get_or fs h []) own (2 ^ h) (fill fs own h)

    -- the entries of a table of its own, one bound higher
    abbrev pub above : List (List ℕ) → ℕ → ℕ
    above a s = min big (suc (row_entry a s K))

    -- one gate of n fanins at each bound, from the fanins' lines at each
    abbrev pub search : (ℕ → List (List ℕ)) → ℕ → ℕ → List (List ℕ)
    search fs n zero = fill (fs zero) (λ s. big) n
    search fs n (suc ℓ) = fill (fs (suc ℓ)) (above (search fs n ℓ)) n

    module _ (lev : ℕ → ℕ) where
      -- the line of a tree at a bound
      abbrev mutual
        pub tree_line : Node → ℕ → List ℕ
        tree_line (leaf n) ℓ = level_line (λ w. cond (leb (lev n) ℓ) 0 big)
        tree_line (gate k es) ℓ = let n = length (fanins es) in get_or (search (λ m. tree_lines es m) n ℓ) (2 ^ n - 1) []

        pub tree_lines : Edges → ℕ → List (List ℕ)
        tree_lines none ℓ = []
        tree_lines (edge i t es) ℓ = tree_line t ℓ ∷ tree_lines es ℓ
