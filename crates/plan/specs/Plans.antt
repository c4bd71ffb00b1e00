-- Plans: how a search says in which order a gate's fanins are joined, two at a time, and which of them are placed in tables of
-- their own (01: chosen); the run of a plan, which makes the fanins of the split gate; and what those are. Internal definitions.
use Rattle.std.specs.Prelude.{ℕ, ◌≤◌, ◌<◌, ◌≡◌, Bool, true, false, List, [], ◌∷◌, ◌++◌, length, get_or}
use Rattle.lists.specs.Trusted.Lists.{Permuted}
use Rattle.tree.specs.Trusted.Tree.{Node, Edges, none, edge}
use Rattle.cover.specs.Trusted.Cover.{Cover, net, top, Fanins, end, old, new, arity, frontier, tables, tables*, width, widths, Fits, Fits*, SplitOf, Matched}
-- keys and tokens are those of the code
use Rattle.plan.specs.declared.Key.{Key}
use Rattle.plan.specs.declared.Token.{Token}
use Rattle.plan.specs.declared.Token.TheVariants.{Push as push, Join as join}
use Rattle.plan.specs.Key.{leaf_key, KeyJoined}
use Rattle.cover.specs.Trusted.Placed.{root_number}

-- ---- what a plan gives: its key

-- the plan joins the fanins whose numbers are listed, in that order; `ks` are the fanins' keys
pub data Denotes (K : ℕ) (ks : List Key) : List Token → List ℕ → Key → Type 0 where
  fanin : (i : ℕ) → i < length ks → Denotes K ks (push i ∷ []) (i ∷ []) (get_or ks i leaf_key)
  binary : {p q : List Token} {ms ns : List ℕ} {a b k : Key} {l r : Bool} →
      Denotes K ks p ms a → Denotes K ks q ns b → KeyJoined K l r a b k → Denotes K ks (p ++ (q ++ (join l r ∷ []))) (ms ++ ns) k

-- the plan joins the fanins whose numbers are `ns`, each once, in any order
pub record Planned (K : ℕ) (ks : List Key) (ns : List ℕ) (p : List Token) (k : Key) : Type 0 where
  pub order : List ℕ
  pub denotes : Denotes K ks p order k
  pub once : Permuted order ns

-- ---- its run

-- what stands on the stack, not placed: a fanin, inverted or not, with its cover; or a new gate
pub data Fragment : Type 0 where
  drawn : Bool × Cover → Fragment
  made : Fanins → Fragment

-- the cover with the mark m at its root, if that is a gate
abbrev pub marked : ℕ → Cover → Cover
marked m (net n) = net n
marked m (top x k fs) = top m k fs

-- the fragment, with the mark m, put before the fanins `fs`
abbrev pub place_fragment : ℕ → Fragment → Fanins → Fanins
place_fragment m (drawn q) fs = old q.0 (marked m q.1) fs
place_fragment m (made s) fs = new m s fs

-- the mark m says what the flag says
abbrev pub PlanSays : Bool → ℕ → Type 0
PlanSays false m = m ≡ 0
PlanSays true m = 0 < m

-- the plan turns the first stack into the second, with any numbers for what is placed; `ds` are the fanins
pub data Runs (ds : List (Bool × Cover)) : List Token → List Fragment → List Fragment → Type 0 where
  stop : {st : List Fragment} → Runs ds [] st st
  pushed : {i : ℕ} {p : List Token} {st st' : List Fragment} →
      Runs ds p (drawn (get_or ds i (false, net 0)) ∷ st) st' → Runs ds (push i ∷ p) st st'
  joined : {l r : Bool} {p : List Token} {x y : Fragment} {st st' : List Fragment} (m n : ℕ) → PlanSays l m → PlanSays r n →
      Runs ds p (made (place_fragment m x (place_fragment n y end)) ∷ st) st' → Runs ds (join l r ∷ p) (y ∷ x ∷ st) st'

-- ---- what a run makes

-- a cover of the tree with the key k, its root not placed
pub record Standing (K : ℕ) (t : Node) (k : Key) (c : Cover) : Type 0 where
  pub splits : SplitOf t c
  pub free : root_number c ≡ 0
  pub fits : Fits c K
  pub small : width c ≤ K
  pub count : tables c ≡ k.below
  pub inputs : width c ≡ k.width

-- such covers of the fanins
pub data Ready (K : ℕ) : Edges → List (Bool × Cover) → List Key → Type 0 where
  ready_none : Ready K none [] []
  ready_edge : {i : Bool} {t : Node} {es : Edges} {c : Cover} {ds : List (Bool × Cover)} {k : Key} {ks : List Key} →
      Standing K t k c → Ready K es ds ks → Ready K (edge i t es) ((i, c) ∷ ds) (k ∷ ks)

-- the fanins, split or not, of a gate over `es` with the key k
pub record Body (K : ℕ) (es : Edges) (k : Key) (body : Fanins) : Type 0 where
  pub many : 2 ≤ arity body
  pub matched : Matched es (frontier body)
  pub fits : Fits* body K
  pub small : widths body ≤ K
  pub count : tables* body ≡ k.below
  pub inputs : widths body ≡ k.width
