-- Plans, as in the crate `plan`: its tokens, and its runs. Here a plan is asked to meet a demand: at most so many inputs of a level
-- within a bound, and at most so many tables below. Internal definitions: the laws are in DemandLaws and MaskDemands.
use Rattle.std.specs.Prelude.{ℕ, suc, ◌+◌, ◌≤◌, ◌<◌, ◌≡◌, Bool, true, false, List, [], ◌∷◌, ◌++◌, length, get_or}
use Rattle.lists.specs.Trusted.Lists.{Permuted}
use Rattle.lists.specs.Sequences.{Mix, upto}
use Rattle.tree.specs.declared.Kind.{Kind}
use Rattle.tree.specs.Trusted.Tree.{Node, leaf, gate, Edges, none, edge}
use Rattle.cover.specs.Trusted.Cover.{Cover, Fanins, arity, frontier, tables, tables*, width, widths, Fits, Fits*, SplitOf, Matched}
use Rattle.plan.specs.Masks.{select}
use Rattle.cover.specs.Trusted.Placed.{root_number}
use Rattle.plan.specs.declared.Token.{Token}
use Rattle.plan.specs.declared.Token.TheVariants.{Push as push, Join as join}
use Rattle.levels.specs.Trusted.Levels.{level, levels}

-- what a gate that is not placed is to give to the table that holds it
pub record Demand : Type 0 where
  pub bound : ℕ
  pub inputs : ℕ
  pub below : ℕ

abbrev pub demand : ℕ → ℕ → ℕ → Demand
demand ℓ w c = record { bound = ℓ; inputs = w; below = c }

-- the first is no more than the second
infix 40 ◌⊑◌
pub record ◌⊑◌ (a b : Demand) : Type 0 where
  pub bound : a.bound ≤ b.bound
  pub inputs : a.inputs ≤ b.inputs
  pub below : a.below ≤ b.below

-- what it gives where it is held, and where it is placed
abbrev pub taken_as : Bool → Demand → Demand
taken_as false a = a
taken_as true a = demand (suc a.bound) 1 (suc a.below)

-- ---- what a plan gives

-- two operands under one gate meet the demand d
pub record DemandJoins (K : ℕ) (a b d : Demand) : Type 0 where
  pub left : a.bound ≤ d.bound
  pub right : b.bound ≤ d.bound
  pub inputs : a.inputs + b.inputs ≤ d.inputs
  pub most : d.inputs ≤ K
  pub below : a.below + b.below ≤ d.below

-- the plan joins the fanins whose numbers are listed, in that order; `qs` are the demands that the fanins meet
pub data PlanMeets (K : ℕ) (qs : List Demand) : List Token → List ℕ → Demand → Type 0 where
  fanin : (i : ℕ) → i < length qs → PlanMeets K qs (push i ∷ []) (i ∷ []) (get_or qs i (demand 0 0 0))
  binary : {p q : List Token} {ms ns : List ℕ} {a b d : Demand} (l r : Bool) →
      PlanMeets K qs p ms a → PlanMeets K qs q ns b → DemandJoins K (taken_as l a) (taken_as r b) d → PlanMeets K qs (p ++ (q ++ (join l r ∷ []))) (ms ++ ns) d

-- the plan joins the fanins whose numbers are `ns`, each once, in any order
pub record DemandPlanned (K : ℕ) (qs : List Demand) (ns : List ℕ) (p : List Token) (d : Demand) : Type 0 where
  pub order : List ℕ
  pub meets : PlanMeets K qs p order d
  pub once : Permuted order ns

-- those at the set bits of the mask s
abbrev pub MaskMeets : ℕ → List Demand → ℕ → List Token → Demand → Type 0
MaskMeets K qs s = DemandPlanned K qs (select s (upto (length qs)))

-- an operand: a plan and whether what it makes is placed, so that no more is given than d
pub record DemandOperand (K : ℕ) (qs : List Demand) (s : ℕ) (p : List Token) (l : Bool) (d : Demand) : Type 0 where
  pub own : Demand
  pub planned : MaskMeets K qs s p own
  pub within : taken_as l own ⊑ d

-- ---- what a run of it makes

module _ (K : ℕ) (lev : ℕ → ℕ) where
  -- a cover of the tree that meets the demand, its root not placed
  pub record LevelStanding (t : Node) (d : Demand) (c : Cover) : Type 0 where
    pub splits : SplitOf t c
    pub free : root_number c ≡ 0
    pub fits : Fits c K
    pub small : width c ≤ K
    pub inputs : width c ≤ d.inputs
    pub high : level lev c ≤ d.bound
    pub count : tables c ≤ d.below

  -- such covers of the fanins
  pub data LevelReady : Edges → List (Bool × Cover) → List Demand → Type 0 where
    ready_none : LevelReady none [] []
    ready_edge : {i : Bool} {t : Node} {es : Edges} {c : Cover} {ds : List (Bool × Cover)} {d : Demand} {qs : List Demand} →
        LevelStanding t d c → LevelReady es ds qs → LevelReady (edge i t es) ((i, c) ∷ ds) (d ∷ qs)

  -- fanins of a gate that meet the demand
  pub record Fans (d : Demand) (s : Fanins) : Type 0 where
    pub many : 2 ≤ arity s
    pub fits : Fits* s K
    pub small : widths s ≤ K
    pub inputs : widths s ≤ d.inputs
    pub high : levels lev s ≤ d.bound
    pub count : tables* s ≤ d.below

  -- of a gate over `es`
  pub record LevelBody (es : Edges) (d : Demand) (body : Fanins) : Type 0 where
    pub matched : Matched es (frontier body)
    pub fans : Fans d body

-- ---- the demands that plans meet

-- a demand that some plan meets from these: a tree of joins over the list
pub data DemandReaches (K : ℕ) : List Demand → Demand → Type 0 where
  one : {d : Demand} → DemandReaches K (d ∷ []) d
  both : {xs ys zs : List Demand} {a b d : Demand} (l r : Bool) →
      Mix xs ys zs → DemandReaches K xs a → DemandReaches K ys b → DemandJoins K (taken_as l a) (taken_as r b) d → DemandReaches K zs d

-- a tree meets the demand, its root not placed: a net by its level, and a gate by demands that its fanins meet
mutual
  pub data LevelHeld (K : ℕ) (lev : ℕ → ℕ) : Node → Demand → Type 0 where
    held_net : {n : ℕ} {d : Demand} → lev n ≤ d.bound → 1 ≤ d.inputs → LevelHeld K lev (leaf n) d
    held_gate : {k : Kind} {es : Edges} {a b d : Demand} {qs : List Demand} →
        LevelHelds K lev es (a ∷ b ∷ qs) → DemandReaches K (a ∷ b ∷ qs) d → LevelHeld K lev (gate k es) d

  pub data LevelHelds (K : ℕ) (lev : ℕ → ℕ) : Edges → List Demand → Type 0 where
    held_none : LevelHelds K lev none []
    held_edge : {i : Bool} {t : Node} {es : Edges} {d : Demand} {qs : List Demand} →
        LevelHeld K lev t d → LevelHelds K lev es qs → LevelHelds K lev (edge i t es) (d ∷ qs)
