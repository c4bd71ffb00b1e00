-- A split of a drawn tree with its chosen gates: how many tables it has, how wide each is, and the least number of tables.
-- Definitions only, of 01 "Cover"; its terms are quoted where they are defined.
use Rattle.std.specs.Prelude.{ℕ, zero, suc, ◌+◌, ◌≤◌, ◌≡◌, Bool, List, [], ◌∷◌, ◌++◌}
use Rattle.lists.specs.Trusted.Lists.{Inserted}
use Rattle.tree.specs.declared.Kind.{Kind}
use Rattle.tree.specs.Trusted.Tree.{Node, leaf, gate, Edges, none, edge}

-- A split tree with its "chosen gates". `top` is the topmost of the gates that one drawn gate was split into, of the drawn
-- gate's kind. Its mark is 0 where it is not chosen, and else the number of its table. Below it stand fanins of the drawn
-- gate (`old`: inverted or not) and new gates of the same kind, on upright edges (`new`, with the new gate's mark and its fanins).
mutual
  pub data Cover : Type 0 where
    net : ℕ → Cover
    top : ℕ → Kind → Fanins → Cover

  pub data Fanins : Type 0 where
    end : Fanins
    old : Bool → Cover → Fanins → Fanins
    new : ℕ → Fanins → Fanins → Fanins

-- `a` at the mark of a gate that is not chosen, and `b` at that of a chosen one
abbrev pub pick {ℓ} : {A : Type ℓ} → ℕ → A → A → A
pick zero a b = a
pick (suc n) a b = b

-- how many direct fanins a gate has
abbrev pub arity : Fanins → ℕ
arity end = 0
arity (old i c fs) = 1 + arity fs
arity (new m s fs) = 1 + arity fs

-- the drawn gate's own fanins, in the order in which the split tree has them
abbrev pub frontier : Fanins → List (Bool × Cover)
frontier end = []
frontier (old i c fs) = (i, c) ∷ frontier fs
frontier (new m s fs) = frontier s ++ frontier fs

-- how many gates are chosen: "each chosen gate is one table"
abbrev mutual
  pub tables : Cover → ℕ
  tables (net n) = 0
  tables (top m k fs) = pick m 0 1 + tables* fs

  pub tables* : Fanins → ℕ
  tables* end = 0
  tables* (old i c fs) = tables c + tables* fs
  tables* (new m s fs) = (pick m 0 1 + tables* s) + tables* fs

-- how many inputs it gives to the table that reads or holds it: "the leaves and chosen gates just below"
abbrev mutual
  pub width : Cover → ℕ
  width (net n) = 1
  width (top m k fs) = pick m (widths fs) 1

  pub widths : Fanins → ℕ
  widths end = 0
  widths (old i c fs) = width c + widths fs
  widths (new m s fs) = pick m (widths s) 1 + widths fs

-- each gate has "two or more fanins", and each chosen gate's table has inputs "K at most"
abbrev mutual
  pub Fits : Cover → ℕ → Type 0
  Fits (net n) K = Unit {0}
  Fits (top m k fs) K = (2 ≤ arity fs) × pick m (Unit {0}) (widths fs ≤ K) × Fits* fs K

  pub Fits* : Fanins → ℕ → Type 0
  Fits* end K = Unit {0}
  Fits* (old i c fs) K = Fits c K × Fits* fs K
  Fits* (new m s fs) K = ((2 ≤ arity s) × pick m (Unit {0}) (widths s ≤ K) × Fits* s K) × Fits* fs K

-- the cover's tree is a "splitting" of the drawn tree: each drawn fanin stands once, in any order, inverted as drawn
mutual
  pub data SplitOf : Node → Cover → Type 0 where
    same : {n : ℕ} → SplitOf (leaf n) (net n)
    split : {k : Kind} {es : Edges} {m : ℕ} {fs : Fanins} → Matched es (frontier fs) → SplitOf (gate k es) (top m k fs)

  pub data Matched : Edges → List (Bool × Cover) → Type 0 where
    done : Matched none []
    match : {i : Bool} {t : Node} {es : Edges} {c : Cover} {xs ys : List (Bool × Cover)} →
        Inserted (i, c) xs ys → SplitOf t c → Matched es ys → Matched (edge i t es) xs

-- the root is "among" the chosen gates
pub data Rooted : Cover → Type 0 where
  rooted : {n : ℕ} {k : Kind} {fs : Fanins} → Rooted (top (suc n) k fs)

-- a "cover of a split tree" that is drawn as t
pub record CoverOf (K : ℕ) (t : Node) (c : Cover) : Type 0 where
  pub split : SplitOf t c
  pub root : Rooted c
  pub fits : Fits c K

-- "the least number": the smallest count of chosen gates over all splittings and covers
pub record Least (K : ℕ) (t : Node) (n : ℕ) : Type 0 where
  pub some : (c : Cover) × CoverOf K t c × (tables c ≡ n)
  pub none_fewer : (c : Cover) → CoverOf K t c → n ≤ tables c
