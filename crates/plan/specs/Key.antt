-- What matters of a cover of a tree: how many tables stand below the one that holds the root, and how many inputs that one
-- has. Such pairs are ordered lexicographically; `join` is the best that two of them
-- give under a gate of two fanins. Internal definitions.
use Rattle.std.specs.Prelude.{ℕ, suc, ◌+◌, ◌≤◌, min, ◌≡◌, Bool, true, false, cond, leb}
-- keys are those of the code
use Rattle.plan.specs.declared.Key.{Key}

abbrev pub key : ℕ → ℕ → Key
key c w = record { below = c; width = w }

-- the lexicographic order
infix 40 ◌≼◌
pub record ◌≼◌ (a b : Key) : Type 0 where
  pub count : a.below ≤ b.below
  pub inputs : a.below ≡ b.below → a.width ≤ b.width

-- the better of two
unfoldable pub better : Key → Key → Key
better a b = cond (leb (suc a.below) b.below) a (cond (leb (suc b.below) a.below) b (cond (leb a.width b.width) a b))

-- the key of a leaf
abbrev pub leaf_key : Key
leaf_key = key 0 1

-- both held by one table
infixl 60 ◌⊕◌
abbrev pub ◌⊕◌ : Key → Key → Key
a ⊕ b = key (a.below + b.below) (a.width + b.width)

-- the root chosen
abbrev pub chosen : Key → Key
chosen a = key (a.below + 1) 1

-- `c` tables below two keys, `w` inputs in all, of which the narrower has `m`: both held; or the wider one chosen; or both
unfoldable pub pack : ℕ → ℕ → ℕ → ℕ → Key
pack K c w m = cond (leb w K) (key c w) (cond (leb (1 + m) K) (key (c + 1) (1 + m)) (key (c + 2) 2))

abbrev pub join : ℕ → Key → Key → Key
join K a b = pack K (a.below + b.below) (a.width + b.width) (min a.width b.width)

-- which operands `join` chooses: none; or the wider one; or both
unfoldable pub cuts : ℕ → Key → Key → Bool × Bool
cuts K a b =
    cond (leb (a.width + b.width) K) (false, false)
    (cond (leb (1 + min a.width b.width) K) (cond (leb a.width b.width) (false, true) (true, false)) (true, true))

-- how an operand stands under a join: held; or chosen, which only a gate can be
pub data KeyTaken (a : Key) : Bool → Key → Type 0 where
  held : KeyTaken a false a
  cut : 2 ≤ a.width → KeyTaken a true (chosen a)

-- `r` is what this way to hold or choose the two operands gives, and it fits
pub record KeyJoined (K : ℕ) (cut_left cut_right : Bool) (a b r : Key) : Type 0 where
  pub left : Key
  pub right : Key
  pub took_left : KeyTaken a cut_left left
  pub took_right : KeyTaken b cut_right right
  pub fits : left.width + right.width ≤ K
  pub is : r ≡ left ⊕ right
