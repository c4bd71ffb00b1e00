-- What one leaf more does to keys, and to the list of the keys of a gate's fanins. Internal definitions: the laws are in GrownLaws.
use Rattle.std.specs.Prelude.{ℕ, ◌+◌, List}
use Rattle.lists.specs.Trusted.Lists.{Inserted}
use Rattle.plan.specs.declared.Key.{Key}
use Rattle.plan.specs.Key.{key, leaf_key, ◌≼◌}

-- `d` tables more, and as many inputs
abbrev pub deeper : ℕ → Key → Key
deeper d a = key (a.below + d) a.width

-- `b` is no better than `a`, and worse by at most one table
pub record Near (a b : Key) : Type 0 where
  pub low : a ≼ b
  pub high : b ≼ deeper 1 a

-- the second list has one leaf's key more than the first, or a near key in the place of one
pub data Grown : List Key → List Key → Type 0 where
  added : {ks js : List Key} → Inserted leaf_key js ks → Grown ks js
  changed : {a b : Key} {ks js ls : List Key} → Inserted a ks ls → Inserted b js ls → Near a b → Grown ks js
