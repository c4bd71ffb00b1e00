-- What is read of a fanin's lines: the row at a bound, by cases. Assumes nothing.
use Prim.Native.Nat.{ℕ, ◌-◌, ◌≤◌, ◌<◌, min}
use mathlib.Core.Path.{◌≡◌, sym}
use mathlib.Core.List.{List}
use lib.ListN.{get_or}
use borrow.Author.Tests.{le-leb, lt-leb}
use Rattle.cover.specs.Trusted.Cover.{pick}
use Rattle.levels.specs.Lines.{look}
use Rattle.level_arrays.specs.declared.Fans.{Fans}
use Rattle.level_arrays.specs.Arrays.{big, line_at, fan_row}
use Rattle.level_rows.specs.Rows.{pick_some}

-- the row at a bound: below the level, of a net, and of a gate
module _ (store : List ℕ) (f : Fans) (ℓ h w : ℕ) where
  pub fan_below : ℓ < get_or f.levels h 0 → fan_row store f ℓ h w ≡ big
  unfolding look
  fan_below l = rw (lt-leb _ _ l)

  pub look_net : get_or f.levels h 0 ≤ ℓ → get_or f.lines h 0 ≡ 0 → fan_row store f ℓ h w ≡ pick w big 0
  unfolding look
  look_net l e = rw (le-leb _ _ l, e)

  pub fan_line_lem : (j : ℕ) → get_or f.levels h 0 ≤ ℓ → 0 < get_or f.lines h 0 → j ≡ min (ℓ - get_or f.levels h 0) (get_or f.lines h 0 - 1) →
      fan_row store f ℓ h w ≡ line_at store (get_or f.gates h 0) j w
  unfolding look
  fan_line_lem j l p e = rw (le-leb _ _ l, sym e) (pick_some _ _ _ p)
