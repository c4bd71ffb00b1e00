-- What stands in the arrays of a search is the least: at one bound, and at every bound from the first on.
use Rattle.std.specs.Prelude.{ℕ, zero, suc, ◌+◌, ◌^◌, ◌≤◌, ◌<◌, ◌≡◌, Bool, List, [], ◌∷◌, length, get_or}
use Rattle.std.proofs.Common.{add-zero, add-suc, arith, pow_mono}
use Rattle.std.proofs.Math.Decide.{dec_lt}
use Rattle.std.proofs.Math.Logic.{by_cases}
use Rattle.tree.specs.Trusted.Tree.{Node}
use Rattle.plan.specs.Masks.{select}
use Rattle.plan.specs.MaskLaws.{top_bit}
use Rattle.levels.specs.Gives.{Gives, AtMost, LeastEntry}
use Rattle.levels.specs.GivesLaws.{gives_wide}
use Rattle.levels.specs.Groups.{GroupChosen, LevelRow, LevelRows}
use Rattle.levels.specs.GroupLaws.{groups_gives, own_first, own_next}
use Rattle.levels.specs.EntryLaws.{entry_none}
use Rattle.levels.specs.RowLaws.{row_one, row_step}
use Rattle.level_arrays.specs.Arrays.{big, entry_at, ArrayFilled, own_above, Searched}

module _ (K : ℕ) (lev : ℕ → ℕ) (zs : List (Bool × Node)) (z : Bool × Node) where
  -- `rows h w` is the entry of fanin h for w inputs at the bound ℓ
  abbrev pub FanEntries : ℕ → (ℕ → ℕ → ℕ) → Type 0
  FanEntries ℓ rows = (h w : ℕ) → h < length zs → w ≤ K → LeastEntry big (AtMost (Gives K lev (get_or zs h z ∷ []) ℓ) w) (rows h w)

  -- ---- one bound

  module _ {from ℓ : ℕ} {rows : ℕ → ℕ → ℕ} {own : ℕ → ℕ} {a : List ℕ} {at : ℕ} (f : ArrayFilled K (length zs) rows own a at (2 ^ length zs))
      (fans : FanEntries ℓ rows)
      (owns : (h r : ℕ) → h < length zs → 0 < r → r < 2 ^ h → LeastEntry big (GroupChosen K lev from (select (2 ^ h + r) zs) ℓ) (own (2 ^ h + r))) where
    single_row : (h : ℕ) → h < length zs → 2 ^ h < 2 ^ length zs → LevelRow K lev from big zs ℓ (entry_at a at (2 ^ h)) (2 ^ h)
    single_row h l m w k = rw (f.one h w l m k) (row_one K lev from big zs ℓ z h w l (fans h w l k))

    several_row : (h r : ℕ) → h < length zs → 0 < r → r < 2 ^ h → 2 ^ h + r < 2 ^ length zs → LevelRows K lev from big zs ℓ (entry_at a at) (2 ^ h + r) →
        LevelRow K lev from big zs ℓ (entry_at a at (2 ^ h + r)) (2 ^ h + r)
    several_row h r l p b m before zero k = rw (f.none h r l p b m) (entry_none (λ c q. omega (arith, q.1, gives_wide (groups_gives q.2))))
    several_row h r l p b m before (suc w) k =
        row_step K lev from big zs ℓ z h r l p b (entry_at a at) before (suc w) (omega arith) k (owns h r l p b) (f.more h r (suc w) l p b m (omega arith) k)

    mask_row : (s : ℕ) → 0 < s → s < 2 ^ length zs → LevelRows K lev from big zs ℓ (entry_at a at) s → LevelRow K lev from big zs ℓ (entry_at a at s) s
    mask_row s p m before =
        let (h, r, l, b, e) = top_bit (length zs) s p m in
        by_cases (dec_lt 0 r)
        (λ q. rw e (several_row h r l q b (omega arith) (rw e at before)))
        (λ q. let d : s ≡ 2 ^ h = omega arith in rw d (single_row h l (omega arith)))

    pub filled_rows : (m : ℕ) → m ≤ 2 ^ length zs → LevelRows K lev from big zs ℓ (entry_at a at) m
    filled_rows zero b s p l = absurd (omega arith)
    filled_rows (suc m) b s p l =
        by_cases (dec_lt s m) (λ q. filled_rows m (omega arith) s p q)
        (λ q. let e : s ≡ m = omega arith in rw e (mask_row m (omega arith) (omega arith) (filled_rows m (omega arith))))

  -- ---- each bound

  module _ {from top : ℕ} {rows : ℕ → ℕ → ℕ → ℕ} {a : ℕ → List ℕ} {at : ℕ → ℕ} (some : 1 ≤ K)
      (s : Searched K (length zs) from top rows a at) (fans : (i : ℕ) → i < top → FanEntries (from + i) (rows (from + i))) where
    pub searched_rows : (i : ℕ) → i < top → LevelRows K lev from big zs (from + i) (entry_at (a (suc i)) (at (suc i))) (2 ^ length zs)
    searched_rows zero l =
        filled_rows (s.next 0 l) (fans 0 l)
        (λ h r m p b.
        let e : own_above K (a 0) (at 0) (2 ^ h + r) ≡ big = omega (arith, s.first h r m p b) in
        rw (e, add-zero from) own_first)
        (2 ^ length zs) (omega arith)
    searched_rows (suc i) l =
        filled_rows (s.next (suc i) l) (fans (suc i) l)
        (λ h r m p b.
        rw (add-suc from i)
        (own_next some (omega arith) (searched_rows i (omega arith) (2 ^ h + r) (omega arith) (omega (arith, pow_mono m)) K (omega arith))))
        (2 ^ length zs) (omega arith)
