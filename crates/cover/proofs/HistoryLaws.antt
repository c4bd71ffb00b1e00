-- In a part made by adding sheets, every sheet's output net has the value of its tree.
-- By induction over the sheets: the tables of the earlier ones go on holding when a sheet is added.
use Rattle.std.specs.Prelude.{ℕ, ◌+◌, ◌≤◌, Bool, List, length}
use Rattle.std.proofs.Common.{arith}
use Rattle.lists.specs.Trusted.Lists.{Every}
use Rattle.lists.specs.ListLaws.{every_none, every_cons, every_append, every_left, every_right}
use Rattle.cover.specs.Trusted.Tables.{LookupTable, numbered, settled}
use Rattle.cover.specs.Eval.{numbered_append, settled_append, ValuesHold, uses}
use Rattle.cover.specs.Trusted.CoverTables.{Circuit}
use Rattle.cover.specs.History.{History, start, Met, add}
use Rattle.cover.proofs.CoverValueLaws.{new_low, new_holds, holds_met, old_holds}

module _ (base K : ℕ) where
  -- no table uses a later one
  history_low : {rs : List LookupTable} {ss : List Circuit} → History base K rs ss →
      Every (λ p. Every (λ c. c ≤ base + p.0) (uses base p)) (numbered 0 rs)
  history_low start = every_none _
  history_low (add {old = old} {new = new} {s = s} h l a f) =
      rw (numbered_append 0 (length old) old new (omega arith))
      (every_append (numbered 0 old) (numbered (length old) new) (history_low h) (λ p m c i. (new_low base K old new s l a p m c i).0))

  -- every table holds in the values of the part
  history_holds : {rs : List LookupTable} {ss : List Circuit} → History base K rs ss → (σ : ℕ → Bool) →
      Every (ValuesHold base (settled base rs σ)) (numbered 0 rs)
  history_holds start σ = every_none _
  history_holds (add {old = old} {new = new} {s = s} h l a f) σ =
      rw (settled_append base old new σ, numbered_append 0 (length old) old new (omega arith))
      (every_append (numbered 0 old) (numbered (length old) new) (old_holds base K old new s l a f (history_low h) (settled base old σ) (history_holds h σ))
      (new_holds base K old new s l a (settled base old σ)))

  -- every sheet is met where the tables of the part hold
  all_met : {rs : List LookupTable} {ss : List Circuit} → History base K rs ss → (e : ℕ → Bool) → Every (ValuesHold base e) (numbered 0 rs) →
      Every (Met e) ss
  all_met start e g = every_none _
  all_met (add {old = old} {new = new} {s = s} h l a f) e g =
      let k = rw (numbered_append 0 (length old) old new (omega arith)) at g in
      every_cons (holds_met base K old new s l a e (every_right (numbered 0 old) (numbered (length old) new) k))
      (all_met h e (every_left (numbered 0 old) (numbered (length old) new) k))

  -- THE VALUE OF EVERY SHEET: in a part made by adding sheets, each one's output net has the value of its tree
  pub history_met : {rs : List LookupTable} {ss : List Circuit} → History base K rs ss → (σ : ℕ → Bool) → Every (Met (settled base rs σ)) ss
  history_met {rs} h σ = all_met h (settled base rs σ) (history_holds h σ)
