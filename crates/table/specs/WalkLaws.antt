-- The test of a run of records as a loop makes it, from the record i on: of the first n of `rs`, and of all of them.
use Rattle.std.specs.Prelude.{ℕ, suc, ◌+◌, ◌≤◌, ◌<◌, ◌≡◌, true, false, cond, ◌&&◌, List, [], ◌∷◌, ◌++◌, ltb, length, get_or, take, drop}
use Rattle.std.proofs.Common.{add-one, arith, sym, ap, ap₂, ◌∙◌, take_all, take-suc, length-take-le}
use Rattle.table.specs.LoopLaws.{take_next, take_none}
use Rattle.table.specs.Trusted.RecordTest.{keeps, Verdict, none, bad, walk}
use Rattle.table.specs.declared.Table.{Table}

module _ (k capacity : ℕ) (rs : List Table) (n i : ℕ) (room : n ≤ length rs) where
  abbrev left : Verdict
  left = walk k capacity (take i rs) (drop i (take n rs))

  pub walk_ends : n ≤ i → left ≡ none
  walk_ends h = ap (walk k capacity (take i rs)) (take_none rs n i room h)

  module _ (z : Table) (h : i < n) where
    -- the test goes on from the record after it
    abbrev on : Verdict
    on = walk k capacity (take i rs ++ get_or rs i z ∷ []) (drop (i + 1) (take n rs))

    before_length : length (take i rs) ≡ i
    before_length = length-take-le i rs (omega arith)

    -- the records before the next one
    pub before_next : take (i + 1) rs ≡ take i rs ++ get_or rs i z ∷ []
    before_next = ap (λ m. take m rs) (add-one i) ∙ take-suc rs i z (omega arith)

    next : left ≡ cond (ltb i capacity && keeps k (take i rs) (get_or rs i z)) on (bad (i + 1))
    next =
        ap (walk k capacity (take i rs)) (take_next rs n i z room h)
        ∙ ap (λ m. cond (ltb m capacity && keeps k (take i rs) (get_or rs i z)) on (bad (suc m))) before_length
        ∙ ap (λ m. cond (ltb i capacity && keeps k (take i rs) (get_or rs i z)) on (bad m)) (sym (add-one i))

    -- past the capacity
    pub walk_full : ltb i capacity ≡ false → left ≡ bad (i + 1)
    walk_full e = next ∙ ap (λ b. cond (b && keeps k (take i rs) (get_or rs i z)) on (bad (i + 1))) e

    pub walk_stops : ltb i capacity ≡ true → keeps k (take i rs) (get_or rs i z) ≡ false → left ≡ bad (i + 1)
    walk_stops f e = next ∙ ap₂ (λ a b. cond (a && b) on (bad (i + 1))) f e

    pub walk_goes : ltb i capacity ≡ true → keeps k (take i rs) (get_or rs i z) ≡ true → left ≡ walk k capacity (take (i + 1) rs) (drop (i + 1) (take n rs))
    walk_goes f e =
        next ∙ ap₂ (λ a b. cond (a && b) on (bad (i + 1))) f e
        ∙ ap (λ l. walk k capacity l (drop (i + 1) (take n rs))) (sym before_next)

-- ---- of all of them

module _ (k capacity : ℕ) (rs : List Table) (i : ℕ) where
  abbrev all_left : Verdict
  all_left = walk k capacity (take i rs) (drop i rs)

  same_run : take (length rs) rs ≡ rs
  same_run = take_all (length rs) rs (omega arith)

  module _ (z : Table) (h : i < length rs) where
    pub run_full : ltb i capacity ≡ false → all_left ≡ bad (i + 1)
    run_full e = rw same_run at (walk_full k capacity rs (length rs) i (omega arith) z h e)

    pub run_stops : ltb i capacity ≡ true → keeps k (take i rs) (get_or rs i z) ≡ false → all_left ≡ bad (i + 1)
    run_stops f e = rw same_run at (walk_stops k capacity rs (length rs) i (omega arith) z h f e)

    pub run_goes : ltb i capacity ≡ true → keeps k (take i rs) (get_or rs i z) ≡ true → all_left ≡ walk k capacity (take (i + 1) rs) (drop (i + 1) rs)
    run_goes f e = rw same_run at (walk_goes k capacity rs (length rs) i (omega arith) z h f e)
