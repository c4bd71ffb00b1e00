-- An array of levels by code stands for the tables: after none, after one more, and in a table's level.
use Prim.Native.Nat.{ℕ, zero, suc, ◌+◌, ◌≤◌, ◌<◌}
use native.Mathlib.Omega.{arith}
use Rattle.std.specs.Prelude.{◌≡◌, List, [], ◌∷◌, ◌++◌, length, set, replicate}
use Rattle.std.proofs.Math.Path.{refl, sym}
use Rattle.std.proofs.Common.{ap, ◌∙◌, ne_eqb}
use Rattle.std.proofs.Math.Bool.{cond}
use Rattle.std.proofs.Math.ListN.{get_or, length-append, length-set}
use Rattle.std.proofs.lemmas.List.{length-replicate}
use Rattle.std.proofs.Math.Seq.{get_or-set_same, get_or-set_other}
use Rattle.lists.specs.Cases.{by_eqb}
use Rattle.tree.specs.Trusted.Limits.{greatest_net, code_base}
use Rattle.cover.specs.Trusted.Tables.{LookupTable, table_level, driven, put, code_levels}
use Rattle.cover.specs.Eval.{put_same}
use Rattle.cover.specs.LevelLaws.{level_same, codes_after, codes_most}
use Rattle.table.specs.Trusted.Limits.{table_room}
use Rattle.table.specs.LevelTest.{code_room, no_levels, level_in, drive_noted, noted, LevelsStand}

pub levels_none : LevelsStand no_levels []
unfolding no_levels
levels_none = record { room = omega arith; places = length-replicate {A = ℕ} code_room 0; same = none code_room }
  where
    none : (n c : ℕ) → get_or (replicate {A = ℕ} n 0) c 0 ≡ 0
    none zero c = refl
    none (suc n) zero = refl
    none (suc n) (suc c) = none n c

-- ---- one more table

-- a code that has what is put elsewhere too
put_stays : (xs : List ℕ) (b : ℕ) (e : ℕ → ℕ) (c : ℕ) → e c ≡ b → put xs b e c ≡ b
put_stays [] b e c h = h
put_stays (x ∷ xs) b e c h = by_eqb (λ t. cond t b (put xs b e c) ≡ b) c x (λ q. refl) (λ d. put_stays xs b e c h)

-- at the net that it drives, if any
drive_noted_lem : (xs : List ℕ) (net level c : ℕ) → net < length xs → get_or (drive_noted xs net level) c 0 ≡ put (driven net) level (λ i. get_or xs i 0) c
drive_noted_lem xs zero level c l = refl
drive_noted_lem xs (suc n) level c l =
    ap (λ b. get_or (cond b xs (set xs (suc n) level)) c 0) (ne_eqb (suc n) 0 (λ q. omega (arith, q)))
    ∙ by_eqb (λ b. get_or (set xs (suc n) level) c 0 ≡ cond b level (get_or xs c 0)) c (suc n)
    (λ q. ap (λ i. get_or (set xs (suc n) level) i 0) q ∙ get_or-set_same xs (suc n) level 0 l)
    (λ d. get_or-set_other xs (suc n) c level 0 d)

drive_length : (xs : List ℕ) (net level : ℕ) → length (drive_noted xs net level) ≡ length xs
drive_length xs net level = by_eqb (λ b. length (cond b xs (set xs net level)) ≡ length xs) net 0 (λ q. refl) (λ d. length-set xs net level)

pub noted_length : (xs : List ℕ) (at net level : ℕ) → length (noted xs at net level) ≡ length xs
noted_length xs at net level = drive_length (set xs (code_base + at + 1) level) net level ∙ length-set xs (code_base + at + 1) level

module _ (xs : List ℕ) (ts : List LookupTable) (h : LevelsStand xs ts) where
  -- THE LEVEL OF A TABLE by the array is its level after the tables
  pub level_stands : (t : LookupTable) → level_in xs t.inputs ≡ table_level t (code_levels code_base ts)
  level_stands t = level_same t (λ c. get_or xs c 0) (code_levels code_base ts) (λ c m. h.same c)

  pub levels_small : (c : ℕ) → get_or xs c 0 ≤ table_room
  levels_small c = omega (arith, h.same c, codes_most code_base ts c, h.room)

  module _ (t : LookupTable) (room : length ts < table_room) (net : t.drives ≤ greatest_net) where
    abbrev level : ℕ
    level = table_level t (code_levels code_base ts)

    own : ℕ
    own = code_base + length ts + 1

    -- the levels with that of the table at its own code
    own_noted : List ℕ
    own_noted = set xs own level

    noted_same : (c : ℕ) → get_or (noted xs (length ts) t.drives level) c 0 ≡ code_levels code_base (ts ++ t ∷ []) c
    unfolding own own_noted
    noted_same c =
        drive_noted_lem own_noted t.drives level c (simp length-set (omega (arith, net, h.places)))
        ∙ by_eqb (λ b. put (driven t.drives) level (λ i. get_or own_noted i 0) c ≡ cond b level (put (driven t.drives) level (code_levels code_base ts) c)) c (code_base + suc (length ts))
        (λ q. put_stays (driven t.drives) level (λ i. get_or own_noted i 0) c
        (ap (λ i. get_or own_noted i 0) (q ∙ own_is) ∙ get_or-set_same xs own level 0 (omega (arith, h.places))))
        (λ d. put_same (driven t.drives) level level (λ i. get_or own_noted i 0) (code_levels code_base ts) c refl (λ o.
        get_or-set_other xs own c level 0 (λ q. d (q ∙ sym own_is)) ∙ h.same c))
        ∙ sym (ap (λ e. e c) (codes_after code_base ts (t ∷ [])))
      where
        own_is : code_base + suc (length ts) ≡ own
        own_is = omega arith

    pub levels_next : LevelsStand (noted xs (length ts) t.drives level) (ts ++ t ∷ [])
    unfolding own own_noted
    levels_next = record {
      room = simp length-append (omega arith);
      places = noted_length xs (length ts) t.drives level ∙ h.places;
      same = noted_same;
    }
