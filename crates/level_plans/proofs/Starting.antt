-- The first array: the rows of the fanins at the bound before, and no entry for more of them. Assumes nothing.
use Prim.Native.Nat.{ℕ, ◌+◌, ◌-◌, ◌*◌, ◌^◌, ◌≤◌, ◌<◌}
use native.Mathlib.Omega.{arith}
use native.Mathlib.Decide.{dec_lt}
use mathlib.Core.Path.{◌≡◌, ap, ◌∙◌}
use mathlib.Core.Logic.{by_cases}
use mathlib.Core.List.{List, ◌++◌}
use lib.ListN.{length, get_or, take, drop, replicate, length-append, length-replicate, get_or-replicate}
use Rattle.std.proofs.lemmas.List.{get_or_append_left, get_or-append_right, get_or-drop, length-drop, length-take-le}
use lib.Pow.{pow_mono, pow-lt}
use Rattle.plan.specs.Limits.{masks}
use Rattle.level_arrays.specs.declared.Fans.{Fans}
use Rattle.level_arrays.specs.Arrays.{big, entry_at, fan_row}
use Rattle.level_rows.specs.Runs.{RunWritten}
use Rattle.level_plans.specs.Backing.{arrays_room, array_room}
use Rattle.level_plans.specs.Ranges.{SinglesPut, RangeStarted}

-- ---- the rows of the fanins, put in one after the other

module _ {store : List ℕ} {f : Fans} {bound : ℕ} {a : List ℕ} where
  pub singles_more : {b c : List ℕ} {h t : ℕ} {row : ℕ → ℕ} → SinglesPut store f bound a b h → t ≡ 2 ^ h → RunWritten b c (t * 8) 8 row →
      ((w : ℕ) → w ≤ 6 → row w ≡ fan_row store f bound h w) → SinglesPut store f bound a c (h + 1)
  singles_more {c = c} {h} {t} p e q g = record {
    is = λ i w l k.
        by_cases (dec_lt i h) (λ d. q.before (0 + 2 ^ i * 8 + w) (omega (arith, pow-lt d)) ∙ p.is i w d k) λ d.
        let z : i ≡ h = omega arith in
        let y : 0 + 2 ^ h * 8 + w ≡ t * 8 + w = omega arith in
        rw z (ap (λ j. get_or c j big) y ∙ q.is w (omega arith) ∙ g w k);
    others = λ i r w o l k.
        by_cases (dec_lt i h)
        (λ d. q.before (0 + (2 ^ i + r) * 8 + w) (omega (arith, pow_mono d)) ∙ p.others i r w o l k)
        (λ d. let m : h ≤ i = omega arith in q.after (0 + (2 ^ i + r) * 8 + w) (omega (arith, pow_mono m)) ∙ p.others i r w o l k);
    room = q.room ∙ p.room;
  }

-- ---- an array that is cleared

pub cleared : {a b rest : List ℕ} → length a ≡ arrays_room → b ≡ replicate (length (take array_room a)) big → rest ≡ drop array_room a →
    RunWritten a (b ++ rest) 0 array_room (λ i. big)
cleared {a} {b} {rest} l e d =
    let n : length (take array_room a) ≡ array_room = length-take-le array_room a (omega arith) in
    let m : length b ≡ array_room = ap length e ∙ length-replicate _ big ∙ n in record {
      is = λ w k. let z : 0 + w ≡ w = omega arith in rw z (get_or_append_left b rest big w (omega arith) ∙ ap (λ x. get_or x w big) e ∙ get_or-replicate _ w big big (omega arith));
      before = λ i k. absurd (omega arith);
      after = λ i k.
          let j : array_room + (i - array_room) ≡ i = omega arith in
          get_or-append_right b rest array_room i big m k ∙ rw d (get_or-drop array_room a (i - array_room) big ∙ ap (λ x. get_or a x big) j);
      room = length-append b rest ∙ rw (m, d, length-drop) (omega arith);
    }

module _ {a b : List ℕ} (q : RunWritten a b 0 array_room (λ i. big)) (room : length a ≡ arrays_room) where
  clear_entry : (s w : ℕ) → s < masks → w ≤ 6 → entry_at b 0 s w ≡ big
  clear_entry s w l k =
      let e : 0 + s * 8 + w ≡ 0 + (s * 8 + w) = omega arith in
      ap (λ j. get_or b j big) e ∙ q.is (s * 8 + w) (omega arith)

  -- where there is no bound before
  pub started_clear : {store : List ℕ} {f : Fans} {from : ℕ} → from ≡ 0 → RangeStarted from f store b
  started_clear z K t = record {
    ranged = record {
      searched = record {
        first = λ h r l o k. clear_entry (2 ^ h + r) K (omega (arith, pow_mono l, pow_mono t.fanins.1)) t.table.1;
        next = λ i l. absurd (omega arith);
      };
      zeroth = λ h w p l k e. absurd (omega arith);
      nothing = λ h w l k e. clear_entry (2 ^ h) w (omega (arith, pow-lt l, pow_mono t.fanins.1)) (omega (arith, t.table.1));
    };
    room = q.room ∙ room;
  }

  -- where there is one
  pub started_singles : {store c : List ℕ} {f : Fans} {from : ℕ} → 0 < from → SinglesPut store f (from - 1) b c f.count →
      RangeStarted from f store c
  started_singles {store} {f = f} {from} z s K t = record {
    ranged = record {
      searched = record {
        first = λ h r l o k.
            s.others h r K o k t.table.1 ∙ clear_entry (2 ^ h + r) K (omega (arith, pow_mono l, pow_mono t.fanins.1)) t.table.1;
        next = λ i l. absurd (omega arith);
      };
      zeroth = λ h w p l k e.
          let y : from - 1 ≡ p = omega arith in
          s.is h w l (omega (arith, t.table.1)) ∙ ap (λ ℓ. fan_row store f ℓ h w) y;
      nothing = λ h w l k e. absurd (omega arith);
    };
    room = s.room ∙ q.room ∙ room;
  }
