-- The two parts of a mask of two bits or more, and from where each is read back. Assumes nothing.
use Prim.Native.Nat.{ℕ, ◌+◌, ◌-◌, ◌*◌, ◌^◌, ◌≤◌, ◌<◌}
use native.Mathlib.Omega.{arith}
use native.Mathlib.Decide.{dec_lt}
use mathlib.Core.Path.{◌≡◌, refl, sym, subst, ◌∙◌}
use mathlib.Core.Logic.{◌≢◌, by_cases}
use mathlib.Core.Bool.{Bool, true, false}
use mathlib.Core.List.{List}
use lib.ListN.{length, length-append}
use lib.Pow.{pow_pos}
use Rattle.lists.specs.Trusted.Lists.{◌∈◌}
use Rattle.lists.specs.Sequences.{upto}
use Rattle.lists.specs.ListLaws.{permuted_length}
use Rattle.lists.specs.MixLaws.{mix_append, mix_every}
use Rattle.tree.specs.Trusted.Limits.{most_fanins}
use Rattle.plan.specs.Masks.{select, MaskWithin}
use Rattle.plan.specs.MaskLaws.{within_le, within_top, select_some, select_mix}
use Rattle.search.proofs.Writing.{fanin_count}
use Rattle.level_arrays.specs.declared.Draft.{Draft}
use Rattle.level_arrays.specs.Arrays.{entry_at, AtMask, Drafted}
use Rattle.level_plans.specs.Backing.{array_room, HighestBit, SumOf, Halvable, Seekable, Sought, Backed}
use Rattle.level_plans.proofs.Summing.{kept_sum}
use Rattle.level_plans.proofs.Drafting.{small_mask, few_inputs, bit_place}

-- ---- the fanins of a mask are those of a submask and of the rest

module _ (n u s : ℕ) (i : MaskWithin u s) where
  pub parts_length : length (select s (upto n)) ≡ length (select (s - u) (upto n)) + length (select u (upto n))
  parts_length = sym (permuted_length (mix_append (select_mix (upto n) u s i))) ∙ length-append (select (s - u) (upto n)) (select u (upto n))

  pub parts_out : (h : ℕ) → ¬ (AtMask n s h) → ¬ (AtMask n (s - u) h) × ¬ (AtMask n u h)
  parts_out h o =
      let m = mix_every {P = λ g. g ≢ h} (select_mix (upto n) u s i) (λ g k e. o (subst (λ x. x ∈ select s (upto n)) e k)) in
      (λ k. m.0 h k refl, λ k. m.1 h k refl)

-- ---- the parts by which a mask's entry is a sum

-- u and the rest of the mask s
pub record MaskHalves (a : List ℕ) (at s w u j : ℕ) : Type 0 where
  pub some : 0 < u
  pub less : u < s
  pub part : MaskWithin u s
  pub inputs : (0 < j) × (j < w)
  pub is : entry_at a at s w ≡ entry_at a at (s - u) j + entry_at a at u (w - j)

pub mask_halves : {a : List ℕ} {at s t w u j : ℕ} → HighestBit s t → SumOf a at t (s - t) w u j → MaskHalves a at s w u j
mask_halves {s = s} {t} {u = u} b o =
    let e : t + (s - t) ≡ s = omega (arith, b.within) in
    let f : 2 ^ b.bit + (s - t) ≡ s = omega (arith, b.is) in
    let p = pow_pos b.bit in
    record {
      some = o.some;
      less = omega (arith, within_le u (s - t) o.part, b.is, b.within);
      part = rw f at (within_top b.bit (s - t) u (omega (arith, b.is, b.within)) o.part);
      inputs = o.inputs;
      is = rw e at o.is;
    }

-- a part is not read back from a later array
sought_low : {K i s w x v : ℕ} {a : List ℕ} (l : Bool) → Sought K a i s w x v l → x ≤ i
sought_low true f = omega (arith, f.from.0)
sought_low false f = omega (arith, f.from.0)

module _ {K n from top i s w : ℕ} {a : List ℕ} {d : Draft} (q : Backed K n from top a i s w d) where
  -- the array is not the first, and its entry is a sum
  module _ {t : ℕ} (b : HighestBit s t) (o : t ≡ s → ⊥) where
    above : t < s
    above = by_cases (dec_lt t s) (λ l. l) (λ l. absurd (o (omega (arith, b.within))))

    summed : (0 < i) × (u : ℕ) × (j : ℕ) × SumOf a (i * array_room) t (s - t) w u j
    summed =
        let e : 2 ^ b.bit + (s - t) ≡ s = omega (arith, b.is, b.within) in
        let l = bit_place q b.bit (omega (arith, b.is, b.within)) in
        rw (sym b.is)
        at (kept_sum q.arrays b.bit (s - t) w i l (omega (arith, above)) (omega (arith, b.is, b.within)) q.slot (rw e q.kept))

    pub halvable : Halvable a (i * array_room) t (s - t) w
    halvable = record {
      room = q.arrays.room;
      place = omega (arith, q.slot, q.arrays.few);
      mask = omega (arith, small_mask q, b.within);
      inputs = few_inputs q;
      sub = summed.1;
      first = summed.2;
      sum = summed.3;
    }

    pub not_first_slot : 0 < i
    not_first_slot = summed.0

  module _ {u j : ℕ} (m : MaskHalves a (i * array_room) s w u j) where
    -- each part has fewer fanins than the mask
    pub fewer_fanins : (fanin_count (s - u) < fanin_count s) × (fanin_count u < fanin_count s)
    fewer_fanins =
        let k = m.less in
        let h = (small_mask q).1 in
        let e = parts_length most_fanins u s m.part in
        let x = select_some (upto most_fanins) (s - u) 0 (omega arith) (omega arith) in
        let y = select_some (upto most_fanins) u 0 m.some (omega arith) in
        (omega arith, omega arith)

    -- each part's entry can be sought
    module _ (p : 0 < i) where
      slots : (1 ≤ i) × (i ≤ 10)
      slots = (p, omega (arith, q.slot, q.arrays.few))

      most : w ≤ K
      most = q.kept.inputs.1

      pub rest_seekable : Seekable K a i (s - u) j
      rest_seekable = record {
        room = q.arrays.room;
        table = q.arrays.some.table.1;
        slot = slots;
        mask = omega (arith, (small_mask q).1);
        some = omega (arith, q.kept.some, m.is);
        inputs = (m.inputs.0, omega (arith, m.inputs.1, most));
      }

      pub part_seekable : Seekable K a i u (w - j)
      part_seekable = record {
        room = q.arrays.room;
        table = q.arrays.some.table.1;
        slot = slots;
        mask = omega (arith, (small_mask q).1, m.less);
        some = omega (arith, q.kept.some, m.is);
        inputs = (omega (arith, m.inputs.1), omega (arith, most));
      }

    -- and read back
    shared : length (select s (upto n)) ≡ length (select (s - u) (upto n)) + length (select u (upto n))
    shared = parts_length n u s m.part

    pub rest_backed : {x v : ℕ} {l : Bool} → Sought K a i (s - u) j x v l → Backed K n from top a x (s - u) v d
    rest_backed {l = l} f = record {
      arrays = q.arrays;
      mask = (omega (arith, m.less), omega (arith, q.mask.1));
      slot = omega (arith, sought_low l f, q.slot);
      kept = f.kept;
      room = record { steps = q.room.steps; rooms = q.room.rooms; room = omega (arith, shared, q.room.room) };
    }

    pub part_backed : {x v y z : ℕ} {e : Draft} {r : Bool} → Drafted K n from top a x (s - u) v d e → Sought K a i u (w - j) y z r →
        Backed K n from top a y u z e
    part_backed {r = r} g f = record {
      arrays = q.arrays;
      mask = (m.some, omega (arith, q.mask.1, m.less));
      slot = omega (arith, sought_low r f, q.slot);
      kept = f.kept;
      room = record { steps = g.steps; rooms = g.rooms; room = omega (arith, shared, q.room.room, g.len, g.few) };
    }
