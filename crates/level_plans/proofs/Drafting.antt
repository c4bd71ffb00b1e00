-- The demands of a draft; and the draft of a single fanin's mask. Assumes nothing.
use Prim.Native.Nat.{ℕ, ◌+◌, ◌-◌, ◌*◌, ◌^◌, ◌≤◌, ◌<◌}
use native.Mathlib.Omega.{arith}
use native.Mathlib.Nat.{add-zero}
use native.Mathlib.Decide.{dec_lt}
use mathlib.Core.Path.{◌≡◌, refl, sym, ap, subst, ◌∙◌}
use mathlib.Core.Logic.{◌≢◌, by_cases}
use mathlib.Core.List.{List, [], ◌∷◌}
use lib.ListN.{length, get_or, length-map, length-set}
use lib.Seq.{get_or-set_same, get_or-set_other}
use lib.Pow.{pow_pos, pow_mono}
use Rattle.lists.specs.Trusted.Lists.{◌∈◌, Every, Inserted}
use Rattle.lists.specs.Sequences.{upto}
use Rattle.lists.specs.ListLaws.{map_at, inserted_length, inserted_to, inserted_from, every_cons, every_none, every_head}
use Rattle.lists.specs.NumberLaws.{upto_length, upto_at}
use Rattle.plan.specs.declared.Token.TheVariants.{Push as push}
use Rattle.plan.specs.Limits.{masks, most_steps}
use Rattle.plan.specs.Masks.{select}
use Rattle.plan.specs.MaskLaws.{select_some, select_top, select_none}
use Rattle.plan.specs.Entries.{OneBit}
use Rattle.levels.specs.Demands.{Demand, demand, MaskMeets}
use Rattle.levels.specs.MaskDemands.{demand_plan_one}
use Rattle.level_arrays.specs.declared.Draft.{Draft}
use Rattle.level_arrays.specs.Arrays.{entry_at, draft_demand, draft_demands, Drafted}
use Rattle.level_plans.specs.Backing.{array_room, draft_taken, DraftTook, Backed}
use Rattle.search.proofs.Writing.{stepped_tokens}
use Rattle.level_plans.proofs.Summing.{some_bound}

-- a mask of one bit selects its number
one_selected : (n h : ℕ) → h < n → Inserted h (select (2 ^ h) (upto n)) []
one_selected n h l =
    rw (add-zero (2 ^ h), upto_at n h 0 l, select_none (upto n)) at (select_top (upto n) h 0 0 (rw (upto_length n) l) (pow_pos h))

-- ---- the demands of a draft

module _ (n from : ℕ) (a : List ℕ) (e : Draft) where
  pub demands_length : length (draft_demands n from a e) ≡ n
  demands_length = simp length-map (upto_length n)

  pub demand_at_lem : (h : ℕ) (z : Demand) → h < n → get_or (draft_demands n from a e) h z ≡ draft_demand from a e h
  demand_at_lem h z l = map_at (draft_demand from a e) (upto n) h 0 z (rw (upto_length n) l) ∙ ap (draft_demand from a e) (upto_at n h 0 l)

-- ---- a mask that can be read back

module _ {K n from top i s w : ℕ} {a : List ℕ} {d : Draft} (q : Backed K n from top a i s w d) where
  pub small_mask : (0 < s) × (s < masks)
  small_mask = (q.mask.0, omega (arith, q.mask.1, pow_mono q.arrays.some.fanins.1))

  pub few_inputs : w < 8
  few_inputs = omega (arith, q.kept.inputs.1, q.arrays.some.table.1)

  step_room : d.plan.len < most_steps
  step_room = omega (arith, q.room.room, select_some (upto n) s 0 q.mask.0 (rw (upto_length n) q.mask.1))

  -- a bit that is not above it is that of a fanin
  pub bit_place : (h : ℕ) → 2 ^ h ≤ s → h < n
  bit_place h e =
      by_cases (dec_lt h n) (λ l. l) λ l.
      let k : n ≤ h = omega arith in
      absurd (omega (arith, q.mask.1, pow_mono k))

  -- a single fanin's mask
  pub fanin_able : (h : ℕ) → 2 ^ h ≡ s → OneBit s × (w < 8) × (d.plan.len < most_steps)
  fanin_able h e = ((h, omega (arith, bit_place h (omega arith), q.arrays.some.fanins.1), sym e), few_inputs, step_room)

  pub fanin_bound : (0 < from + i) × (from + i ≤ 3010)
  fanin_bound = (some_bound q, omega (arith, q.slot, q.arrays.few, q.arrays.low))

module _ {K n from top i w : ℕ} {a : List ℕ} {d : Draft} (h : ℕ) (q : Backed K n from top a i (2 ^ h) w d) where
  place : h < n
  place = bit_place q h (omega arith)

  -- the draft with the fanin taken
  abbrev taken : Draft
  taken = draft_taken d h (from + i - 1) w

  abbrev room : h < 10
  room = omega (arith, place, q.arrays.some.fanins.1)

  taken_bound : get_or taken.bounds h 0 ≡ from + i - 1
  taken_bound = get_or-set_same d.bounds h (from + i - 1) 0 (omega (arith, room, q.room.rooms.0))

  taken_inputs : get_or taken.inputs h 0 ≡ w
  taken_inputs = get_or-set_same d.inputs h w 0 (omega (arith, room, q.room.rooms.1))

  slot_is : get_or taken.bounds h 0 + 1 - from ≡ i
  slot_is = omega (arith, taken_bound, some_bound q)

  taken_demand : draft_demand from a taken h ≡ demand (from + i - 1) w (entry_at a (i * array_room) (2 ^ h) w)
  taken_demand = rw (slot_is, taken_bound, taken_inputs)

  planned : MaskMeets K (draft_demands n from a taken) (2 ^ h) (push h ∷ []) (demand (from + i - 1) w (entry_at a (i * array_room) (2 ^ h) w))
  planned =
      subst (MaskMeets K (draft_demands n from a taken) (2 ^ h) (push h ∷ [])) (demand_at_lem n from a taken h _ place ∙ taken_demand)
      (demand_plan_one h (rw (demands_length n from a taken) place))

  own : h ∈ select (2 ^ h) (upto n)
  own = every_head (inserted_from (one_selected n h place) (λ x m. m))

  only : Every (λ g. g ≡ h) (select (2 ^ h) (upto n))
  only = inserted_to (one_selected n h place) (every_cons refl (every_none _))

  one_drafted : Drafted K n from top a i (2 ^ h) w d taken
  one_drafted = record {
    added = push h ∷ [];
    planned = planned;
    is = stepped_tokens d.plan (push h) (omega (arith, step_room q, q.room.steps));
    places = λ net e. record { left = net h; single = λ z. (h, place, refl, z); places = λ rest st p. p };
    len = refl;
    few = omega (arith, inserted_length (one_selected n h place));
    steps = simp length-set q.room.steps;
    rooms = (simp length-set q.room.rooms.0, simp length-set q.room.rooms.1);
    others = λ g l o.
        let m : g ≢ h = λ e. o (subst (λ x. x ∈ select (2 ^ h) (upto n)) (sym e) own) in
        (get_or-set_other d.bounds h g (from + i - 1) 0 m, get_or-set_other d.inputs h g w 0 m);
    demands = λ g m.
        rw (only g m)
        (omega (arith, taken_bound, some_bound q), omega (arith, taken_bound, some_bound q, q.slot), rw (slot_is, taken_inputs) q.kept);
  }

pub one_drafts : {K n from top i s w : ℕ} {a : List ℕ} {d e : Draft} → Backed K n from top a i s w d → DraftTook s (from + i - 1) w d e →
    Drafted K n from top a i s w d e
one_drafts {K} {n} {from} {top} {i} {w = w} {a} {d} q (h, p, o) =
    rw o
    (subst (λ s. Backed K n from top a i s w d → Drafted K n from top a i s w d (draft_taken d h (from + i - 1) w)) p (one_drafted h) q)
