-- The draft of a mask of two bits or more: those of its two parts, and a join. Assumes nothing.
use Prim.Native.Nat.{ℕ, zero, suc, ◌+◌, ◌-◌, ◌*◌, ◌^◌, ◌≤◌, ◌<◌}
use native.Mathlib.Omega.{arith}
use native.Mathlib.Decide.{dec_lt}
use mathlib.Core.Path.{◌≡◌, refl, sym, ap, subst, ◌∙◌}
use mathlib.Core.Logic.{◌⊎◌, inl, inr, ⊎_elim, by_cases}
use mathlib.Core.Bool.{Bool, true, false, ◌&&◌}
use mathlib.Core.List.{List, [], ◌∷◌, ◌++◌, append_assoc}
use lib.Dec.{T}
use lib.ListN.{length, get_or, length-append, length-set, get_or-eq_default}
use Rattle.lists.specs.Trusted.Lists.{◌∈◌, Every, first, later}
use Rattle.lists.specs.Sequences.{upto}
use Rattle.lists.specs.MixLaws.{every_mix}
use Rattle.lists.specs.ListLaws.{every_none, every_cons, every_map, not_first}
use Rattle.plan.specs.declared.Token.TheVariants.{Join as join}
use Rattle.plan.specs.Limits.{most_steps}
use Rattle.plan.specs.Masks.{select}
use Rattle.plan.specs.MaskLaws.{select_mix, select_every}
use Rattle.levels.specs.Demands.{demand, taken_as, ◌⊑◌, DemandOperand}
use Rattle.levels.specs.MaskDemands.{demand_plan_join, rest_kept}
use Rattle.level_arrays.specs.declared.Draft.{Draft}
use Rattle.level_arrays.specs.Arrays.{big, entry_at, ReadsBack, draft_demands, NetEntries, PlacesNone, Drafted}
use Rattle.level_plans.specs.Backing.{array_room, Sought, draft_stepped, Backed}
use Rattle.level_plans.proofs.Summing.{some_bound}
use Rattle.search.proofs.Writing.{stepped_tokens}
use Rattle.level_plans.proofs.Drafting.{demands_length, demand_at_lem}
use Rattle.level_plans.proofs.Parting.{parts_length, parts_out, MaskHalves, rest_backed, part_backed}

-- a number stands in a list or not
listed : (h : ℕ) (ns : List ℕ) → (h ∈ ns) ⊎ (¬ (h ∈ ns))
listed h [] = inr (λ m. absurd (every_none (λ x. ⊥) h m))
listed h (n ∷ ns) = ⊎_elim (λ m. inl (later m)) same (listed h ns)
  where
    same : ¬ (h ∈ ns) → (h ∈ n ∷ ns) ⊎ (¬ (h ∈ n ∷ ns))
    same o =
        by_cases (dec_lt h n) (λ l. inr (λ m. o (not_first (λ e. omega arith) m))) λ l.
        by_cases (dec_lt n h) (λ l. inr (λ m. o (not_first (λ e. omega arith) m))) λ k.
        inl (first (omega arith))

upto_below : (n : ℕ) → Every (λ h. h < n) (upto n)
upto_below zero = every_none _
upto_below (suc n) = every_cons (omega arith) (every_map (λ h. h < suc n) suc (upto n) (λ h m. omega (arith, upto_below n h m)))

-- what a part gives is what is asked of it
operand_within : {K i s w x v : ℕ} {a : List ℕ} (from : ℕ) (l : Bool) → 1 ≤ w → 0 < from + x → Sought K a i s w x v l →
    taken_as l (demand (from + x - 1) v (entry_at a (x * array_room) s v)) ⊑ demand (from + i - 1) w (entry_at a (i * array_room) s w)
operand_within from true o p f = record { bound = omega (arith, f.from.0); inputs = o; below = omega (arith, f.from.1) }
operand_within from false o p f = rw (f.from.0, f.from.1) (record { bound = omega arith; inputs = omega arith; below = omega arith })

module _ {K n from top i s w u j x v y z : ℕ} {a : List ℕ} {d e g : Draft} {l r : Bool} (q : Backed K n from top a i s w d)
    (m : MaskHalves a (i * array_room) s w u j) (fx : Sought K a i (s - u) j x v l) (fy : Sought K a i u (w - j) y z r)
    (dx : Drafted K n from top a x (s - u) v d e) (dy : Drafted K n from top a y u z e g) where
  joined_length : g.plan.len + 2 ≡ d.plan.len + 2 * length (select s (upto n))
  joined_length = omega (arith, dx.len, dx.few, dy.len, dy.few, parts_length n u s m.part)

  pub joined_room : g.plan.len < most_steps
  joined_room = omega (arith, joined_length, q.room.room)

  -- the draft with the join
  abbrev joined : Draft
  joined = draft_stepped g (join l r)

  -- the demand of a fanin can be read back
  abbrev FaninKept : ℕ → Type 0
  FaninKept h =
      (from ≤ get_or g.bounds h 0 + 1) × (get_or g.bounds h 0 + 1 ≤ from + top) ×
      ReadsBack K a (get_or g.bounds h 0 + 1 - from) (2 ^ h) (get_or g.inputs h 0)

  -- only the submask's fanins have other demands than before
  other_demand : (h : ℕ) → ¬ (h ∈ select u (upto (length (draft_demands n from a e)))) →
      get_or (draft_demands n from a e) h (demand 0 0 0) ≡ get_or (draft_demands n from a joined) h (demand 0 0 0)
  other_demand h o =
      by_cases (dec_lt h n)
      (λ k.
      let t = dy.others h k (rw (demands_length n from a e) at o) in
      demand_at_lem n from a e h _ k ∙ rw (sym t.0, sym t.1) (sym (demand_at_lem n from a joined h _ k)))
      (λ k.
      get_or-eq_default (draft_demands n from a e) _ (rw (demands_length n from a e) (omega arith))
      ∙ sym (get_or-eq_default (draft_demands n from a joined) _ (rw (demands_length n from a joined) (omega arith))))

  rest_operand : DemandOperand K (draft_demands n from a joined) (s - u) dx.added l (demand (from + i - 1) j (entry_at a (i * array_room) (s - u) j))
  rest_operand = record {
    own = _;
    planned =
        rest_kept (draft_demands n from a joined) u s m.part (demands_length n from a joined ∙ sym (demands_length n from a e)) other_demand
        dx.planned;
    within = operand_within from l m.inputs.0 (some_bound (rest_backed q m fx)) fx;
  }

  part_operand : DemandOperand K (draft_demands n from a joined) u dy.added r (demand (from + i - 1) (w - j) (entry_at a (i * array_room) u (w - j)))
  part_operand = record {
    own = _;
    planned = dy.planned;
    within = operand_within from r (omega (arith, m.inputs.1)) (some_bound (part_backed q m dx fy)) fy;
  }

  -- the rest's fanins have theirs still
  rest_demands : Every FaninKept (select (s - u) (upto n))
  rest_demands h k =
      ⊎_elim (dy.demands h)
      (λ o. let t = dy.others h (select_every (upto n) (s - u) (upto_below n) h k) o in rw (t.0, t.1) (dx.demands h k))
      (listed h (select u (upto n)))

  -- no net is placed: an operand that is placed has an entry of 1 or more
  module _ (net : ℕ → Bool) (o : NetEntries K n top net a) where
    no_net : (t k : ℕ) {x v : ℕ} (l b : Bool) → Sought K a i t k x v l → (1 ≤ k) × (k ≤ K) → entry_at a (i * array_room) t k < big →
        (b ≡ true → (h : ℕ) × (h < n) × (t ≡ 2 ^ h) × (net h ≡ true)) → (l && b) ≡ false
    no_net t k false b f c p g = refl
    no_net t k true false f c p g = refl
    no_net t k true true f c p g =
        let (h, y, e, z) = g refl in
        absurd (⊎_elim (λ r. omega (arith, f.from.1, rw (sym e) at r)) (λ r. omega (arith, rw (sym e) at r)) (o h i k y z q.slot c.0 c.1))

    places_none : PlacesNone n s net (dx.added ++ (dy.added ++ (join l r ∷ [])))
    places_none =
        let x = dx.places net o in
        let y = dy.places net o in
        let k = q.kept.inputs.1 in
        let c = q.kept.some in
        record {
          left = false;
          single = λ e. absurd (subst T (sym e) tt);
          places = λ rest st p.
              simp append_assoc
              (x.places _ st
              (y.places _ (x.left ∷ st) (
                no_net (s - u) j l x.left fx (m.inputs.0, omega (arith, m.inputs.1)) (omega (arith, m.is)) x.single,
                no_net u (w - j) r y.left fy (omega (arith, m.inputs.1), omega arith) (omega (arith, m.is)) y.single,
                p,
              )));
        }

  pub joined_drafted : Drafted K n from top a i s w d joined
  joined_drafted = record {
    added = dx.added ++ (dy.added ++ (join l r ∷ []));
    planned = rw m.is (demand_plan_join u s w m.part (omega (arith, m.inputs)) q.kept.inputs.1 rest_operand part_operand);
    is =
        stepped_tokens g.plan (join l r) (omega (arith, joined_room, dy.steps))
        ∙ ap (λ t. t ++ (join l r ∷ [])) (dy.is ∙ ap (λ t. t ++ dy.added) dx.is) ∙ simp append_assoc;
    places = places_none;
    len = simp length-append (omega (arith, dx.len, dy.len));
    few = simp length-append (omega (arith, dx.few, dy.few, parts_length n u s m.part));
    steps = simp length-set dy.steps;
    rooms = dy.rooms;
    others = λ h k o.
        let p = parts_out n u s m.part h o in
        let t = dx.others h k p.0 in
        let t' = dy.others h k p.1 in
        (t'.0 ∙ t.0, t'.1 ∙ t.1);
    demands = every_mix (select_mix (upto n) u s m.part) rest_demands dy.demands;
  }
