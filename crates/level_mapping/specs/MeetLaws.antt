-- A gate's plan that meets a demand is a plan with a key that is within it, and what its run makes meets the demand.
use Rattle.std.specs.Prelude.{ℕ, zero, suc, ◌-◌, ◌≤◌, ◌<◌, ◌≡◌, refl, Bool, true, false, ◌&&◌, List, [], ◌∷◌, ◌++◌, length, get_or}
use Rattle.std.proofs.Common.{arith, sym, ◌∙◌, append_assoc, append-nil, length-append}
use Rattle.std.proofs.lemmas.List.{length-map, get_or_at}
use Rattle.std.proofs.Math.ListN.{get_or-append}
use Rattle.lists.specs.Cases.{by_eqb}
use Rattle.lists.specs.Trusted.Lists.{Every}
use Rattle.lists.specs.Sequences.{Paired, no_pair, pair, upto}
use Rattle.lists.specs.ListLaws.{every_head, every_left, every_right}
use Rattle.tree.specs.Trusted.Tree.{Node, leaf, gate}
use Rattle.cover.specs.Trusted.Cover.{top, Fanins}
use Rattle.cover.specs.Nets.{tables_most, tables_most*}
use Rattle.plan.specs.declared.Key.{Key}
use Rattle.plan.specs.declared.Plan.{Plan}
use Rattle.plan.specs.declared.Token.{Token}
use Rattle.plan.specs.declared.Token.TheVariants.{Join as join}
use Rattle.plan.specs.Key.{leaf_key, chosen, ◌⊕◌, KeyTaken, held, cut, KeyJoined}
use Rattle.plan.specs.Plans.{Denotes, fanin, binary, Planned, made, Runs}
use Rattle.plan.specs.Steps.{tokens}
use Rattle.levels.specs.Demands.{Demand, taken_as, DemandJoins, PlanMeets, LevelStanding, LevelReady, ready_none, ready_edge}
use Rattle.levels.proofs.DemandLaws.{demand_body, level_net, level_standing}
use Rattle.sheet.specs.declared.Source.{Source}
use Rattle.sheet.specs.declared.Source.TheVariants.{Net, Gate}
use Rattle.sheet.specs.declared.Edge.{Edge}
use Rattle.sheet.specs.Trusted.Sheet.{DrawnGate, gate_of, fanin_gates}
use Rattle.sheet.specs.Trusted.Trees.{node_of, edges_of}
use Rattle.sheet.specs.PlaceLaws.{no_edge}
use Rattle.mapper_laws.specs.Mapping.{GatesMapped, unmapped, mapped_at, Stood, cover_of, key_of, source_cover, keys_of, covers_of}
use Rattle.mapper_laws.specs.MappingLaws.{paired_length, source_standing}
use Rattle.level_arrays.specs.Arrays.{PlacesGates}
use Rattle.level_sheets.specs.PlansMeet.{no_demand, Asked, is_net, reads_net, PlanFor}
use Rattle.level_mapping.specs.PlanMapped.{GatesMeet}

-- ---- its key

-- the key of an operand is within its demand; where the operand is no net, it has two inputs or more
record KeyWithin (net : Bool) (a : Key) (d : Demand) : Type 0 where
  some : 1 ≤ a.width
  wide : net ≡ false → 2 ≤ a.width
  inputs : a.width ≤ d.inputs
  below : a.below ≤ d.below

taken_within : (l : Bool) {x : Bool} {a : Key} {d : Demand} → KeyWithin x a d → (l && x) ≡ false →
    (b : Key) × KeyTaken a l b × (1 ≤ b.width) × (b.width ≤ (taken_as l d).inputs) × (b.below ≤ (taken_as l d).below)
taken_within false {a = a} w h = (a, held, w.some, w.inputs, w.below)
taken_within true {a = a} w h = (chosen a, cut (w.wide h), omega arith, omega arith, omega (arith, w.below))

join_within : {K : ℕ} (l r : Bool) {x y : Bool} {a b : Key} {u v d : Demand} → KeyWithin x a u → KeyWithin y b v → (l && x) ≡ false → (r && y) ≡ false →
    DemandJoins K (taken_as l u) (taken_as r v) d → (k : Key) × KeyJoined K l r a b k × KeyWithin false k d
join_within l r w z e f j =
    let (a, s, i, m, n) = taken_within l w e in
    let (b, t, i', m', n') = taken_within r z f in (
      a ⊕ b,
      record { left = a; right = b; took_left = s; took_right = t; fits = omega (arith, j.inputs, j.most); is = refl },
      record { some = omega arith; wide = λ q. omega arith; inputs = omega (arith, j.inputs); below = omega (arith, j.below) },
    )

module _ {K : ℕ} {qs : List Demand} {ks : List Key} (net : ℕ → Bool) (same : length ks ≡ length qs)
    (within : (i : ℕ) → i < length qs → KeyWithin (net i) (get_or ks i leaf_key) (get_or qs i no_demand)) where
  meets_denotes : {p : List Token} {ns : List ℕ} {d : Demand} → PlanMeets K qs p ns d → (q : List Token) (st : List Bool) → PlacesGates net (p ++ q) st →
      (a : Key) × Denotes K ks p ns a × (x : Bool) × KeyWithin x a d × PlacesGates net q (x ∷ st)
  meets_denotes (PlanMeets.fanin i l) q st h = (_, fanin i (omega arith), _, within i l, h)
  meets_denotes (PlanMeets.binary {p = p₁} {q = p₂} l r u v j) q st h =
      let (a, x, f, w, g) = meets_denotes u (p₂ ++ (join l r ∷ q)) st (rw (append_assoc p₁ (p₂ ++ (join l r ∷ [])) q, append_assoc p₂ (join l r ∷ []) q) at h) in
      let (b, y, e, z, k) = meets_denotes v (join l r ∷ q) (f ∷ st) g in
      let (c, s, t) = join_within l r w z k.0 k.1 j in
      (c, binary x y s, false, t, k.2)

-- ---- one gate

module _ (K : ℕ) (two : 2 ≤ K) (lev : ℕ → ℕ) (ds : List Demand) {ts : List Node} {done : List GatesMapped} (stood : Paired (Stood K) ts done)
    (meet : GatesMeet K lev ds ts done) where
  -- what a fanin reads meets what it is asked
  source_meets : (s : Source) (q : Demand) → Asked lev ds s q → Every (λ j. (1 ≤ j) × (j ≤ length done)) (gate_of s) →
      LevelStanding K lev (node_of ts s) q (source_cover done s)
  source_meets (Net n) q a h = level_net K lev n q (omega arith) a.1 a.0
  source_meets (Gate g) q a h = let b = every_head h in rw a (meet (g - 1) (omega arith))

  fanins_meet : {fs : List Edge} {qs : List Demand} → Paired (λ f q. Asked lev ds f.source q) fs qs → Every (λ j. (1 ≤ j) × (j ≤ length done)) (fanin_gates fs) →
      LevelReady K lev (edges_of ts fs) (covers_of done fs) qs
  fanins_meet no_pair h = ready_none
  fanins_meet (pair {x = f} {y = q} {xs = fs} a p) h =
      ready_edge (source_meets f.source q a (every_left (gate_of f.source) (fanin_gates fs) h)) (fanins_meet p (every_right (gate_of f.source) (fanin_gates fs) h))

  -- and so its key is within that
  gate_wide : (s : Source) → Every (λ j. (1 ≤ j) × (j ≤ length done)) (gate_of s) → is_net s ≡ false → 2 ≤ (key_of done s).width
  gate_wide (Net n) h e = let z : ◌≡◌ {A = ℕ} 0 1 = cc e in absurd (omega arith)
  gate_wide (Gate g) h e =
      let k = source_standing K two stood (Gate g) h in
      omega (arith, tables_most* K (mapped_at done g).body k.fits.2, k.fits.0, k.inputs)

  source_within : (s : Source) (q : Demand) → Asked lev ds s q → Every (λ j. (1 ≤ j) × (j ≤ length done)) (gate_of s) → KeyWithin (is_net s) (key_of done s) q
  source_within s q a h =
      let k = source_standing K two stood s h in
      let m = source_meets s q a h in
      record {
        some = omega (arith, tables_most K (source_cover done s) k.fits, k.inputs);
        wide = gate_wide s h;
        inputs = omega (arith, k.inputs, m.inputs);
        below = omega (arith, k.count, m.count);
      }

  fanins_within : {fs : List Edge} {qs : List Demand} → Paired (λ f q. Asked lev ds f.source q) fs qs → Every (λ j. (1 ≤ j) × (j ≤ length done)) (fanin_gates fs) →
      (i : ℕ) → i < length qs → KeyWithin (is_net (get_or fs i no_edge).source) (get_or (keys_of done fs) i leaf_key) (get_or qs i no_demand)
  fanins_within no_pair h i l = absurd (omega arith)
  fanins_within (pair {x = f} {y = q} {xs = fs} a p) h zero l = source_within f.source q a (every_left (gate_of f.source) (fanin_gates fs) h)
  fanins_within (pair {x = f} {y = q} {xs = fs} a p) h (suc i) l = fanins_within p (every_right (gate_of f.source) (fanin_gates fs) h) i (omega arith)

  module _ {g : DrawnGate} {d : Demand} {p : Plan} (f : PlanFor K lev ds g d p) (gates : Every (λ j. (1 ≤ j) × (j ≤ length done)) (fanin_gates g.fanins)) where
    demand_count : length f.demands ≡ length (keys_of done g.fanins)
    demand_count = sym (paired_length f.asked) ∙ sym (length-map g.fanins (λ z. key_of done z.source))

    -- THE PLAN HAS A KEY
    pub meets_planned : (a : Key) × Planned K (keys_of done g.fanins) (upto (length (keys_of done g.fanins))) (tokens p) a
    meets_planned =
        let (a, b, x, w, e) = meets_denotes (reads_net g) (sym demand_count) (fanins_within f.asked gates) f.planned.meets [] [] (rw append-nil f.places) in
        (a, record { order = f.planned.order; denotes = b; once = rw demand_count at f.planned.once })

    -- WHAT ITS RUN MAKES meets the demand
    pub run_meets : {body : Fanins} → Runs (covers_of done g.fanins) (tokens p) [] (made body ∷ []) → 2 ≤ length g.fanins →
        LevelStanding K lev (gate g.kind (edges_of ts g.fanins)) d (top 0 g.kind body)
    run_meets {body} r many =
        let (b, e, l) = demand_body K lev (fanins_meet f.asked gates) (omega (arith, many, demand_count, length-map g.fanins (λ z. key_of done z.source))) f.planned r in
        let same : b ≡ body = cc e in
        level_standing K lev (rw same at l) g.kind

-- one gate more
pub meet_next : {K : ℕ} {lev : ℕ → ℕ} (ds : List Demand) {ts : List Node} {done : List GatesMapped} (t : Node) (d : GatesMapped) → Paired (Stood K) ts done →
    GatesMeet K lev ds ts done → LevelStanding K lev t (get_or ds (length done) no_demand) (cover_of d) → GatesMeet K lev ds (ts ++ (t ∷ [])) (done ++ (d ∷ []))
meet_next {K} {lev} ds {ts} {done} t d stood meet s j i =
    let e = paired_length stood in
    by_eqb (λ b. LevelStanding K lev (get_or (ts ++ (t ∷ [])) j (leaf 0)) (get_or ds j no_demand) (cover_of (get_or (done ++ (d ∷ [])) j unmapped))) j (length done)
    (λ q. rw (get_or_at ts t [] (leaf 0) j (e ∙ sym q), get_or_at done d [] unmapped j (sym q), q) s)
    (λ q.
    let k : j < length done = omega (arith, i, length-append done (d ∷ [])) in
    rw (get_or-append ts (t ∷ []) (leaf 0) j (omega arith), get_or-append done (d ∷ []) unmapped j k) (meet j k))
