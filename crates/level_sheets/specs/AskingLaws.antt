-- One gate's plan more: what is asked of it can be read back from its arrays, its plan meets that, and what its fanins are then asked can be asked of them.
use Rattle.std.specs.Prelude.{ℕ, zero, suc, ◌+◌, ◌-◌, ◌*◌, ◌^◌, ◌≤◌, ◌<◌, ◌≡◌, refl, ◌⊎◌, ◌≢◌, Bool, true, false, List, [], ◌∷◌, ◌++◌, length, get_or, set, take}
use Rattle.std.proofs.Common.{arith, sym, ap, ap₂, subst, ◌∙◌, inl, inr, append-nil, get_or-set_same, get_or-set_other}
use Rattle.std.proofs.Math.Decide.{dec_lt}
use Rattle.std.proofs.Math.Logic.{by_cases}
use Rattle.std.proofs.lemmas.List.{length-map}
use Rattle.lists.specs.Trusted.Lists.{◌∈◌}
use Rattle.lists.specs.Sequences.{Paired, no_pair, pair, upto}
use Rattle.lists.specs.Cases.{if_leb}
use Rattle.lists.specs.ListLaws.{every_at, map_at}
use Rattle.lists.specs.NumberLaws.{upto_length, upto_at}
use Rattle.tree.specs.Trusted.Tree.{Node, leaf, gate}
use Rattle.cover.specs.Trusted.Cover.{pick}
use Rattle.plan.specs.declared.Plan.{Plan}
use Rattle.plan.specs.Limits.{most_steps}
use Rattle.plan.specs.Steps.{tokens}
use Rattle.plan.specs.Masks.{select}
use Rattle.plan.specs.MaskLaws.{select_all}
use Rattle.sheet.specs.declared.Source.{Source}
use Rattle.sheet.specs.declared.Source.TheVariants.{Net, Gate}
use Rattle.sheet.specs.Trusted.Sheet.{DrawnSheet}
use Rattle.sheet.specs.Trusted.Trees.{node_of, edges_of, trees_of}
use Rattle.sheet.specs.Trusted.Formed.{WellFormed}
use Rattle.sheet.specs.PlaceLaws.{no_gate, no_edge, earlier_at, every_source}
use Rattle.levels.specs.Gives.{fanins}
use Rattle.levels.specs.Lines.{look}
use Rattle.levels.specs.Demands.{Demand, demand, DemandPlanned}
use Rattle.level_arrays.specs.Arrays.{big, entry_at, line_at, fan_line, fan_row, start_at, Ranged, Falling, ReadsBack, draft_demand, draft_demands, NetEntries, PlacesNone, Drafted}
use Rattle.level_arrays.specs.Askable.{Askable, FanLines}
use Rattle.level_arrays.specs.BackLaws.{arrays_fall, whole_entry, asked_kept, slot_entry, fan_askable, net_askable, gate_askable}
use Rattle.level_arrays.specs.declared.Fans.{Fans}
use Rattle.level_arrays.specs.declared.Draft.{Draft}
use Rattle.level_sheets.specs.SheetTrees.{fanins_length, fanins_at_lem, fanins_at, ReadsAt, reads_before, reads_once, read_somewhere, gate_tree}
use Rattle.level_sheets.specs.Lined.{FansOf, LowNets, Lined}
use Rattle.level_sheets.specs.LinedLaws.{by_fanin, lined_fans}
use Rattle.level_sheets.specs.PlansMeet.{is_net, reads_net, Asked, PlanFor, no_plan}
use Rattle.level_sheets.specs.Asking.{gate_entry, demand_at, demands_of, ReadFrom, Asking, AskedOf}

-- a fanin's row is the entry of the gate that it reads
row_entry_lem : (starts counts store : List ℕ) (f : Fans) (h i ℓ w : ℕ) → get_or f.levels h 0 ≡ get_or starts i 0 → get_or f.lines h 0 ≡ get_or counts i 0 → get_or f.gates h 0 ≡ i →
    1 ≤ get_or counts i 0 → fan_row store f ℓ h w ≡ gate_entry starts counts store i ℓ w
row_entry_lem starts counts store f h i ℓ w a c r o =
    ap (λ m. look big m (get_or f.lines h 0 - 1) (fan_line store f h) ℓ w) a
    ∙ ap (λ m. look big (get_or starts i 0) (m - 1) (λ j v. pick m (pick v big 0) (line_at store (get_or f.gates h 0) j v)) ℓ w) c
    ∙ ap (λ m. look big (get_or starts i 0) (get_or counts i 0 - 1) (λ j v. pick (get_or counts i 0) (pick v big 0) (line_at store m j v)) ℓ w) r
    ∙ (let k : get_or counts i 0 ≡ suc (get_or counts i 0 - 1) = omega arith in
    ap (λ m. look big (get_or starts i 0) (get_or counts i 0 - 1) (λ j v. pick m (pick v big 0) (line_at store i j v)) ℓ w) k)

-- a net's row has 0, or nothing
pick_net : (c v n : ℕ) → c ≡ 0 → 1 ≤ v → pick c (pick v big 0) n ≡ 0
pick_net c zero n e l = absurd (omega arith)
pick_net c (suc v) n e l = rw e refl

net_row : (store : List ℕ) (f : Fans) (h ℓ v : ℕ) → get_or f.lines h 0 ≡ 0 → 1 ≤ v → (fan_row store f ℓ h v ≡ 0) ⊎ (fan_row store f ℓ h v ≡ big)
unfolding look
net_row store f h ℓ v e l = if_leb (λ y. (y ≡ 0) ⊎ (y ≡ big)) (get_or f.levels h 0) ℓ (λ b. inl (pick_net (get_or f.lines h 0) v _ e l)) (λ b. inr refl)

upto_in : (n h : ℕ) → h < n → h ∈ upto n
upto_in n h l = subst (λ m. m ∈ upto n) (upto_at n h 0 l) (every_at {P = λ m. m ∈ upto n} (upto n) h 0 (λ m i. i) (omega (arith, upto_length n)))

paired_index : {A B : Type 0} (R : A → B → Type 0) (xs : List A) (ys : List B) (x : A) (y : B) → length xs ≡ length ys →
    ((h : ℕ) → h < length xs → R (get_or xs h x) (get_or ys h y)) → Paired R xs ys
paired_index R [] [] x y e r = no_pair
paired_index R [] (b ∷ ys) x y e r = absurd (omega arith)
paired_index R (a ∷ xs) [] x y e r = absurd (omega arith)
paired_index R (a ∷ xs) (b ∷ ys) x y e r = pair (r 0 (omega arith)) (paired_index R xs ys x y (omega arith) (λ h l. r (suc h) (omega arith)))

paired_by : {A B : Type 0} {R S : A → B → Type 0} {xs : List A} {ys : List B} (x : A) (y : B) → Paired R xs ys →
    ((h : ℕ) → h < length xs → R (get_or xs h x) (get_or ys h y) → S (get_or xs h x) (get_or ys h y)) → Paired S xs ys
paired_by x y no_pair f = no_pair
paired_by x y (pair r p) f = pair (f 0 (omega arith) r) (paired_by x y p (λ h l. f (suc h) (omega arith)))

pub demands_at : (starts counts store bounds inputs : List ℕ) (n j : ℕ) → j < n →
    get_or (demands_of starts counts store bounds inputs n) j (demand 0 0 0) ≡ demand_at starts counts store bounds inputs j
demands_at starts counts store bounds inputs n j m =
    map_at (demand_at starts counts store bounds inputs) (upto n) j 0 (demand 0 0 0) (omega (arith, upto_length n)) ∙ ap (demand_at starts counts store bounds inputs) (upto_at n j 0 m)

module _ (K : ℕ) (lev : ℕ → ℕ) (table : (2 ≤ K) × (K ≤ 6)) (s : DrawnSheet) (w : WellFormed s) (low : LowNets lev s.gates) {starts counts store : List ℕ}
    (x : Lined K lev s.gates (length s.gates) starts counts store) {g : ℕ} (l : g < length s.gates) {f : Fans}
    (q : FansOf lev starts counts (fanins_at s.gates g) f) {bounds inputs : List ℕ} {plans : List Plan}
    (y : Asking K lev s.gates starts counts store (suc g) bounds inputs plans) where
  abbrev trees : List Node
  trees = trees_of [] s.gates

  abbrev zs : List (Bool × Node)
  zs = fanins (edges_of trees (fanins_at s.gates g))

  -- this gate is asked
  pub is_asked : ReadFrom s.gates (suc g) g
  is_asked =
      by_cases (dec_lt (suc g) (length s.gates))
      (λ m. let (k, h, r) = read_somewhere s w g m in inr (k, h, omega (arith, reads_before s w r), r))
      (λ m. inl (omega arith))

  own : Askable K lev zs (demand_at starts counts store bounds inputs g)
  own = y.asked g l is_asked

  zs_length : length zs ≡ f.count
  zs_length = fanins_length trees (fanins_at s.gates g) ∙ sym q.count

  abbrev z : Bool × Node
  z = (false, leaf 0)

  fans : FanLines K lev zs z store f
  fans = lined_fans K lev table s w low x g l (omega arith) f q z

  many : 2 ≤ length zs
  many = let c = every_at s.gates g no_gate w.fanin_counts l in omega (arith, fanins_length trees (fanins_at s.gates g))

  abbrev ℓ : ℕ
  ℓ = get_or bounds g 0

  abbrev from : ℕ
  from = start_at f.count ℓ

  abbrev top : ℕ
  top = ℓ - from + 1

  -- WHAT READING BACK ASKS FOR
  module _ {a : List ℕ} (r : Ranged K f.count from top (fan_row store f) a) where
    ranged : Ranged K (length zs) from top (fan_row store f) a
    ranged = rw zs_length r

    pub asking_falls : Falling K f.count top a
    asking_falls = rw zs_length at (arrays_fall K lev table.0 zs z store f fans ranged)

    enough : (from ≡ 0) ⊎ (from + length zs ≤ suc (from + (ℓ - from)))
    enough = by_cases (dec_lt (f.count - 1) ℓ) (λ b. inr (omega (arith, zs_length))) (λ b. inl (omega arith))

    own_at : Askable K lev zs (demand (from + (ℓ - from)) (get_or inputs g 0) (gate_entry starts counts store g ℓ (get_or inputs g 0)))
    own_at = let e : from + (ℓ - from) ≡ ℓ = omega arith in rw e own

    pub asking_kept : ReadsBack K a top (2 ^ f.count - 1) (get_or inputs g 0)
    asking_kept = rw zs_length at (asked_kept K lev table.0 zs z store f fans ranged many (ℓ - from) (omega arith) enough own_at)

    net_entry : (h i v n : ℕ) → h < f.count → i ≤ top → 1 ≤ v → v ≤ K → get_or f.levels h 0 ≡ lev n → get_or f.lines h 0 ≡ 0 →
        (entry_at a (i * 8192) (2 ^ h) v ≡ 0) ⊎ (entry_at a (i * 8192) (2 ^ h) v ≡ big)
    net_entry h i v n m o k b lv ln =
        by_cases (dec_lt 0 (from + i))
        (λ c.
        let e = slot_entry K lev table.0 zs z store f fans ranged i (from + i - 1) h v o (omega arith) (omega (arith, zs_length)) b in
        subst (λ y. (y ≡ 0) ⊎ (y ≡ big)) (sym e) (net_row store f h (from + i - 1) v ln k))
        (λ c.
        let e : i ≡ 0 = omega arith in
        inr (ap (λ y. entry_at a (y * 8192) (2 ^ h) v) e ∙ r.nothing h v m b (omega arith)))

    -- AND WHAT IT GIVES
    module _ {d e : Draft} (p : Drafted K f.count from top a top (2 ^ f.count - 1) (get_or inputs g 0) d e) (none : d.plan.len ≡ 0)
        {bounds' inputs' : List ℕ} (v : AskedOf f e bounds inputs bounds' inputs') where
      all_fanins : {A : Type 0} (xs : List A) → length xs ≡ f.count → select (2 ^ f.count - 1) xs ≡ xs
      all_fanins xs m = select_all xs f.count m

      at_mask : (h : ℕ) → h < f.count → h ∈ select (2 ^ f.count - 1) (upto f.count)
      at_mask h m = rw (all_fanins (upto f.count) (upto_length f.count)) (upto_in f.count h m)

      fan_asked : (h : ℕ) → h < f.count → Askable K lev (get_or zs h z ∷ []) (draft_demand from a e h)
      fan_asked h m =
          let (b, c, k) = p.demands h (at_mask h m) in
          fan_askable K lev table.0 zs z store f fans ranged h (get_or e.bounds h 0 + 1 - from) (get_or e.bounds h 0) (get_or e.inputs h 0)
          (omega (arith, zs_length)) (omega arith) (omega arith) k

      -- what a fanin reads, as the sheet has it
      fan_is : (h : ℕ) → h < f.count → (src : Source) → (get_or (fanins_at s.gates g) h no_edge).source ≡ src →
          Askable K lev (((get_or (fanins_at s.gates g) h no_edge).inverted, node_of trees src) ∷ []) (draft_demand from a e h)
      fan_is h m src c =
          subst (λ u. Askable K lev (((get_or (fanins_at s.gates g) h no_edge).inverted, node_of trees u) ∷ []) (draft_demand from a e h)) c
          (subst (λ u. Askable K lev (u ∷ []) (draft_demand from a e h)) (fanins_at_lem trees (fanins_at s.gates g) h z (omega (arith, q.count))) (fan_asked h m))

      same_demand : (h i : ℕ) → h < f.count → get_or f.levels h 0 ≡ get_or starts i 0 → get_or f.lines h 0 ≡ get_or counts i 0 → get_or f.gates h 0 ≡ i → i < g →
          draft_demand from a e h ≡ demand_at starts counts store bounds' inputs' i
      same_demand h i m b c n o =
          let u = x.some i (omega arith) in
          let k = p.demands h (at_mask h m) in
          let t = v.read h m (omega arith) in
          let bs : get_or bounds' i 0 ≡ get_or e.bounds h 0 = ap (λ n. get_or bounds' n 0) (sym n) ∙ t.0 in
          let is : get_or inputs' i 0 ≡ get_or e.inputs h 0 = ap (λ n. get_or inputs' n 0) (sym n) ∙ t.1 in
          let row = slot_entry K lev table.0 zs z store f fans ranged (get_or e.bounds h 0 + 1 - from) (get_or e.bounds h 0) h (get_or e.inputs h 0)
          (omega (arith, k.1)) (omega (arith, k.0)) (omega (arith, zs_length)) k.2.inputs.1 ∙ row_entry_lem starts counts store f h i (get_or e.bounds h 0) (get_or e.inputs h 0) b c n u.0 in
          rw (bs, is) (ap (λ m. demand (get_or e.bounds h 0) (get_or e.inputs h 0) m) row)

      -- what no fanin of this gate reads is asked as before
      unasked : (j : ℕ) → ((h : ℕ) → ReadsAt s.gates g h j → ⊥) →
          demand_at starts counts store bounds' inputs' j ≡ demand_at starts counts store bounds inputs j
      unasked j never =
          let t = v.others j (λ h m o c. by_fanin K lev table s w low x g l (omega arith) f q ⊥ h (omega (arith, q.count)) (λ n k b i. omega arith)
          (λ i k b n u o'. let same : i ≡ j = sym u ∙ c in never h (record { gate = l; fanin = omega (arith, q.count); source = k ∙ ap (λ m. Gate (suc m)) same }))) in
          rw (t.0, t.1) refl

      own_same : demand_at starts counts store bounds' inputs' g ≡ demand_at starts counts store bounds inputs g
      own_same = unasked g (λ h r. omega (arith, reads_before s w r))

      -- the gate's plan
      draft_length : length (draft_demands f.count from a e) ≡ f.count
      draft_length = length-map (upto f.count) (draft_demand from a e) ∙ upto_length f.count

      draft_at : (h : ℕ) → h < f.count → get_or (draft_demands f.count from a e) h (demand 0 0 0) ≡ draft_demand from a e h
      draft_at h m =
          map_at (draft_demand from a e) (upto f.count) h 0 (demand 0 0 0) (omega (arith, upto_length f.count))
          ∙ ap (draft_demand from a e) (upto_at f.count h 0 m)

      abbrev ds : List Demand
      ds = demands_of starts counts store bounds' inputs' (length s.gates)

      ds_at : (j : ℕ) → j < length s.gates → get_or ds j (demand 0 0 0) ≡ demand_at starts counts store bounds' inputs' j
      ds_at = demands_at starts counts store bounds' inputs' (length s.gates)

      fan_met : (h : ℕ) → h < length (fanins_at s.gates g) →
          Asked lev ds (get_or (fanins_at s.gates g) h no_edge).source (get_or (draft_demands f.count from a e) h (demand 0 0 0))
      fan_met h m =
          let m' : h < f.count = omega (arith, q.count) in
          subst (Asked lev ds (get_or (fanins_at s.gates g) h no_edge).source) (sym (draft_at h m'))
          (by_fanin K lev table s w low x g l (omega arith) f q (Asked lev ds (get_or (fanins_at s.gates g) h no_edge).source (draft_demand from a e h)) h m
          (λ n k b c. rw k (net_askable {i = (get_or (fanins_at s.gates g) h no_edge).inverted} (fan_is h m' (Net n) k)))
          (λ i k b c n o.
          let d' : suc i - 1 ≡ i = omega arith in
          rw (k, d') (same_demand h i m' b c n o ∙ sym (ds_at i (omega arith)))))

      plan_len : e.plan.len ≤ most_steps
      plan_len =
          let c = every_at s.gates g no_gate w.fanin_counts l in
          omega (arith, p.len, none, p.few, ap length (all_fanins (upto f.count) (upto_length f.count)), upto_length f.count, q.count)

      plan_tokens : tokens e.plan ≡ p.added
      plan_tokens = p.is ∙ ap (λ n. take n d.plan.steps ++ p.added) none

      -- a net's entries are 0, or it has none
      net_entries : NetEntries K f.count top (reads_net (get_or s.gates g no_gate)) a
      net_entries h i v m c o k b =
          by_fanin K lev table s w low x g l (omega arith) f q _ h (omega (arith, q.count))
          (λ n e lv ln. net_entry h i v n m o k b lv ln)
          (λ j e lv ln r u. absurd (let z : ◌≡◌ {A = Bool} false true = subst (λ y. is_net y ≡ true) e c in let y : ◌≡◌ {A = ℕ} 0 1 = cc in omega arith))

      plan_places : PlacesNone f.count (2 ^ f.count - 1) (reads_net (get_or s.gates g no_gate)) p.added
      plan_places = p.places (reads_net (get_or s.gates g no_gate)) net_entries

      abbrev whole_demand : Demand
      whole_demand = demand (from + top - 1) (get_or inputs g 0) (entry_at a (top * 8192) (2 ^ f.count - 1) (get_or inputs g 0))

      whole_demand_lem : whole_demand ≡ demand_at starts counts store bounds inputs g
      whole_demand_lem =
          let b : from + top - 1 ≡ ℓ = omega arith in
          let c : top ≡ suc (ℓ - from) = omega arith in
          let m = whole_entry K lev table.0 zs z store f fans ranged many (ℓ - from) (omega arith) enough own_at in
          ap₂ (λ b m. demand b (get_or inputs g 0) m) b
          (ap₂ (λ i n. entry_at a (i * 8192) (2 ^ n - 1) (get_or inputs g 0)) c (sym zs_length) ∙ m)

      gate_planned : PlanFor K lev ds (get_or s.gates g no_gate) (demand_at starts counts store bounds' inputs' g) e.plan
      gate_planned = record {
        demands = draft_demands f.count from a e;
        asked = paired_index (λ f q. Asked lev ds f.source q) (fanins_at s.gates g) (draft_demands f.count from a e) no_edge (demand 0 0 0) (sym q.count ∙ sym draft_length) fan_met;
        planned =
            rw (plan_tokens, own_same, ← whole_demand_lem)
            (subst (λ ns. DemandPlanned K (draft_demands f.count from a e) ns p.added whole_demand)
            (all_fanins (upto (length (draft_demands f.count from a e))) (upto_length (length (draft_demands f.count from a e)) ∙ draft_length)) p.planned);
        places = rw (plan_tokens, ← (append-nil p.added)) (plan_places.places [] [] tt);
        len = plan_len;
      }

      -- the plans of the gates after it
      kept_plan : (j : ℕ) → g < j → j < length s.gates → (plan : Plan) →
          PlanFor K lev (demands_of starts counts store bounds inputs (length s.gates)) (get_or s.gates j no_gate) (demand_at starts counts store bounds inputs j) plan →
          PlanFor K lev ds (get_or s.gates j no_gate) (demand_at starts counts store bounds' inputs' j) plan
      kept_plan j m n plan t = record {
        demands = t.demands;
        asked = paired_by no_edge (demand 0 0 0) t.asked (λ h o r. asked_same h o (get_or (fanins_at s.gates j) h no_edge).source refl _ r);
        planned = rw (unasked j (λ h r. omega (arith, reads_before s w r))) t.planned;
        places = t.places;
        len = t.len;
      }
        where
          asked_same : (h : ℕ) → h < length (fanins_at s.gates j) → (src : Source) → (get_or (fanins_at s.gates j) h no_edge).source ≡ src →
              (q : Demand) → Asked lev (demands_of starts counts store bounds inputs (length s.gates)) src q → Asked lev ds src q
          asked_same h o (Net k) c q r = r
          asked_same h o (Gate zero) c q r =
              absurd (omega (arith, every_source {P = λ i. 1 ≤ i} (fanins_at s.gates j) h 0 (λ i b. (earlier_at 1 s.gates j no_gate w.earlier n i b).0) o c))
          asked_same h o (Gate (suc i)) c q r =
              let here : ReadsAt s.gates j h i = record { gate = n; fanin = o; source = c } in
              let b = reads_before s w here in
              let k : suc i - 1 ≡ i = omega arith in
              rw k
              ((rw k at r) ∙ demands_at starts counts store bounds inputs (length s.gates) i (omega arith)
              ∙ sym (unasked i (λ h' r'. let u = reads_once s w here r' in omega (arith, u.0))) ∙ sym (ds_at i (omega arith)))

      -- a gate that this one reads
      fan_gate : (h j : ℕ) → ReadsAt s.gates g h j →
          Askable K lev (fanins (edges_of trees (fanins_at s.gates j))) (demand_at starts counts store bounds' inputs' j) × (get_or bounds' j 0 ≤ 2000)
      fan_gate h j r =
          let m : h < f.count = omega (arith, q.count, r.fanin) in
          let b = reads_before s w r in
          by_fanin K lev table s w low x g l (omega arith) f q _ h r.fanin
          (λ n k c o. absurd (let u : Net n ≡ Gate (suc j) = sym k ∙ r.source in let z : ◌≡◌ {A = ℕ} 0 1 = cc in omega arith))
          (λ i k c n o u.
          let same : suc i ≡ suc j = (let e : Gate (suc i) ≡ Gate (suc j) = sym k ∙ r.source in cc e) in
          let i-is : i ≡ j = omega arith in
          let d' : suc j - 1 ≡ j = omega arith in
          let t = rw (d', gate_tree s w j (omega arith)) at (fan_is h m (Gate (suc j)) r.source) in
          let v' = same_demand h i m c n o u in
          let high = p.demands h (at_mask h m) in (
            subst (λ q. Askable K lev (fanins (edges_of trees (fanins_at s.gates j))) q) (v' ∙ ap (demand_at starts counts store bounds' inputs') i-is)
                (gate_askable {i = (get_or (fanins_at s.gates g) h no_edge).inverted} {k = (get_or s.gates j no_gate).kind} t),
            omega (arith, ap (λ q. q.bound) v', ap (λ n. get_or bounds' n 0) i-is, high.1, y.low g l is_asked),
          ))

      before : (j : ℕ) → j < length s.gates → ReadFrom s.gates (suc g) j → ((h : ℕ) → ReadsAt s.gates g h j → ⊥) →
          Askable K lev (fanins (edges_of trees (fanins_at s.gates j))) (demand_at starts counts store bounds' inputs' j) × (get_or bounds' j 0 ≤ 2000)
      before j m r never = (rw (unasked j never) (y.asked j m r), omega (arith, ap (λ q. q.bound) (unasked j never), y.low j m r))

      -- what is asked of a gate that one of those from this one on reads
      asked_now : (j : ℕ) → j < length s.gates → ReadFrom s.gates g j →
          Askable K lev (fanins (edges_of trees (fanins_at s.gates j))) (demand_at starts counts store bounds' inputs' j) × (get_or bounds' j 0 ≤ 2000)
      asked_now j m (inl root) = before j m (inl root) (λ h r. omega (arith, reads_before s w r))
      asked_now j m (inr (k, h, o, r)) =
          by_cases (dec_lt g k)
          (λ b. before j m (inr (k, h, b, r)) (λ h' r'. let u = reads_once s w r r' in omega (arith, u.0)))
          (λ b. let here : k ≡ g = omega arith in fan_gate h j (rw (← here) r))

      -- ONE GATE'S PLAN MORE
      pub asking_next : g < length plans → Asking K lev s.gates starts counts store g bounds' inputs' (set plans g e.plan)
      asking_next room = record {
        asked = λ j m r. (asked_now j m r).0;
        low = λ j m r. (asked_now j m r).1;
        planned = λ j m n.
            by_cases (dec_lt g j)
            (λ b. let c : j ≢ g = λ e. omega arith in rw (get_or-set_other plans g j e.plan no_plan c) (kept_plan j b n (get_or plans j no_plan) (y.planned j b n)))
            (λ b. let c : j ≡ g = omega arith in rw (c, get_or-set_same plans g e.plan no_plan room) gate_planned);
      }
