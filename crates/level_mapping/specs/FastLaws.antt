-- The code's mapping to the fewest levels: a gate's lines more, a plan more, and the end.
use Rattle.std.specs.Prelude.{ℕ, zero, suc, ◌+◌, ◌-◌, ◌*◌, ◌^◌, ◌≤◌, ◌<◌, ◌≡◌, List, length, get_or, set}
use Rattle.std.proofs.Common.{add-one, arith, sym, ap, subst, ◌∙◌, length-set}
use Rattle.lists.specs.Trusted.Lists.{◌∈◌}
use Rattle.lists.specs.ListLaws.{get_d_any}
use Rattle.plan.specs.declared.Plan.{Plan}
use Rattle.levels.specs.Trusted.Levels.{level, Fastest}
use Rattle.levels.specs.Demands.{demand}
use Rattle.sheet.specs.declared.Sheet.{Sheet}
use Rattle.sheet.specs.declared.Gate.{Gate as SheetGate}
use Rattle.sheet.specs.Trusted.Limits.{most_gates}
use Rattle.sheet.specs.Trusted.Sheet.{DrawnGate, fanin_nets}
use Rattle.sheet.specs.Trusted.Answers.{drawn_gate, drawn_sheet}
use Rattle.sheet.specs.Trusted.Trees.{tree_of}
use Rattle.sheet.specs.PlaceLaws.{no_gate, no_sheet_gate, sheet_gates, sheet_gate, gate_counted, gate_reads}
use Rattle.level_arrays.specs.Arrays.{big, line_at, fan_row, start_at, FansGood, LinesKept, Ranged, Falling, ReadsBack, Drafted}
use Rattle.level_arrays.specs.declared.Fans.{Fans}
use Rattle.level_arrays.specs.declared.Draft.{Draft}
use Rattle.level_sheets.specs.SheetTrees.{fanins_at, gather_out, ReadsAt, reads_once}
use Rattle.level_sheets.specs.Lined.{FansOf, FansReach, Lined, net_level}
use Rattle.level_sheets.specs.LinedLaws.{lined_start, lined_next, lined_good, by_fanin}
use Rattle.level_sheets.specs.PlansMeet.{no_demand, last_demand}
use Rattle.level_sheets.specs.Asking.{demands_of, Asking, AskedOf}
use Rattle.level_sheets.specs.AskingLaws.{is_asked, asking_falls, asking_kept, asking_next, demands_at}
use Rattle.level_sheets.specs.RootLaws.{root_some, root_fastest, root_demand, asking_start, asking_end}
use Rattle.mapper_laws.specs.declared.Mapping.{Mapping}
use Rattle.mapper_laws.specs.CodeMap.{Sheetable}
use Rattle.level_mapping.specs.PlanMapped.{MappedWithin}
use Rattle.level_mapping.specs.FastMapping.{NetsLow, LevelsLow, LinesFound, LineRooms, FirstLineHad, FirstLine, PlansChosen, FastMapped}

-- THE END: a cover within the least level and then the fewest tables has them
pub fast_mapped : {K used : ℕ} {lev : ℕ → ℕ} {s : Sheet} {r : Mapping} (bound below : ℕ) → Fastest lev K (tree_of (drawn_sheet s)) (suc below) (suc bound) →
    MappedWithin K used lev bound below s r → FastMapped K used lev s r
fast_mapped {K} {lev = lev} {s} {r} bound below f m = record {
  room = m.room;
  few = m.few;
  kept = m.kept;
  fastest = λ old e.
      let (x, h, t, n) = m.covered old e in
      let d : suc bound ≡ level lev x.cover = omega (arith, f.none_lower x.cover x.covers, h) in
      let c : suc below ≡ r.count = omega (arith, f.none_fewer x.cover x.covers (sym d), t, n) in
      (x, subst (λ y. Fastest lev K (tree_of (drawn_sheet s)) y (level lev x.cover)) c (subst (λ y. Fastest lev K (tree_of (drawn_sheet s)) (suc below) y) d f));
}

-- every net of a sheet has a level that is not high
pub nets_low : {K used : ℕ} {s : Sheet} {levels : List ℕ} → Sheetable K used s → LevelsLow levels → NetsLow K s levels
nets_low p l = record {
  table = p.table;
  formed = p.formed;
  inside = λ n m. let b = p.formed.leaf_nets_lem n m in omega (arith, l.places);
  low = λ n m. l.low n;
}

module _ {K : ℕ} (c : Sheet) {levels : List ℕ} (low : NetsLow K c levels) (room : length c.gates ≡ most_gates) (most : c.count ≤ most_gates) where
  abbrev lev : ℕ → ℕ
  lev = net_level levels

  abbrev gates : List DrawnGate
  gates = (drawn_sheet c).gates

  count_is : length gates ≡ c.count
  count_is = sheet_gates c low.formed room most

  -- a gate, counted from 0
  module _ {g : ℕ} (l : g < c.count) where
    abbrev here : SheetGate
    here = get_or c.gates g no_sheet_gate

    at_here : g < length gates
    at_here = omega (arith, count_is)

    here_is : get_or gates g no_gate ≡ drawn_gate c.fanins here
    here_is = sheet_gate c low.formed room most l

    pub fast_reach : FansReach c.fanins here levels
    fast_reach = record {
      few = (gate_counted c low.formed room most l).1;
      gates = λ j m. let b = gate_reads c low.formed room most l j m in (b.0, omega (arith, b.1));
      nets = λ n m. low.inside n (gather_out (λ g. fanin_nets g.fanins) no_gate gates g at_here (subst (λ x. n ∈ fanin_nets x.fanins) (sym here_is) m));
    }

    fans_at : {starts counts : List ℕ} {f : Fans} → FansOf lev starts counts (drawn_gate c.fanins here).fanins f → FansOf lev starts counts (fanins_at gates g) f
    fans_at {starts} {counts} {f} q = subst (λ x. FansOf lev starts counts x.fanins f) (sym here_is) q

    -- ITS LINES, where those of the gates before it are there
    module _ (starts counts store : List ℕ) (x : Lined K lev gates g starts counts store) {f : Fans}
        (q : FansOf lev starts counts (drawn_gate c.fanins here).fanins f) where
      pub fast_good : FansGood K g f
      fast_good = lined_good K lev low.table (drawn_sheet c) low.formed low.low x g at_here (omega arith) f (fans_at q)

      pub fast_more : {store' : List ℕ} {a n : ℕ} → LineRooms starts counts store → LinesKept K g f store store' a n →
          Lined K lev gates (g + 1) (set starts g a) (set counts g n) store'
      fast_more r y =
          rw (add-one g)
          (lined_next K lev low.table (drawn_sheet c) low.formed low.low x at_here f (fans_at q) (omega (arith, most, r.gates)) (omega (arith, most, r.gates)) y)

      pub rooms_more : {store' : List ℕ} {a n : ℕ} → LineRooms starts counts store → LinesKept K g f store store' a n → LineRooms (set starts g a) (set counts g n) store'
      rooms_more {a = a} {n = n} r y = record {
        gates = (length-set starts g a ∙ r.gates.0, length-set counts g n ∙ r.gates.1);
        lines = y.room ∙ r.lines;
      }

    -- ITS PLAN, where those of the gates after it are there
    module _ (starts counts store : List ℕ) (x : LinesFound K c levels starts counts store) {f : Fans}
        (q : FansOf lev starts counts (drawn_gate c.fanins here).fanins f) where
      pub plan_good : FansGood K c.count f
      plan_good =
          let y = lined_good K lev low.table (drawn_sheet c) low.formed low.low x g at_here (omega (arith, at_here)) f (fans_at q) in
          record { some = y.some; rooms = y.rooms; before = λ h m o. omega (arith, y.before h m o); few = y.few; low = y.low }

      -- no two of its fanins read one gate
      pub plan_apart : (h i : ℕ) → h < f.count → i < f.count → 0 < get_or f.lines h 0 → 0 < get_or f.lines i 0 → get_or f.gates h 0 ≡ get_or f.gates i 0 → h ≡ i
      plan_apart h i m n o p e =
          of h m o (λ j r. of i n p (λ k s. let d : j ≡ k = sym r.1 ∙ e ∙ s.1 in (reads_once (drawn_sheet c) low.formed r.0 (subst (λ n. ReadsAt gates g i n) (sym d) s.0)).1))
        where
          of : {P : Type 0} (h : ℕ) → h < f.count → 0 < get_or f.lines h 0 → ((j : ℕ) → ReadsAt gates g h j × (get_or f.gates h 0 ≡ j) → P) → P
          of {P} h m o y =
              by_fanin K lev low.table (drawn_sheet c) low.formed low.low x g at_here (omega (arith, at_here)) f (fans_at q) P h (omega (arith, (fans_at q).count))
              (λ k a b d. absurd (omega arith))
              (λ j a b d r u. y j (record { gate = at_here; fanin = omega (arith, (fans_at q).count); source = a }, r))

      module _ (bounds inputs : List ℕ) {plans : List Plan} (y : Asking K lev gates starts counts store (g + 1) bounds inputs plans) where
        asking : Asking K lev gates starts counts store (suc g) bounds inputs plans
        asking = rw (add-one g) at y

        pub plan_back : (a : List ℕ) → Ranged K f.count (start_at f.count (get_or bounds g 0)) (get_or bounds g 0 - start_at f.count (get_or bounds g 0) + 1) (fan_row store f) a →
            Falling K f.count (get_or bounds g 0 - start_at f.count (get_or bounds g 0) + 1) a
            × ReadsBack K a (get_or bounds g 0 - start_at f.count (get_or bounds g 0) + 1) (2 ^ f.count - 1) (get_or inputs g 0)
        plan_back a r = (
          asking_falls K lev low.table (drawn_sheet c) low.formed low.low x at_here (fans_at q) asking r,
          asking_kept K lev low.table (drawn_sheet c) low.formed low.low x at_here (fans_at q) asking r,
        )

        pub plan_more : {a : List ℕ} → Ranged K f.count (start_at f.count (get_or bounds g 0)) (get_or bounds g 0 - start_at f.count (get_or bounds g 0) + 1) (fan_row store f) a →
            {d e : Draft} → Drafted K f.count (start_at f.count (get_or bounds g 0)) (get_or bounds g 0 - start_at f.count (get_or bounds g 0) + 1) a
            (get_or bounds g 0 - start_at f.count (get_or bounds g 0) + 1) (2 ^ f.count - 1) (get_or inputs g 0) d e →
            d.plan.len ≡ 0 → {bounds' inputs' : List ℕ} → AskedOf f e bounds inputs bounds' inputs' → length plans ≡ most_gates →
            Asking K lev gates starts counts store g bounds' inputs' (set plans g e.plan)
        plan_more r p none v m =
            asking_next K lev low.table (drawn_sheet c) low.formed low.low x at_here (fans_at q) asking r p none v (omega (arith, most))

        pub plan_low : get_or bounds g 0 ≤ 2000
        plan_low = asking.low g at_here (is_asked K lev low.table (drawn_sheet c) low.formed low.low x at_here (fans_at q) asking)

      -- the root is read by none
      pub plan_root : {e : Draft} {bounds inputs bounds' inputs' : List ℕ} → AskedOf f e bounds inputs bounds' inputs' →
          (get_or bounds' (c.count - 1) 0 ≡ get_or bounds (c.count - 1) 0) × (get_or inputs' (c.count - 1) 0 ≡ get_or inputs (c.count - 1) 0)
      plan_root v =
          v.others (c.count - 1)
          (λ h m o d. by_fanin K lev low.table (drawn_sheet c) low.formed low.low x g at_here (omega (arith, at_here)) f (fans_at q) ⊥ h (omega (arith, (fans_at q).count))
          (λ k a b e. omega arith) (λ k a b e r u. omega arith))

  -- ---- the beginning and the end

  pub fast_start_lem : {starts counts store : List ℕ} → Lined K lev gates 0 starts counts store
  fast_start_lem = lined_start

  pub fast_found : {g : ℕ} {starts counts store : List ℕ} → c.count ≤ g → Lined K lev gates g starts counts store → LinesFound K c levels starts counts store
  fast_found {g} {starts} {counts} {store} l x =
      let e : g ≡ length gates = omega (arith, count_is, x.at) in
      rw (← e) x

  module _ (starts counts store : List ℕ) (x : LinesFound K c levels starts counts store) (rooms : LineRooms starts counts store) where
    last_is : length gates - 1 ≡ c.count - 1
    last_is = ap (λ n. n - 1) count_is

    pub some_gate : 1 ≤ c.count
    some_gate = omega (arith, count_is, low.formed.gate_count.0)

    pub first_had : FirstLineHad K (c.count - 1) (get_or counts (c.count - 1) 0) store
    first_had = record {
      table = low.table;
      gate = omega (arith, most, some_gate);
      lines = x.some (c.count - 1) (omega (arith, count_is, some_gate));
      last = subst (λ n. line_at store n (get_or counts n 0 - 1) K < big) last_is (root_some K lev low.table (drawn_sheet c) low.formed x);
      room = rooms.lines;
    }

    module _ (j : ℕ) (f : FirstLine K (c.count - 1) (get_or counts (c.count - 1) 0) store j) where
      at_root : FirstLine K (length gates - 1) (get_or counts (length gates - 1) 0) store j
      at_root = subst (λ n. FirstLine K n (get_or counts n 0) store j) (sym last_is) f

      -- its bound is not high
      pub first_low : get_or starts (c.count - 1) 0 + j ≤ 2000
      first_low =
          let l : c.count - 1 < length gates = omega (arith, count_is, some_gate) in
          omega (arith, x.low (c.count - 1) l, x.some (c.count - 1) l, f.within)

      pub choose_start : (bounds inputs : List ℕ) (plans : List Plan) → get_or bounds (c.count - 1) 0 ≡ get_or starts (c.count - 1) 0 + j → get_or inputs (c.count - 1) 0 ≡ K →
          Asking K lev gates starts counts store c.count bounds inputs plans
      choose_start bounds inputs plans b i =
          subst (λ n. Asking K lev gates starts counts store n bounds inputs plans) count_is
          (asking_start K lev low.table (drawn_sheet c) low.formed x j at_root.within at_root.some at_root.none bounds inputs
          (subst (λ n. get_or bounds n 0 ≡ get_or starts n 0 + j) (sym last_is) b) (subst (λ n. get_or inputs n 0 ≡ K) (sym last_is) i) plans)

      -- every gate has its plan; what was asked of the root was not asked again
      pub plans_chosen : {bounds inputs : List ℕ} {plans : List Plan} → get_or bounds (c.count - 1) 0 ≡ get_or starts (c.count - 1) 0 + j → get_or inputs (c.count - 1) 0 ≡ K →
          Asking K lev gates starts counts store 0 bounds inputs plans → PlansChosen K c levels plans
      plans_chosen {bounds} {inputs} {plans} b i y = record {
        demands = demands_of starts counts store bounds inputs (length gates);
        meet = asking_end K lev low.table (drawn_sheet c) low.formed x y;
        fastest =
            rw root_is
            (root_fastest K lev low.table (drawn_sheet c) low.formed x j at_root.within at_root.some at_root.none);
      }
        where
          root_is : last_demand (demands_of starts counts store bounds inputs (length gates)) ≡ demand (get_or starts (length gates - 1) 0 + j) K (line_at store (length gates - 1) j K)
          root_is =
              ap (λ n. get_or (demands_of starts counts store bounds inputs (length gates)) (n - 1) no_demand) (asking_end K lev low.table (drawn_sheet c) low.formed x y).count
              ∙ demands_at starts counts store bounds inputs (length gates) (length gates - 1) (omega (arith, low.formed.gate_count.0))
              ∙ root_demand K lev low.table (drawn_sheet c) low.formed x j at_root.within at_root.some at_root.none bounds inputs
              (subst (λ n. get_or bounds n 0 ≡ get_or starts n 0 + j) (sym last_is) b) (subst (λ n. get_or inputs n 0 ≡ K) (sym last_is) i) plans

-- ---- the first line

-- an entry of a line, as it is read
pub line_read : (store : List ℕ) (g j K : ℕ) → 1 ≤ K → K ≤ 6 → g < 255 → j < 256 → length store ≡ 391680 → get_or store ((g * 256 + j) * 6 + (K - 1)) 0 ≡ line_at store g j K
line_read store g j zero a b l m e = absurd (omega arith)
line_read store g j (suc w) a b l m e = get_d_any store ((g * 256 + j) * 6 + (suc w - 1)) 0 big (omega arith)
