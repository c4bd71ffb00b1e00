-- The code's mapping of a whole sheet: gate by gate, each by some plan, and the root's table last.
use Rattle.std.specs.Prelude.{ℕ, zero, suc, ◌+◌, ◌-◌, ◌<◌, ◌≤◌, ◌≡◌, refl, Bool, true, false, List, [], ◌∷◌, ◌++◌, map, length, get_or, set, take, drop, replicate}
use Rattle.std.proofs.Common.{add-one, arith, sym, ap, ap₂, ◌∙◌, subst, length-set, length-append, take-append-drop, get_or-take, length-take-le, take-suc, take-suc-set, get_or-set_same, get_or-set_other}
use Rattle.std.proofs.Math.ListN.{get_or-append}
use Rattle.std.proofs.lemmas.List.{length-map, length-replicate, get_or_at}
use Rattle.std.proofs.Math.Seq.{take-length}
use Rattle.lists.specs.Cases.{by_eqb}
use Rattle.lists.specs.Trusted.Lists.{Every, Distinct, gather, sorted}
use Rattle.lists.specs.Sequences.{upto}
use Rattle.lists.specs.ListLaws.{every_none, every_cons, every_head, every_append, every_left, every_right, every_at, gather_append}
use Rattle.tree.specs.Trusted.Limits.{code_base}
use Rattle.plan.specs.declared.Key.{Key}
use Rattle.plan.specs.declared.Plan.{Plan}
use Rattle.plan.specs.Limits.{most_steps}
use Rattle.plan.specs.Steps.{tokens}
use Rattle.plan.specs.Entries.{Small, GoodKeys}
use Rattle.plan.specs.Plans.{Planned}
use Rattle.cover.specs.Trusted.Placed.{codes*, held*, gate_table}
use Rattle.cover.specs.Trusted.Tables.{LookupTable}
use Rattle.sheet.specs.declared.Source.{Source}
use Rattle.sheet.specs.declared.Source.TheVariants.{Net, Gate}
use Rattle.sheet.specs.declared.Edge.{Edge}
use Rattle.sheet.specs.Trusted.Limits.{most_gates, most_leaves}
use Rattle.sheet.specs.Trusted.Sheet.{DrawnGate, DrawnSheet, gate_of, fanin_nets, fanin_gates, leaf_nets, gates_read}
use Rattle.sheet.specs.Drawn.{drawn}
use Rattle.sheet.specs.ByteLaws.{formed_tables}
use Rattle.sheet.specs.declared.Sheet.{Sheet}
use Rattle.sheet.specs.declared.Gate.{Gate as SheetGate}
use Rattle.sheet.specs.Trusted.Answers.{drawn_gate, drawn_sheet}
use Rattle.sheet.specs.Trusted.Formed.{WellFormed}
use Rattle.sheet.specs.NumberLaws.{distinct_left}
use Rattle.sheet.specs.ReadLaws.{gates_distinct}
use Rattle.sheet.specs.PlaceLaws.{no_gate, no_sheet_gate, earlier_at, gates_drawn, gate_drawn}
use Rattle.pending.specs.declared.Lut.{Lut}
use Rattle.table.specs.Trusted.Limits.{input_room, table_room}
use Rattle.pending.specs.Luts.{lut_table, lut_of}
use Rattle.pending.specs.LutLaws.{lut_back}
use Rattle.table.specs.RuleLaws.{map_append}
use Rattle.mapper_laws.specs.CodeRunLaws.{stack_length, placed_length}
use Rattle.mapper_laws.specs.declared.Operands.{Operands}
use Rattle.mapper_laws.specs.declared.Held.{Held}
use Rattle.mapper_laws.specs.declared.MappedGate.{MappedGate}
use Rattle.mapper_laws.specs.declared.Mapping.{Mapping}
use Rattle.mapper_laws.specs.Run.{run_plan}
use Rattle.pending.specs.Pendings.{operand_of, MergeKept}
use Rattle.mapper_laws.specs.CodeRun.{no_table, operand_at, stack_of, placed_of, state_of, begun, Good, Runnable}
use Rattle.mapper_laws.specs.Mapping.{GatesMapped, unmapped, mapped_at, key_of, keys_of, held_table, operands_of, Progress, NextGate, CoveredBy}
use Rattle.mapper_laws.specs.CodeMap.{keys_in, Mappable, GateRun, HeldIs, BelowIs, no_held, HeldAll, Gathered, Gathering, Staged, Reaches, Gathers, most_tables, tables_in, Sheetable, SheetCovered, Going, GateAdded, flipped, driving, rooted}
use Rattle.mapper_laws.specs.MappingLaws.{source_standing, fanins_width, mapping_start, next_keys, mapping_next, mapping_added, done_count}
use Rattle.mapper_laws.specs.CountLaws.{body_wide, held_width}
use Rattle.mapper_laws.specs.SafeLaws.{safe_planned}
use Rattle.pending.specs.Merging.{Tabled}
use Rattle.pending.specs.MergeLaws.{tabled_record, tabled_inverted}

-- ---- a gate of a well-formed sheet

gather_at : {A B : Type 0} {P : B → Type 0} (f : A → List B) (xs : List A) (i : ℕ) (z : A) → Every P (gather f xs) → i < length xs → Every P (f (get_or xs i z))
gather_at f [] i z h l = absurd (omega arith)
gather_at f (x ∷ xs) zero z h l = every_left (f x) (gather f xs) h
gather_at {P = P} f (x ∷ xs) (suc i) z h l = gather_at {P = P} f xs i z (every_right (f x) (gather f xs) h) (omega arith)

take_every : {A : Type 0} (P : A → Type 0) (xs : List A) (n : ℕ) (z : A) → n ≤ length xs → ((i : ℕ) → i < n → P (get_or xs i z)) → Every P (take n xs)
take_every P xs zero z l h = every_none _
take_every P [] (suc n) z l h = absurd (omega arith)
take_every P (x ∷ xs) (suc n) z l h = every_cons (h 0 (omega arith)) (take_every P xs n z (omega arith) (λ i m. h (suc i) (omega arith)))

-- what is known of gate g, counted from 0
pub record Facts (s : DrawnSheet) (g : ℕ) (x : DrawnGate) : Type 0 where
  pub many : (2 ≤ length x.fanins) × (length x.fanins ≤ 10)
  pub before : Every (λ j. (1 ≤ j) × (j ≤ g)) (fanin_gates x.fanins)
  pub nets : Every (λ n. n ≤ code_base) (fanin_nets x.fanins)
  pub leaves : length (leaf_nets (take (suc g) s.gates)) ≤ most_leaves
  pub once : Distinct (gates_read (take (suc g) s.gates))

pub facts : (s : DrawnSheet) → WellFormed s → (g : ℕ) (z : DrawnGate) → g < length s.gates → Facts s g (get_or s.gates g z)
facts s w g z l = record {
  many = every_at s.gates g z w.fanin_counts l;
  before = λ j m. let b = earlier_at 1 s.gates g z w.earlier l j m in (b.0, omega arith);
  nets = λ n m. let b = gather_at (λ x. fanin_nets x.fanins) s.gates g z w.leaf_nets_lem l n m in omega arith;
  leaves = omega (arith, w.leaf_count_lem, ap length (split_at (λ x. fanin_nets x.fanins)), length-append (leaf_nets (take (suc g) s.gates)) (leaf_nets (drop (suc g) s.gates)));
  once = distinct_left (gates_read (take (suc g) s.gates)) (gates_read (drop (suc g) s.gates)) (subst Distinct (split_at (λ x. fanin_gates x.fanins)) (gates_distinct s w));
}
  where
    split_at : (f : DrawnGate → List ℕ) → gather f s.gates ≡ gather f (take (suc g) s.gates) ++ gather f (drop (suc g) s.gates)
    split_at f = ap (gather f) (sym (take-append-drop (suc g) s.gates)) ∙ gather_append f (take (suc g) s.gates) (drop (suc g) s.gates)

pub gates_more : (gs : List DrawnGate) (g : ℕ) {x : DrawnGate} → g < length gs → get_or gs g no_gate ≡ x → take (g + 1) gs ≡ take g gs ++ (x ∷ [])
gates_more gs g l e = ap (λ n. take n gs) (add-one g) ∙ take-suc gs g no_gate l ∙ ap (λ z. take g gs ++ (z ∷ [])) e

-- ---- one gate

-- what the code holds, with one more
pub held_more : (R : Held → GatesMapped → Type 0) (done : List GatesMapped) (held : List Held) {g : ℕ} (h : Held) (d : GatesMapped) → length done ≡ g → g < length held →
    HeldAll R done held → R h d → HeldAll R (done ++ (d ∷ [])) (set held g h)
held_more R done held {g} h d e room all is j i =
    by_eqb (λ b. R (get_or (set held g h) j no_held) (get_or (done ++ (d ∷ [])) j unmapped)) j g
    (λ q. rw (get_or_at done d [] unmapped j (e ∙ sym q), q, get_or-set_same held g h no_held room) is)
    (λ q.
    let k : j < length done = omega (arith, i, length-append done (d ∷ [])) in
    rw (get_or-set_other held g j h no_held q, get_or-append done (d ∷ []) unmapped j k) (all j k))

pub going_count : {K used : ℕ} {gs : List DrawnGate} {g : ℕ} {done : List GatesMapped} {held : List Held} {m : Mapping} → Going K used gs g done held m → length done ≡ g
going_count {gs = gs} {g = g} y = done_count code_base y.progress ∙ length-take-le g gs y.at

-- the keys of the fanins can be searched
fanin_keys : {K : ℕ} (two : 2 ≤ K) {used : ℕ} {gs : List DrawnGate} {done : List GatesMapped} {ts : List LookupTable} → Progress code_base used K gs done ts →
    (held : List Held) → HeldAll HeldIs done held → (fs : List Edge) → Every (λ j. (1 ≤ j) × (j ≤ length done)) (fanin_gates fs) → Every (Small K) (keys_of done fs)
fanin_keys two p held a [] m = every_none _
fanin_keys {K} two {done = done} p held a (f ∷ fs) m =
    every_cons (one f.source (every_left (gate_of f.source) (fanin_gates fs) m)) (fanin_keys two p held a fs (every_right (gate_of f.source) (fanin_gates fs) m))
  where
    one : (s : Source) → Every (λ j. (1 ≤ j) × (j ≤ length done)) (gate_of s) → Small K (key_of done s)
    one (Net n) m = record { some = omega arith; most = omega arith }
    one (Gate g) m =
        let b = every_head m in
        let h = a (g - 1) (omega arith) in
        let c = source_standing K two p.stood (Gate g) m in
        record { some = h.fits.0; most = omega (arith, c.inputs, c.small) }

module _ {K used : ℕ} {s : DrawnSheet} {g : ℕ} {done : List GatesMapped} {held : List Held} {m : Mapping} {x : DrawnGate} {o : Operands}
    (two : 2 ≤ K) (six : K ≤ input_room) (start : used ≤ table_room) (y : Going K used s.gates g done held m) (l : g < length s.gates)
    (s-few : length s.gates ≤ most_gates) (is : get_or s.gates g no_gate ≡ x) (f : Facts s g x)
    (q : Gathering x.fanins held (length x.fanins) o) where
  pub are_mapped : Every (λ j. (1 ≤ j) × (j ≤ length done)) (fanin_gates x.fanins)
  are_mapped j i = let b = f.before j i in (b.0, omega (arith, going_count y))

  all_gathered : Gathered done held x.fanins o
  all_gathered = subst (λ fs. Gathered done held fs o) (take-length x.fanins) (q.gathered done y.all are_mapped)

  abbrev keys : List Key
  keys = keys_of done x.fanins

  key_length : length keys ≡ length x.fanins
  key_length = length-map x.fanins (λ f. key_of done f.source)

  last_gate : take (suc g) s.gates ≡ take g s.gates ++ (x ∷ [])
  last_gate = sym (ap (λ n. take n s.gates) (add-one g)) ∙ gates_more s.gates g l is

  read_once : Distinct (gates_read (take g s.gates ++ (x ∷ [])))
  read_once = subst (λ gs. Distinct (gates_read gs)) last_gate f.once

  few_leaves : length (leaf_nets (take g s.gates ++ (x ∷ []))) ≤ most_leaves
  few_leaves = subst (λ gs. length (leaf_nets gs) ≤ most_leaves) last_gate f.leaves

  good : Good o
  good = record { count = omega (arith, q.count, f.many.1); room = q.room; neat = all_gathered.neat }

  -- the gate can be searched for a plan
  module _ (below : HeldAll BelowIs done held) where
    pub gate_keys : keys_in o ≡ keys
    gate_keys = all_gathered.keys below

    good_keys : GoodKeys K keys
    good_keys = record {
      table = (two, six);
      count = (omega (arith, key_length, f.many.0), omega (arith, key_length, f.many.1));
      keys = fanin_keys two y.progress held y.all x.fanins are_mapped;
      few = omega (arith, next_keys code_base used K two y.progress x are_mapped read_once, few_leaves);
    }

    pub gate_mappable : Mappable K (used + m.count) o
    gate_mappable = record { before = omega (arith, start, y.few); good = good; keys = rw gate_keys good_keys; key_room = q.key_room; widths = all_gathered.widths }

  module _ {p : Plan} {a : Key} (planned : Planned K keys (upto (length keys)) (tokens p) a) where
    -- and a plan for it can be run
    pub gate_runs : p.len ≤ most_steps → Runnable (used + m.count) x.kind o p
    gate_runs few = record {
      before = omega (arith, start, y.few);
      good = good;
      len = few;
      safe =
          rw all_gathered.fanins
          (safe_planned code_base (used + m.count) x.kind (operands_of code_base done x.fanins) six (length-map x.fanins _ ∙ sym key_length)
          (fanins_width code_base K two y.progress.stood x.fanins are_mapped) (omega (arith, key_length, f.many.1)) planned);
    }

  module _ {p : Plan} {a : Key} (planned : Planned K keys (upto (length keys)) (tokens p) a) {r : MappedGate} (ran : GateRun (used + m.count) x.kind o p r) where
    staged_count : length (tables_in m.count m.tables) ≡ m.count
    staged_count = length-map (take m.count m.tables) lut_table ∙ length-take-le m.count m.tables (omega (arith, y.few, y.table_room_lem))

    next : NextGate code_base used K (take g s.gates) done (tables_in m.count m.tables) x (tokens p) a
    next = mapping_next code_base used K two y.progress x f.many.0 f.nets are_mapped planned

    abbrev mapped : GatesMapped
    mapped = record { kind = x.kind; body = next.body; key = a }

    ends : state_of r.run ≡ record { stack = record { inverted = false; table = held_table code_base mapped } ∷ []; placed = next.new }
    ends =
        ran.ran.state
        ∙ ap₂ (λ n fs. run_plan code_base n x.kind fs (tokens p) begun) (ap (λ n. used + n) (sym staged_count)) all_gathered.fanins
        ∙ next.ends

    one_deep : r.run.depth ≡ 1
    one_deep = sym (stack_length r.run.depth r.run.stack) ∙ ap (λ z. length z.stack) ends

    top_operand : operand_of (operand_at r.run 0) ≡ record { inverted = false; table = held_table code_base mapped }
    top_operand =
        let e : operand_of (operand_at r.run 0) ∷ [] ≡ record { inverted = false; table = held_table code_base mapped } ∷ []
        = ap (λ d. stack_of d r.run.stack) (sym one_deep) ∙ ap (λ z. z.stack) ends in
        cc e

    held_table_lem : r.held.table ≡ lut_of (held_table code_base mapped)
    held_table_lem =
        ran.table
        ∙ (ran.ran.holds.operands 0 (omega (arith, one_deep))).kept.padded
        ∙ ap (λ z. lut_of z.table) top_operand

    new_tables_lem : placed_of r.run ≡ next.new
    new_tables_lem = ap (λ z. z.placed) ends

    pub stage_room : (m.count + r.run.placed ≤ most_tables) × (r.run.placed ≤ 18)
    stage_room = (
      omega (
        arith,
        next.few read_once,
        few_leaves,
        length-append (tables_in m.count m.tables) next.new,
        staged_count,
        ap length new_tables_lem,
        placed_length r.run ran.ran.holds,
      ),
      ran.ran.holds.placed,
    )

    held_is : HeldIs r.held mapped
    held_is = record {
      table = held_table_lem;
      width = held_width code_base mapped next.is.1;
      fits = (omega (arith, body_wide next.is.1), omega (arith, next.is.1.small, next.is.1.inputs, six));
    }

    module _ {n : Mapping} (z : Staged m r.run n) where
      tables_now : tables_in n.count n.tables ≡ tables_in m.count m.tables ++ next.new
      tables_now =
          ap (map lut_table) z.tables ∙ map_append lut_table (take m.count m.tables) (take r.run.placed r.run.tables)
          ∙ ap (λ ts. tables_in m.count m.tables ++ ts) new_tables_lem

      run_kept : Every MergeKept (take r.run.placed r.run.tables)
      run_kept = take_every MergeKept r.run.tables r.run.placed no_table (omega (arith, ran.ran.holds.table_room_lem, ran.ran.holds.placed)) ran.ran.holds.kept

      -- ONE GATE MORE
      pub going_next : GateAdded K used s.gates g done x p a (set held g r.held) n
      going_next = record {
        body = next.body;
        runs = next.runs;
        going = record {
          progress = rw (gates_more s.gates g l is, tables_now) next.progress;
          at = omega arith;
          all = held_more HeldIs done held r.held mapped (going_count y) (omega (arith, y.held_room, l, s-few)) y.all held_is;
          kept = rw z.tables (every_append (take m.count m.tables) _ y.kept run_kept);
          few = omega (arith, z.count, stage_room.0);
          held_room = length-set held g r.held ∙ y.held_room;
          table_room_lem = z.room;
        };
      }

-- ---- the beginning and the end

pub going_start : {K used : ℕ} {gs : List DrawnGate} {held : List Held} {m : Mapping} → m.count ≡ 0 → length m.tables ≡ most_tables → length held ≡ most_gates → Going K used gs 0 [] held m
going_start {K} {used} {m = m} e l h = record {
  progress = rw e (mapping_start code_base used K);
  at = omega arith;
  all = λ j i. absurd (omega arith);
  kept = rw e (every_none _);
  few = omega arith;
  held_room = h;
  table_room_lem = l;
}

root_record : (out : ℕ) (v : Bool) (d : GatesMapped) → driving out (flipped v (lut_of (held_table code_base d))) ≡ lut_of (gate_table code_base out v d.kind d.body)
root_record out false d = refl
root_record out true d = ap (driving out) (tabled_inverted 0 (sorted (codes* code_base d.body)) (held* code_base d.body d.kind))

module _ {K used : ℕ} {s : DrawnSheet} {g : ℕ} {done : List GatesMapped} {held : List Held} {m : Mapping}
    (two : 2 ≤ K) (w : WellFormed s) (y : Going K used s.gates g done held m) (l : length s.gates ≤ g) where
  pub gates_taken : take g s.gates ≡ s.gates
  gates_taken = let e : g ≡ length s.gates = omega (arith, y.at) in ap (λ n. take n s.gates) e ∙ take-length s.gates

  pub ended : Progress code_base used K s.gates done (tables_in m.count m.tables)
  ended = subst (λ gs. Progress code_base used K gs done (tables_in m.count m.tables)) gates_taken y.progress

  abbrev root_held : Held
  root_held = get_or held (length s.gates - 1) no_held

  abbrev root : GatesMapped
  root = mapped_at done (length s.gates)

  root_held_lem : HeldIs root_held root
  root_held_lem = y.all (length s.gates - 1) (omega (arith, done_count code_base ended, w.gate_count.0))

  abbrev root_table : LookupTable
  root_table = gate_table code_base s.out s.inverted root.kind root.body

  last_record : driving s.out (flipped s.inverted root_held.table) ≡ lut_of root_table
  last_record = ap (λ t. driving s.out (flipped s.inverted t)) root_held_lem.table ∙ root_record s.out s.inverted root

  added : (old : List LookupTable) → length old ≡ used → CoveredBy code_base K old (tables_in m.count m.tables ++ (root_table ∷ [])) (drawn s) root
  added = mapping_added code_base used K two s w ended

  records_count : length (tables_in m.count m.tables) ≡ m.count
  records_count = length-map (take m.count m.tables) lut_table ∙ length-take-le m.count m.tables (omega (arith, y.few, y.table_room_lem))

  -- there is room for the root's table: no cover has more tables than there are places
  root_count_lem : m.count < most_tables
  root_count_lem =
      let c = added (replicate used root_table) (length-replicate used root_table) in
      omega (arith, formed_tables w c.added.covers, c.count, length-append (tables_in m.count m.tables) (root_table ∷ []), records_count)

  pub root_room : (m.count < most_tables) × Tabled root_held.table
  root_room = (
    root_count_lem,
    rw root_held_lem.table (tabled_record 0 (sorted (codes* code_base root.body)) (held* code_base root.body root.kind) (omega (arith, root_held_lem.width, root_held_lem.fits.1))),
  )

  -- THE MAPPING OF THE SHEET
  module _ {c : Sheet} (e : drawn_sheet c ≡ s) where
    pub going_end : SheetCovered K used c root (rooted m s.out s.inverted root_held.table)
    going_end = record {
      room = length-set m.tables m.count (driving s.out (flipped s.inverted root_held.table)) ∙ y.table_room_lem;
      few = omega (arith, root_room.0);
      kept = λ i j.
          by_eqb (λ b. MergeKept (get_or (set m.tables m.count last) i no_table)) i m.count
          (λ q. rw (q, get_or-set_same m.tables m.count last no_table (omega (arith, root_room.0, y.table_room_lem)), last_record) root_kept)
          (λ q. rw (get_or-set_other m.tables m.count i last no_table q) (kept_at i (omega arith)));
      covered = λ old f. rw now (subst (λ z. CoveredBy code_base K old (tables_in m.count m.tables ++ (root_table ∷ [])) (drawn z) root) (sym e) (added old f));
    }
      where
        last : Lut
        last = driving s.out (flipped s.inverted root_held.table)

        root_kept : MergeKept (lut_of root_table)
        root_kept = record { fits = omega (arith, root_held_lem.width, root_held_lem.fits.1); padded = ap lut_of (sym (lut_back root_table)) }

        kept_at : (i : ℕ) → i < m.count → MergeKept (get_or m.tables i no_table)
        kept_at i l =
            rw (← (get_or-take m.count m.tables i no_table l))
            (every_at {P = MergeKept} (take m.count m.tables) i no_table y.kept (omega (arith, l, length-take-le m.count m.tables (omega (arith, y.few, y.table_room_lem)))))

        now : tables_in (m.count + 1) (set m.tables m.count (driving s.out (flipped s.inverted root_held.table))) ≡ tables_in m.count m.tables ++ (root_table ∷ [])
        now =
            ap (λ n. tables_in n (set m.tables m.count (driving s.out (flipped s.inverted root_held.table)))) (add-one m.count)
            ∙ ap (map lut_table) (take-suc-set m.tables m.count (driving s.out (flipped s.inverted root_held.table)) (omega (arith, root_room.0, y.table_room_lem)))
            ∙ map_append lut_table (take m.count m.tables) (driving s.out (flipped s.inverted root_held.table) ∷ [])
            ∙ ap (λ t. tables_in m.count m.tables ++ (t ∷ [])) (ap lut_table last_record ∙ lut_back root_table)

-- ---- for the code's sheet

module _ {K used : ℕ} (c : Sheet) (p : Sheetable K used c) (room : length c.gates ≡ most_gates) (most : c.count ≤ most_gates) where
  drawn_count : length (drawn_sheet c).gates ≡ c.count
  drawn_count = gates_drawn c.fanins c.gates (omega (arith, room))

  pub some_gates : 1 ≤ c.count
  some_gates = omega (arith, drawn_count, p.formed.gate_count.0)

  module _ {g : ℕ} {done : List GatesMapped} {held : List Held} {m : Mapping} (y : Going K used (drawn_sheet c).gates g done held m) where
    module _ (l : g < c.count) where
      abbrev here : SheetGate
      here = get_or c.gates g no_sheet_gate

      abbrev gate : DrawnGate
      gate = drawn_gate c.fanins here

      pub step_inside : g < length (drawn_sheet c).gates
      step_inside = omega (arith, drawn_count)

      pub here_drawn : get_or (drawn_sheet c).gates g no_gate ≡ gate
      here_drawn = gate_drawn c.fanins c.gates (omega (arith, room)) l

      pub here_facts : Facts (drawn_sheet c) g gate
      here_facts = subst (λ x. Facts (drawn_sheet c) g x) here_drawn (facts (drawn_sheet c) p.formed g no_gate step_inside)

      drawn_few : length (drawn_sheet c).gates ≤ most_gates
      drawn_few = omega (arith, drawn_count)

      pub step_reaches : Reaches c.fanins here
      step_reaches = record {
        few = here_facts.many.1;
        gates = λ j i. let b = here_facts.before j i in (b.0, omega arith);
      }

      pub step_before : (length done ≡ g) × (g < length held)
      step_before = (going_count y, omega (arith, y.held_room))

      pub step_gates : take (g + 1) (drawn_sheet c).gates ≡ take g (drawn_sheet c).gates ++ (gate ∷ [])
      step_gates = gates_more (drawn_sheet c).gates g step_inside here_drawn

      module _ {o : Operands} (q : Gathers c.fanins here held o) where
        pub step_mapped : Every (λ j. (1 ≤ j) × (j ≤ length done)) (fanin_gates gate.fanins)
        step_mapped = are_mapped p.table.0 p.table.1 p.before y step_inside drawn_few here_drawn here_facts q

        pub step_keys : HeldAll BelowIs done held → keys_in o ≡ keys_of done gate.fanins
        step_keys = gate_keys p.table.0 p.table.1 p.before y step_inside drawn_few here_drawn here_facts q

        pub step_mappable : HeldAll BelowIs done held → Mappable K (used + m.count) o
        step_mappable = gate_mappable p.table.0 p.table.1 p.before y step_inside drawn_few here_drawn here_facts q

        module _ {f : Plan} {a : Key} (planned : Planned K (keys_of done gate.fanins) (upto (length (keys_of done gate.fanins))) (tokens f) a) where
          pub step_runs : f.len ≤ most_steps → Runnable (used + m.count) here.kind o f
          step_runs = gate_runs p.table.0 p.table.1 p.before y step_inside drawn_few here_drawn here_facts q planned

          module _ {r : MappedGate} (ran : GateRun (used + m.count) here.kind o f r) where
            pub step_room : (m.count + r.run.placed ≤ most_tables) × (r.run.placed ≤ 18)
            step_room = stage_room p.table.0 p.table.1 p.before y step_inside drawn_few here_drawn here_facts q planned ran

            pub step_next : {n : Mapping} → Staged m r.run n → GateAdded K used (drawn_sheet c).gates g done gate f a (set held g r.held) n
            step_next = going_next p.table.0 p.table.1 p.before y step_inside drawn_few here_drawn here_facts q planned ran

    module _ (l : c.count ≤ g) where
      pub step_ended : length (drawn_sheet c).gates ≤ g
      step_ended = omega (arith, drawn_count)

      ended_at : length (drawn_sheet c).gates - 1 ≡ c.count - 1
      ended_at = ap (λ n. n - 1) drawn_count

      pub end_room : (m.count < most_tables) × Tabled (get_or held (c.count - 1) no_held).table
      end_room =
          let r = root_room p.table.0 p.formed y step_ended in
          (omega (arith, r.0), subst (λ n. Tabled (get_or held n no_held).table) ended_at r.1)

      pub end_covered : {n : Mapping} → n ≡ rooted m c.out c.inverted (get_or held (c.count - 1) no_held).table →
          SheetCovered K used c (mapped_at done (length (drawn_sheet c).gates)) n
      end_covered e =
          rw e (subst (λ n. SheetCovered K used c (mapped_at done (length (drawn_sheet c).gates)) (rooted m c.out c.inverted (get_or held n no_held).table)) ended_at
          (going_end p.table.0 p.formed y step_ended refl))
