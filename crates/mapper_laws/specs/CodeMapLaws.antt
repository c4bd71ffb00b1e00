-- The code's mapping of a sheet follows the mapping on lists.
use Rattle.std.specs.Prelude.{ℕ, suc, ◌+◌, ◌-◌, ◌<◌, ◌≤◌, ◌≡◌, refl, false, Option, Some, List, [], ◌∷◌, ◌++◌, map, length, get_or, set, take}
use Rattle.std.proofs.Common.{add-zero, add-one, arith, sym, ap, ap₂, ◌∙◌, subst, append_assoc, append-nil, length-set, get_or-take, length-take-le, take_all, take-suc, take-suc-set, get_or-set_same, get_or-set_other}
use Rattle.lists.specs.Trusted.Lists.{Every}
use Rattle.lists.specs.Sequences.{Sorted}
use Rattle.lists.specs.Cases.{by_eqb}
use Rattle.lists.specs.ListLaws.{every_none, every_head, map_at}
use Rattle.lists.specs.NumberLaws.{sorted_sorted}
use Rattle.tree.specs.declared.Kind.{Kind}
use Rattle.tree.specs.Trusted.Limits.{code_base}
use Rattle.plan.specs.declared.Key.{Key}
use Rattle.plan.specs.declared.Plan.{Plan}
use Rattle.plan.specs.Key.{leaf_key}
use Rattle.plan.specs.PlanOf.{PlanAnswer, PlanOf}
use Rattle.plan.specs.PlanOfLaws.{plan_answer, answer_most}
use Rattle.cover.specs.Trusted.Placed.{codes*}
use Rattle.table.specs.Trusted.Limits.{input_room}
use Rattle.pending.specs.Luts.{lut_table, lut_of}
use Rattle.pending.specs.LutLaws.{lut_back}
use Rattle.table.specs.RuleLaws.{map_append}
use Rattle.sheet.specs.declared.Source.{Source}
use Rattle.sheet.specs.declared.Source.TheVariants.{Net, Gate}
use Rattle.sheet.specs.declared.Edge.{Edge}
use Rattle.sheet.specs.declared.Gate.{Gate as SheetGate}
use Rattle.sheet.specs.Trusted.Limits.{most_gates}
use Rattle.sheet.specs.Trusted.Answers.{drawn_gate}
use Rattle.sheet.specs.Trusted.Sheet.{gate_of}
use Rattle.sheet.specs.PlaceLaws.{no_edge, edge_drawn, every_source}
use Rattle.gate_fanins.specs.Fanins.{place_in}
use Rattle.gate_fanins.specs.FaninLaws.{every_fanin}
use Rattle.mapper_laws.specs.declared.PlanRun.{PlanRun}
use Rattle.mapper_laws.specs.declared.Operands.{Operands}
use Rattle.mapper_laws.specs.declared.Held.{Held}
use Rattle.mapper_laws.specs.declared.Mapping.{Mapping}
use Rattle.pending.specs.Operands.{single}
use Rattle.pending.specs.declared.Pending.{Pending}
use Rattle.pending.specs.Pendings.{operand_of, Neat}
use Rattle.mapper_laws.specs.CodeRun.{no_table, no_pending, fanins_of, Runnable}
use Rattle.mapper_laws.specs.CodeRunLaws.{kept_count, fanin_count_lem, record_neat, stored_all}
use Rattle.mapper_laws.specs.SafeLaws.{safe_planned}
use Rattle.mapper_laws.specs.Mapping.{GatesMapped as MappedOnList, mapped_at, key_of, held_table, source_table}
use Rattle.mapper_laws.specs.CodePair.{read_as}
use Rattle.mapper_laws.specs.CodeMap.{leaf_of, Begun, with_fanin, keys_in, Mappable, HeldIs, BelowIs, no_held, HeldAll, Reaches, Gathered, Gathering, most_tables, Staging, run_of, Staged}

-- ---- one gate

module _ {K first : ℕ} {o : Operands} (m : Mappable K first o) where
  key_count : length (keys_in o) ≡ o.count
  key_count = length-take-le o.count o.keys (omega (arith, m.key_room, m.good.count))

  fanin_widths : (i : ℕ) → i < length (keys_in o) → length (get_or (fanins_of o) i (record { inverted = false; table = single 0 })).table.inputs ≡ (get_or (keys_in o) i leaf_key).width
  fanin_widths i l =
      let j : i < o.count = omega (arith, l, key_count) in
      ap (λ x. length x.table.inputs)
      (map_at operand_of (take o.count o.fanins) i no_pending (record { inverted = false; table = single 0 })
      (omega (arith, j, length-take-le o.count o.fanins (omega (arith, m.good.count, m.good.room))))
      ∙ ap operand_of (get_or-take o.count o.fanins i no_pending j))
      ∙ sym (kept_count (get_or o.fanins i no_pending).table (m.good.neat i j).kept)
      ∙ m.widths i j
      ∙ ap (λ a. a.width) (sym (get_or-take o.count o.keys i leaf_key j))

  pub gate_answer : (r : Option Plan) → PlanOf K o.count o.keys r → (p : Plan) × (r ≡ Some p) × PlanAnswer K (keys_in o) p
  gate_answer r = plan_answer K o.count o.keys r key_count m.keys

  pub gate_runnable : {p : Plan} → PlanAnswer K (keys_in o) p → (k : Kind) → Runnable first k o p
  gate_runnable a k = record {
    before = m.before;
    good = m.good;
    len = answer_most a m.keys;
    safe = safe_planned code_base first k (fanins_of o) m.keys.table.1 (fanin_count_lem o m.good ∙ sym key_count) fanin_widths m.keys.count.1 a.planned;
  }

-- ---- staging

module _ (m : Mapping) (s : PlanRun) where
  pub staging_start : length m.tables ≡ most_tables → Staging m s 0 m
  staging_start l = record {
    count = refl;
    at = omega arith;
    tables = ap (λ n. take n m.tables) (add-zero m.count) ∙ sym (append-nil (take m.count m.tables));
    room = l;
  }

  pub staging_next : {i : ℕ} {r : Mapping} → m.count + s.placed ≤ most_tables → i < s.placed → s.placed ≤ length s.tables → Staging m s i r →
      Staging m s (i + 1) (record { count = r.count; tables = set r.tables (m.count + i) (get_or s.tables i no_table) })
  staging_next {i} {r} few l room g = record {
    count = g.count;
    at = omega arith;
    tables =
        ap (λ n. take n (set r.tables (m.count + i) (get_or s.tables i no_table))) (let e : m.count + (i + 1) ≡ suc (m.count + i) = omega arith in e)
        ∙ take-suc-set r.tables (m.count + i) (get_or s.tables i no_table) (omega (arith, g.room))
        ∙ ap (λ ts. ts ++ (get_or s.tables i no_table ∷ [])) g.tables
        ∙ append_assoc (take m.count m.tables) (take i s.tables) (get_or s.tables i no_table ∷ [])
        ∙ ap (λ ts. take m.count m.tables ++ ts) (sym (take-suc s.tables i no_table (omega arith)) ∙ ap (λ n. take n s.tables) (sym (add-one i)));
    room = length-set r.tables (m.count + i) (get_or s.tables i no_table) ∙ g.room;
  }

  pub staging_end : {i : ℕ} {r : Mapping} → s.placed ≤ i → Staging m s i r → Staged m s (record { count = m.count + s.placed; tables = r.tables })
  staging_end {i} {r} l g =
      let e : i ≡ s.placed = omega (arith, g.at) in
      record { count = refl; tables = subst (λ n. take (m.count + n) r.tables ≡ take m.count m.tables ++ take n s.tables) e g.tables; room = g.room }

-- the tables that a run placed, as tables that are staged
pub staged_run : {m n : Mapping} (s : PlanRun) → s.placed ≤ length s.tables → Staged m (run_of (take s.placed s.tables)) n → Staged m s n
staged_run {m} s l z = record {
  count = z.count ∙ ap (λ k. m.count + k) (length-take-le s.placed s.tables l);
  tables = z.tables ∙ ap (λ ts. take m.count m.tables ++ ts) (take_all (length (take s.placed s.tables)) (take s.placed s.tables) (omega arith));
  room = z.room;
}

-- ---- the fanins of a gate

-- what the code holds of what a fanin reads
record Reading (done : List MappedOnList) (held : List Held) (s : Source) (h : Held) : Type 0 where
  table : h.table ≡ lut_of (source_table code_base done s)
  below : HeldAll BelowIs done held → h.below ≡ (key_of done s).below
  width : length (source_table code_base done s).inputs ≡ (key_of done s).width
  fits : (key_of done s).width ≤ input_room
  sorts : Sorted (source_table code_base done s).inputs

held_sorted : (d : MappedOnList) → Sorted (held_table code_base d).inputs
held_sorted d = sorted_sorted (codes* code_base d.body)

read_net : (done : List MappedOnList) (held : List Held) (n : ℕ) → Reading done held (Net n) (leaf_of n)
read_net done held n = record { table = refl; below = λ b. refl; width = refl; fits = omega arith; sorts = (every_none _, tt) }

read_gate_lem : (done : List MappedOnList) (held : List Held) → HeldAll HeldIs done held → (g : ℕ) → 1 ≤ g → g ≤ length done → Reading done held (Gate g) (get_or held (g - 1) no_held)
read_gate_lem done held a g l m =
    let h = a (g - 1) (omega arith) in
    record { table = h.table; below = λ b. b (g - 1) (omega arith); width = h.width; fits = h.fits.1; sorts = held_sorted (mapped_at done g) }

read_source : (done : List MappedOnList) (held : List Held) → HeldAll HeldIs done held → (s : Source) → Every (λ j. (1 ≤ j) × (j ≤ length done)) (gate_of s) →
    Reading done held s (read_as s (get_or held (place_in s) no_held))
read_source done held a (Net n) b = read_net done held n
read_source done held a (Gate g) b = let c = every_head b in read_gate_lem done held a g c.0 c.1

module _ {done : List MappedOnList} {held : List Held} {fs : List Edge} {o : Operands} (room : length o.fanins ≡ 10) (key_room : length o.keys ≡ 10) (few : o.count < 10)
    (g : Gathered done held fs o) (f : Edge) (h : Held) (r : Reading done held f.source h) where
  abbrev next : Pending
  next = record { inverted = f.inverted; table = h.table }

  abbrev next_key : Key
  next_key = record { below = h.below; width = h.table.count }

  next_table : lut_table h.table ≡ source_table code_base done f.source
  next_table = ap lut_table r.table ∙ lut_back (source_table code_base done f.source)

  next_count : h.table.count ≡ (key_of done f.source).width
  next_count = ap (λ t. t.count) r.table ∙ r.width

  next_neat : Neat h.table
  next_neat = rw r.table (record_neat (source_table code_base done f.source) (omega (arith, r.width, r.fits)) r.sorts)

  next_gathered : Gathered done held (fs ++ (f ∷ [])) (with_fanin o f.inverted h)
  next_gathered = record {
    fanins =
        ap (map operand_of) (ap (λ n. take n (set o.fanins o.count next)) (add-one o.count) ∙ take-suc-set o.fanins o.count next (omega arith))
        ∙ map_append operand_of (take o.count o.fanins) (next ∷ [])
        ∙ ap₂ (λ xs t. xs ++ (record { inverted = f.inverted; table = t } ∷ [])) g.fanins next_table
        ∙ sym (map_append (λ x. record { inverted = x.inverted; table = source_table code_base done x.source }) fs (f ∷ []));
    keys = λ b.
        ap (λ n. take n (set o.keys o.count next_key)) (add-one o.count) ∙ take-suc-set o.keys o.count next_key (omega arith)
        ∙ ap₂ (λ xs k. xs ++ (k ∷ [])) (g.keys b) (λ i. record { below = r.below b i; width = next_count i })
        ∙ sym (map_append (λ x. key_of done x.source) fs (f ∷ []));
    neat = stored_all (λ p. Neat p.table) no_pending o.fanins o.count next (omega arith) g.neat next_neat;
    widths = λ i l.
        by_eqb (λ b. (get_or (set o.fanins o.count next) i no_pending).table.count ≡ (get_or (set o.keys o.count next_key) i leaf_key).width) i o.count
        (λ e. rw (e, get_or-set_same o.fanins o.count next no_pending (omega arith), get_or-set_same o.keys o.count next_key leaf_key (omega arith)))
        (λ e. rw (get_or-set_other o.fanins o.count i next no_pending e, get_or-set_other o.keys o.count i next_key leaf_key e) (g.widths i (omega arith)));
  }

pub gathering_start : {fs : List Edge} {held : List Held} {o : Operands} → Begun o → Gathering fs held 0 o
gathering_start {o = o} b = record {
  count = b.count;
  some = (omega arith, omega arith);
  room = b.room;
  key_room = b.key_room;
  gathered = λ done a m. record {
    fanins = ap (λ n. map operand_of (take n o.fanins)) b.count;
    keys = λ c. ap (λ n. take n o.keys) b.count;
    neat = λ i l. absurd (omega (arith, b.count));
    widths = λ i l. absurd (omega (arith, b.count));
  };
}

module _ (fs : List Edge) (held : List Held) {i : ℕ} {o : Operands} (g : Gathering fs held i o) (l : i < length fs) (few : i < 10) where
  abbrev edge : Edge
  edge = get_or fs i no_edge

  abbrev reads : Held
  reads = read_as edge.source (get_or held (place_in edge.source) no_held)

  pub gather_next : Gathering fs held (i + 1) (with_fanin o edge.inverted reads)
  gather_next = record {
    count = omega (arith, g.count);
    some = (omega arith, omega arith);
    room = length-set o.fanins o.count (record { inverted = edge.inverted; table = reads.table }) ∙ g.room;
    key_room = length-set o.keys o.count (record { below = reads.below; width = reads.table.count }) ∙ g.key_room;
    gathered = λ done a m.
        rw (add-one i, take-suc fs i no_edge l)
        (next_gathered g.room g.key_room (omega (arith, g.count)) (g.gathered done a m) edge reads
        (read_source done held a edge.source (every_fanin {P = λ j. (1 ≤ j) × (j ≤ length done)} fs i l m)));
  }

-- of a gate of a sheet, by the place of its fanin among the sheet's
module _ (fs : List Edge) (x : SheetGate) (held : List Held) {i : ℕ} {o : Operands} (g : Gathering (drawn_gate fs x).fanins held i o) (l : i < length (drawn_gate fs x).fanins) (few : i < 10) where
  abbrev sheet_edge : Edge
  sheet_edge = get_or fs (x.first + i) no_edge

  gather_placed : (s : Source) → sheet_edge.source ≡ s → Gathering (drawn_gate fs x).fanins held (i + 1) (with_fanin o sheet_edge.inverted (read_as s (get_or held (place_in s) no_held)))
  gather_placed s e =
      subst (λ s. Gathering (drawn_gate fs x).fanins held (i + 1) (with_fanin o sheet_edge.inverted (read_as s (get_or held (place_in s) no_held)))) e
      (subst (λ f. Gathering (drawn_gate fs x).fanins held (i + 1) (with_fanin o f.inverted (read_as f.source (get_or held (place_in f.source) no_held)))) (edge_drawn fs x l)
      (gather_next (drawn_gate fs x).fanins held g l few))

  pub gather_net : {n : ℕ} → sheet_edge.source ≡ Net n → Gathering (drawn_gate fs x).fanins held (i + 1) (with_fanin o sheet_edge.inverted (leaf_of n))
  gather_net {n} = gather_placed (Net n)

  pub gather_gate : {j : ℕ} → sheet_edge.source ≡ Gate j → Gathering (drawn_gate fs x).fanins held (i + 1) (with_fanin o sheet_edge.inverted (get_or held (j - 1) no_held))
  gather_gate {j} = gather_placed (Gate j)

  pub gate_reached : Reaches fs x → {j : ℕ} → sheet_edge.source ≡ Gate j → (1 ≤ j) × (j ≤ most_gates)
  gate_reached h {j} e = every_source {P = λ j. (1 ≤ j) × (j ≤ most_gates)} (drawn_gate fs x).fanins i j h.gates l (ap (λ f. f.source) (edge_drawn fs x l) ∙ e)
