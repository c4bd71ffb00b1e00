-- A gate of two fanins mapped without a search: as by a plan of three steps, which is the least.
use Rattle.std.specs.Prelude.{ℕ, ◌+◌, ◌≤◌, ◌<◌, ◌≡◌, refl, Bool, true, false, List, [], ◌∷◌, ◌++◌, length, take, replicate, get_or}
use Rattle.std.proofs.Common.{add-zero, arith, sym, ap, ap₂, ◌∙◌, subst}
use Rattle.lists.specs.Trusted.Lists.{Every, empty, more, here, there}
use Rattle.lists.specs.Sequences.{neither, left, right}
use Rattle.lists.specs.ListLaws.{every_none, every_cons, every_head, every_tail}
use Rattle.tree.specs.declared.Kind.{Kind}
use Rattle.plan.specs.declared.Key.{Key}
use Rattle.plan.specs.declared.Cuts.{Cuts}
use Rattle.plan.specs.declared.Plan.{Plan}
use Rattle.plan.specs.declared.Token.TheVariants.{Push, Join}
use Rattle.plan.specs.Key.{◌≼◌, join, cuts}
use Rattle.plan.specs.KeyLaws.{join_way, join_mono, join_comm}
use Rattle.plan.specs.Entries.{Small, Joinable}
use Rattle.plan.specs.Reach.{Reach, one, both, LeastReach}
use Rattle.plan.specs.ReachLaws.{no_reach, least_single, reach_wide}
use Rattle.plan.specs.Plans.{fanin, binary}
use Rattle.plan.specs.PlanOf.{PlanAnswer}
use Rattle.sheet.specs.declared.Edge.{Edge}
use Rattle.sheet.specs.declared.Gate.{Gate as SheetGate}
use Rattle.sheet.specs.Trusted.Limits.{most_gates}
use Rattle.sheet.specs.Trusted.Answers.{drawn_gate}
use Rattle.sheet.specs.Trusted.Sheet.{gate_of}
use Rattle.mapper_laws.specs.declared.Operands.{Operands}
use Rattle.mapper_laws.specs.declared.Held.{Held}
use Rattle.mapper_laws.specs.declared.MappedGate.{MappedGate}
use Rattle.mapper_laws.specs.declared.Mapping.{Mapping}
use Rattle.pending.specs.declared.Pending.{Pending}
use Rattle.pending.specs.Operands.{merged}
use Rattle.pending.specs.Pendings.{operand_of, Mergeable}
use Rattle.pending.specs.declared.Lut.{Lut}
use Rattle.pending.specs.Luts.{lut_of}
use Rattle.mapper_laws.specs.CodeRun.{operand_at, held_if, pushed, left_placed, joined, Joins, Holds, Following, Runnable, Ran}
use Rattle.mapper_laws.specs.CodeRunLaws.{push_advanced, join_fits, join_advanced, following_start, following_advances, following_next, following_end}
use Rattle.mapper_laws.specs.CodeMap.{keys_in, Mappable, GateMapped, no_held, Reaches, Gathering, Staged}
use Rattle.mapper_laws.specs.CodeMapLaws.{gate_runnable, gathering_start, gather_next}
use Rattle.sheet.specs.PlaceLaws.{no_edge, edge_drawn}
use Rattle.gate_fanins.specs.Fanins.{place_in}
use Rattle.gate_fanins.specs.FaninLaws.{every_fanin}
use Rattle.mapper_laws.specs.CodePair.{read_as, pending_of, key_in, no_operands, pair_of, count_if, two_tables, no_run, pair_taken, joint_of, pair_mapped, staged_of}

-- ---- two keys have one join

module _ (K : ℕ) (two : 2 ≤ K) (a b : Key) (wide-a : 1 ≤ a.width) (wide-b : 1 ≤ b.width) where
  single_above : {x r : Key} → Reach K (x ∷ []) r → x ≼ r
  single_above {x} h = (least_single x).least _ h

  single_wide : {x r : Key} → 1 ≤ x.width → Reach K (x ∷ []) r → 1 ≤ r.width
  single_wide w h = reach_wide two h (every_cons w (every_none _))

  pub pair_least : LeastReach K (b ∷ a ∷ []) (join K a b)
  pair_least = record { reach = both (right (left neither)) one one; least = λ r. under }
    where
      under : {r : Key} → Reach K (b ∷ a ∷ []) r → join K a b ≼ r
      under (both (left (left neither)) p q) = absurd (no_reach q)
      under (both (left (right neither)) p q) = rw (join_comm K a b) (join_mono K two (single_above p) (single_above q) (single_wide wide-b p) (single_wide wide-a q))
      under (both (right (left neither)) p q) = join_mono K two (single_above p) (single_above q) (single_wide wide-a p) (single_wide wide-b q)
      under (both (right (right neither)) p q) = absurd (no_reach p)

-- ---- the plan of three steps

module _ {K first : ℕ} (i : Bool) (x : Held) (j : Bool) (y : Held) (m : Mappable K first (pair_of i x j y)) (k : Kind) where
  abbrev o : Operands
  o = pair_of i x j y

  abbrev a : Key
  a = key_in y

  abbrev b : Key
  b = key_in x

  abbrev l : Bool
  l = (cuts K a b).0

  abbrev r : Bool
  r = (cuts K a b).1

  two : 2 ≤ K
  two = m.keys.table.0

  left_fanin : Small K a
  left_fanin = every_head (every_tail m.keys.keys)

  right_fanin : Small K b
  right_fanin = every_head m.keys.keys

  pub pair_joinable : Joinable K a b
  pair_joinable = record { table = m.keys.table; left = left_fanin; right = right_fanin; few = omega (arith, m.keys.few) }

  abbrev plan : Plan
  plan = record {
    key = join K a b;
    len = 3;
    steps = Push 1 ∷ (Push 0 ∷ (Join l r ∷ replicate 16 (Push 0)));
  }

  answer : PlanAnswer K (keys_in o) plan
  answer = record {
    least = pair_least K two a b left_fanin.some right_fanin.some;
    planned = record {
      order = 1 ∷ 0 ∷ [];
      denotes = binary (fanin 1 (omega arith)) (fanin 0 (omega arith)) (join_way K two a b);
      once = more (there here) (more here empty);
    };
    len = refl;
    size = refl;
  }

  runnable : Runnable first k o plan
  runnable = gate_runnable m answer k

  none_holds : Holds no_run
  none_holds = record {
    depth = omega arith;
    placed = omega arith;
    stack_room = refl;
    table_room_lem = refl;
    operands = λ n h. absurd (omega arith);
    kept = λ n h. absurd (omega arith);
  }

  taken_none : Following first k o plan 0 no_run
  taken_none = following_start first k o plan runnable none_holds refl refl

  taken_one : Following first k o plan 1 (pushed no_run (pending_of j y))
  taken_one =
      following_next first k o plan runnable taken_none (omega arith)
      (push_advanced first k o no_run refl (following_advances first k o plan runnable taken_none (omega arith)) refl)

  taken_two : Following first k o plan 2 (pair_taken i x j y)
  taken_two =
      following_next first k o plan runnable taken_one (omega arith)
      (push_advanced first k o (pushed no_run (pending_of j y)) refl (following_advances first k o plan runnable taken_one (omega arith)) refl)

  pair_joins : Joins first l r (pair_taken i x j y)
  pair_joins = join_fits first k o (pair_taken i x j y) refl (following_advances first k o plan runnable taken_two (omega arith))

  ran : Ran first k o plan (joined first k l r (pair_taken i x j y))
  ran =
      following_end first k o plan (omega arith)
      (following_next first k o plan runnable taken_two (omega arith)
      (join_advanced first k o (pair_taken i x j y) refl (following_advances first k o plan runnable taken_two (omega arith)) refl))

  -- ---- what the code makes is what the plan gives

  left_count : (l : Bool) → (left_placed first l (pair_taken i x j y)).placed ≡ count_if l
  left_count false = refl
  left_count true = refl

  pub pair_mergeable : Mergeable (held_if l first 0 (pending_of j y)) (held_if r first (count_if l) (pending_of i x))
  pair_mergeable = subst (λ n. Mergeable (held_if l first 0 (pending_of j y)) (held_if r first n (pending_of i x))) (left_count l) pair_joins.fits

  joint_table : (l r : Bool) → joint_of first k l r i x j y ≡ (operand_at (joined first k l r (pair_taken i x j y)) 0).table
  joint_table false false = refl
  joint_table false true = refl
  joint_table true false = refl
  joint_table true true = refl

  joint_placed : (l r : Bool) → count_if l + count_if r ≡ (joined first k l r (pair_taken i x j y)).placed
  joint_placed false false = refl
  joint_placed false true = refl
  joint_placed true false = refl
  joint_placed true true = refl

  joint_tables : (l r : Bool) → take (count_if l + count_if r) (two_tables l y.table x.table) ≡
      take (joined first k l r (pair_taken i x j y)).placed (joined first k l r (pair_taken i x j y)).tables
  joint_tables false false = refl
  joint_tables false true = refl
  joint_tables true false = refl
  joint_tables true true = refl

  abbrev pub pair_gate : MappedGate
  pair_gate = record { held = (pair_mapped K first k i x j y).held; run = joined first k l r (pair_taken i x j y) }

  pub pair_mapped_lem : GateMapped K first k o pair_gate
  pair_mapped_lem = record { plan = plan; answer = answer; run = record { ran = ran; below = refl; table = joint_table l r } }

  pub pair_placed : (pair_mapped K first k i x j y).placed ≡ pair_gate.run.placed
  pair_placed = joint_placed l r

  count_most : (b : Bool) → count_if b ≤ 1
  count_most false = omega arith
  count_most true = omega arith

  pub pair_few : (pair_mapped K first k i x j y).placed ≤ 2
  pair_few = omega (arith, count_most l, count_most r)

  two_length : (l : Bool) → length (two_tables l y.table x.table) ≡ 2
  two_length false = refl
  two_length true = refl

  pub pair_room : length (pair_mapped K first k i x j y).tables ≡ 2
  pair_room = two_length l

  pub pair_staged : {old new : Mapping} → Staged old (staged_of (pair_mapped K first k i x j y)) new → Staged old pair_gate.run new
  pair_staged {old} s = record {
    count = s.count ∙ ap (λ n. old.count + n) (joint_placed l r);
    tables = s.tables ∙ ap (λ ts. take old.count old.tables ++ ts) (joint_tables l r);
    room = s.room;
  }

-- ---- the code's steps

pub pair_by : (K first : ℕ) (k : Kind) (i : Bool) (x : Held) (j : Bool) (y : Held) {a b c : Key} {cut : Cuts} {u v : Pending} {n p q : ℕ} {t : Lut} {ts : List Lut} →
    a ≡ key_in y → b ≡ key_in x → c ≡ join K a b → cut ≡ record { left = (cuts K a b).0; right = (cuts K a b).1 } →
    u ≡ held_if cut.left first 0 (pending_of j y) → n ≡ count_if cut.left → v ≡ held_if cut.right first n (pending_of i x) →
    t ≡ lut_of (merged k (operand_of u) (operand_of v)) → p ≡ count_if cut.left → q ≡ count_if cut.right → ts ≡ two_tables cut.left y.table x.table →
    record { held = record { below = c.below; table = t }; placed = p + q; tables = ts } ≡ pair_mapped K first k i x j y
pair_by K first k i x j y {cut = cut} ea eb ec ecut eu en ev et ep eq ets =
    let el : cut.left ≡ (cuts K (key_in y) (key_in x)).0 = ap (λ z. z.left) ecut ∙ ap₂ (λ a b. (cuts K a b).0) ea eb in
    let er : cut.right ≡ (cuts K (key_in y) (key_in x)).1 = ap (λ z. z.right) ecut ∙ ap₂ (λ a b. (cuts K a b).1) ea eb in
    let below = ap (λ z. z.below) ec ∙ ap₂ (λ a b. (join K a b).below) ea eb in
    let left = eu ∙ ap (λ l. held_if l first 0 (pending_of j y)) el in
    let right = ev ∙ ap₂ (λ r n. held_if r first n (pending_of i x)) er (en ∙ ap count_if el) in
    let table = et ∙ ap₂ (λ u v. lut_of (merged k (operand_of u) (operand_of v))) left right in
    let placed = ap₂ ◌+◌ (ep ∙ ap count_if el) (eq ∙ ap count_if er) in
    let tables = ets ∙ ap (λ l. two_tables l y.table x.table) el in
    λ z. record { held = record { below = below z; table = table z }; placed = placed z; tables = tables z }

-- ---- the two fanins of a gate

-- the edge at a place, and what it reads
abbrev pub edge_at : List Edge → ℕ → Edge
edge_at fs at = get_or fs at no_edge

abbrev pub read_at : List Edge → List Held → ℕ → Held
read_at fs held at = read_as (edge_at fs at).source (get_or held (place_in (edge_at fs at).source) no_held)

pub pair_gathers : (fs : List Edge) (held : List Held) → length fs ≡ 2 →
    Gathering fs held (length fs) (pair_of (edge_at fs 0).inverted (read_at fs held 0) (edge_at fs 1).inverted (read_at fs held 1))
pair_gathers fs held two =
    subst (λ n. Gathering fs held n (pair_of (edge_at fs 0).inverted (read_at fs held 0) (edge_at fs 1).inverted (read_at fs held 1))) (sym two)
    (gather_next fs held (gather_next fs held none (omega arith) (omega arith)) (omega arith) (omega arith))
  where
    none : Gathering fs held 0 no_operands
    none = gathering_start (record { count = refl; room = refl; key_room = refl })

-- of a gate of a sheet with two fanins: the gates that they read are in the array
module _ (fs : List Edge) (g : SheetGate) (two : length (drawn_gate fs g).fanins ≡ 2) (h : Reaches fs g) where
  reached_at : (n : ℕ) → n < 2 → Every (λ c. (1 ≤ c) × (c ≤ most_gates)) (gate_of (edge_at fs (g.first + n)).source)
  reached_at n l =
      subst (λ f. Every (λ c. (1 ≤ c) × (c ≤ most_gates)) (gate_of f.source)) (edge_drawn fs g (omega (arith, two)))
      (every_fanin {P = λ c. (1 ≤ c) × (c ≤ most_gates)} (drawn_gate fs g).fanins n (omega (arith, two)) h.gates)

  pub low_reached : Every (λ c. (1 ≤ c) × (c ≤ most_gates)) (gate_of (edge_at fs g.first).source)
  low_reached = subst (λ at. Every (λ c. (1 ≤ c) × (c ≤ most_gates)) (gate_of (edge_at fs at).source)) (add-zero g.first) (reached_at 0 (omega arith))

  pub high_reached : Every (λ c. (1 ≤ c) × (c ≤ most_gates)) (gate_of (edge_at fs (g.first + 1)).source)
  high_reached = reached_at 1 (omega arith)
