use Prim.Native.Nat.{◌+◌, ◌-◌, ◌≤◌, ◌<◌}
use native.Mathlib.Omega.{arith}
use mathlib.Core.Path.{◌≡◌, refl, ◌∙◌}
use borrow.Author.Rules.{rules}
use lib.ListN.{length, get_or, set, replicate, length-set}
use lib.Seq.{get_or-set_same}
use Rattle.sheet.specs.Trusted.Limits.{most_gates}
use Rattle.sheet.specs.Trusted.Answers.{drawn_sheet}
use Rattle.level_sheets.specs.Lined.{net_level}
use Rattle.level_sheets.specs.Asking.{Asking}
use Rattle.level_mapping.specs.FastLaws.{fast_reach, plan_good, plan_apart, plan_back, plan_more, plan_low, plan_root, some_gate, first_had, first_low, choose_start, plans_chosen}
use Rattle.level_mapper.proofs.choose_plans.Goals as goal
use Rattle.level_mapper.proofs.choose_plans.Goals.{After-first_line, In-loop-g, Start}

-- a sheet has room for 255 gates, and counts them in a byte: its type says so
roomy : (c : Start) → (length c.args.sheet.gates ≡ most_gates) × (c.args.sheet.count ≤ most_gates)
roomy c = (search rules, search rules)

gates_some : (c : Start) → 1 ≤ c.args.sheet.count
gates_some c =
    let (r, m) = roomy c in
    some_gate c.args.sheet c.requires.0 r m _ _ _ c.requires.1 c.requires.2

last_inside : (c : Start) → c.args.sheet.count - 1 < most_gates
last_inside c = omega (arith, roomy c, gates_some c)

pub first_line-requires : goal.first_line-requires
first_line-requires c =
    let (r, m) = roomy (goal.at.first_line-requires c).Start in
    first_had c.args.sheet c.requires.0 r m _ _ _ c.requires.1 c.requires.2

pub overflow_add-bounds : goal.overflow_add-bounds
overflow_add-bounds c =
    let (r, m) = roomy (goal.at.overflow_add-bounds c).Start in
    omega (arith, first_low c.args.sheet c.requires.0 r m _ _ _ c.requires.1 c.requires.2 _ c.first_line.ensures)

-- what is asked of the root
first_asked : (c : After-first_line) →
    let n = c.args.sheet.count - 1 in
    let v = get_or c.args.starts.now n 0 + c.first_line.result in
    n < most_gates → get_or (set (replicate most_gates 0) n v) n 0 ≡ v
first_asked c l =
    let n = c.args.sheet.count - 1 in
    get_or-set_same (replicate most_gates 0) n (get_or c.args.starts.now n 0 + c.first_line.result) 0 l

pub loop-g-init : goal.loop-g-init
loop-g-init c =
    let (r, m) = roomy (goal.at.loop-g-init c).Start in
    let l = last_inside (goal.at.loop-g-init c).Start in
    let n = c.args.sheet.count - 1 in
    let first = first_asked (goal.at.loop-g-init c).After-first_line l in
    let inputs-at : get_or (set (replicate most_gates 0) n c.args.k) n 0 ≡ c.args.k = get_or-set_same (replicate most_gates 0) n c.args.k 0 l in (
      omega arith,
      choose_start c.args.sheet c.requires.0 r m _ _ _ c.requires.1 c.requires.2 _ c.first_line.ensures _ _ _ first inputs-at,
      refl,
      inputs-at,
      refl,
      refl,
    )

-- ---- a turn, for the gate before g

turn_roomy : (c : In-loop-g) → (length c.args.sheet.gates ≡ most_gates) × (c.args.sheet.count ≤ most_gates)
turn_roomy c = (search rules, search rules)

one_left : (c : In-loop-g) → c.loop-g.g - 1 < c.args.sheet.count
one_left c = omega (arith, c.loop-g-test.true, c.loop-g.invariant.0)

asking : (c : In-loop-g) →
    let a = c.args in
    let l = c.loop-g in
    Asking a.k (net_level a.levels.now) (drawn_sheet a.sheet).gates a.starts.now a.counts.now a.store.now (l.g - 1 + 1) l.bounds l.inputs l.plans
asking c = let e : c.loop-g.g - 1 + 1 ≡ c.loop-g.g = omega (arith, c.loop-g-test.true) in rw e c.loop-g.invariant.1

pub gather_fans-fans-requires : goal.gather_fans-fans-requires
gather_fans-fans-requires c =
    let t = (goal.at.gather_fans-fans-requires c).In-loop-g in
    let (r, m) = turn_roomy t in
    fast_reach c.args.sheet c.requires.0 r m (one_left t)

pub gate_plan-draft-requires : goal.gate_plan-draft-requires
gate_plan-draft-requires c =
    let t = (goal.at.gate_plan-draft-requires c).In-loop-g in
    let (r, m) = turn_roomy t in
    let s = c.args.sheet in
    let p = c.requires in
    let q = c.gather_fans-fans.ensures in
    record {
      gate = s.count;
      sheet = m;
      good = plan_good s p.0 r m (one_left t) _ _ _ p.1 q;
      low = omega (arith, plan_low s p.0 r m (one_left t) _ _ _ p.1 q _ _ (asking t));
      rooms = (p.2.lines, c.loop-g.invariant.5);
      back = plan_back s p.0 r m (one_left t) _ _ _ p.1 q _ _ (asking t);
    }

pub ask-requires : goal.ask-requires
ask-requires c =
    let t = (goal.at.ask-requires c).In-loop-g in
    let (r, m) = turn_roomy t in
    let p = c.requires in
    let q = c.gather_fans-fans.ensures in
    let f = plan_good c.args.sheet p.0 r m (one_left t) _ _ _ p.1 q in
    record {
      few = f.some.fanins.1;
      rooms = (f.rooms.1, f.rooms.2);
      asks = c.gate_plan-draft.ensures.drafted.rooms;
      placed = λ h n o. omega (arith, f.before h n o, m);
      apart = plan_apart c.args.sheet p.0 r m (one_left t) _ _ _ p.1 q;
    }

pub loop-g-preserved : goal.loop-g-preserved
loop-g-preserved c =
    let t = (goal.at.loop-g-preserved c).In-loop-g in
    let (r, m) = turn_roomy t in
    let s = c.args.sheet in
    let p = c.requires in
    let q = c.gather_fans-fans.ensures in
    let g = c.gate_plan-draft.ensures in
    let i = c.loop-g.invariant in
    let v = c.ask.ensures in
    let o = plan_root s p.0 r m (one_left t) _ _ _ p.1 q v in (
      omega (arith, one_left t),
      plan_more s p.0 r m (one_left t) _ _ _ p.1 q _ _ (asking t) g.ranged g.drafted g.none v i.4,
      o.0 ∙ i.2,
      o.1 ∙ i.3,
      length-set c.loop-g.plans (c.loop-g.g - 1) _ ∙ i.4,
      g.room,
    )

-- ---- the end

pub returns : goal.returns
returns c =
    let (r, m) = roomy (goal.at.returns c).Start in
    let first = first_asked (goal.at.returns c).After-first_line (last_inside (goal.at.returns c).Start) in
    let e : c.loop-g.g ≡ 0 = omega (arith, c.loop-g-test.false) in
    plans_chosen c.args.sheet c.requires.0 r m _ _ _ c.requires.1 c.requires.2 _ c.first_line.ensures (c.loop-g.invariant.2 ∙ first)
    c.loop-g.invariant.3 (rw e at c.loop-g.invariant.1)
