use Prim.Native.Nat.{◌≤◌, ◌<◌}
use native.Mathlib.Omega.{arith}
use mathlib.Core.Path.{◌≡◌}
use borrow.Author.Rules.{rules}
use lib.ListN.{length, get_or}
use Rattle.sheet.specs.Trusted.Limits.{most_gates}
use Rattle.sheet.specs.Trusted.Answers.{drawn_gate}
use Rattle.sheet.specs.PlaceLaws.{no_sheet_gate}
use Rattle.level_arrays.specs.Arrays.{FansGood}
use Rattle.level_arrays.specs.declared.Fans.{Fans}
use Rattle.level_sheets.specs.Lined.{FansOf, net_level}
use Rattle.level_mapping.specs.FastLaws.{fast_reach, fast_good, fast_more, rooms_more, fast_found}
use Rattle.sheet_lines.proofs.find_lines.Goals as goal
use Rattle.sheet_lines.proofs.find_lines.Goals.{In-loop-g, Start}

-- a sheet has room for 255 gates, and counts them in a byte: its type says so
roomy : (c : Start) → (length c.args.sheet.gates ≡ most_gates) × (c.args.sheet.count ≤ most_gates)
roomy c = (search rules, search rules)

-- ---- a turn

turn_roomy : (c : In-loop-g) → (length c.args.sheet.gates ≡ most_gates) × (c.args.sheet.count ≤ most_gates)
turn_roomy c = (search rules, search rules)

inside : (c : In-loop-g) → c.loop-g.g < most_gates
inside c = omega (arith, c.loop-g-test.true, turn_roomy c)

good : (c : In-loop-g) {f : Fans} →
    let a = c.args in
    FansOf (net_level a.levels.now) c.loop-g.starts c.loop-g.counts
    (drawn_gate a.sheet.fanins (get_or a.sheet.gates c.loop-g.g no_sheet_gate)).fanins f → FansGood a.k c.loop-g.g f
good c q =
    let (r, m) = turn_roomy c in
    fast_good c.args.sheet c.requires.0 r m c.loop-g-test.true _ _ _ c.loop-g.invariant.0 q

pub gather_fans-fans-requires : goal.gather_fans-fans-requires
gather_fans-fans-requires c =
    let (r, m) = turn_roomy (goal.at.gather_fans-fans-requires c).In-loop-g in
    fast_reach c.args.sheet c.requires.0 r m c.loop-g-test.true

pub greatest_level-level-requires : goal.greatest_level-level-requires
greatest_level-level-requires c =
    let f = good (goal.at.greatest_level-level-requires c).In-loop-g c.gather_fans-fans.ensures in
    (omega (arith, f.some.fanins), f.some.fanins.1, f.rooms.0)

pub gate_lines-lines-requires : goal.gate_lines-lines-requires
gate_lines-lines-requires c =
    let t = (goal.at.gate_lines-lines-requires c).In-loop-g in
    (good t c.gather_fans-fans.ensures, inside t, c.greatest_level-level.ensures, c.loop-g.invariant.1.lines)

pub loop-g-preserved : goal.loop-g-preserved
loop-g-preserved c =
    let (r, m) = turn_roomy (goal.at.loop-g-preserved c).In-loop-g in
    let s = c.args.sheet in
    let i = c.loop-g.invariant in
    let q = c.gather_fans-fans.ensures in (
      fast_more s c.requires.0 r m c.loop-g-test.true _ _ _ i.0 q i.1 c.gate_lines-lines.ensures,
      rooms_more s c.requires.0 r m c.loop-g-test.true _ _ _ i.0 q i.1 c.gate_lines-lines.ensures,
    )

pub returns : goal.returns
returns c =
    let (r, m) = roomy (goal.at.returns c).Start in
    let i = c.loop-g.invariant in
    (fast_found c.args.sheet c.requires.0 r m c.loop-g-test.false i.0, i.1)
