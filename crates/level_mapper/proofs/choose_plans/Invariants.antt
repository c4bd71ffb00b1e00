-- The invariant: the gates passed have their plans, what they read is asked, and so is the root what it was at first.
use Prim.Native.Nat.{◌≤◌}
use mathlib.Core.Path.{◌≡◌}
use lib.ListN.{length, get_or}
use Rattle.sheet.specs.Trusted.Limits.{most_gates}
use Rattle.sheet.specs.Trusted.Answers.{drawn_sheet}
use Rattle.level_sheets.specs.Lined.{net_level}
use Rattle.level_sheets.specs.Asking.{Asking}
use Rattle.level_mapper.proofs.choose_plans.Given as goal

abbrev pub invariant-loop-g : goal.invariant-loop-g
invariant-loop-g l =
    (l.g ≤ l.sheet.count)
    × Asking l.k (net_level l.levels) (drawn_sheet l.sheet).gates l.starts l.counts l.store l.g l.bounds l.inputs l.plans
    × (get_or l.bounds l.last 0 ≡ get_or l.initial.bounds l.last 0)
    × (get_or l.inputs l.last 0 ≡ l.k)
    × (length l.plans ≡ most_gates)
    × (length l.arrays ≡ 90112)
