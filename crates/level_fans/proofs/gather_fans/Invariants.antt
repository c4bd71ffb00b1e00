use lib.ListN.{take}
use Rattle.level_sheets.specs.Lined.{FansOf, net_level}
use Rattle.level_fans.proofs.gather_fans.Given as goal

abbrev pub invariant-loop-edge : goal.invariant-loop-edge
invariant-loop-edge l = FansOf (net_level l.fn.levels) l.fn.starts l.fn.counts (take l.edge-index l.edge-items) l.fans
