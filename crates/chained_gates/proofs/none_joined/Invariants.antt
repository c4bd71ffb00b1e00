use lib.ListN.{get_or}
use Rattle.sheet.specs.Trusted.Answers.{drawn_gate, drawn_sheet}
use Rattle.sheet.specs.PlaceLaws.{no_sheet_gate}
use Rattle.joiner_laws.specs.NoneJoined.{GatesKept, FaninsKept}
use Rattle.chained_gates.proofs.none_joined.Given as goal

abbrev pub invariant-loop-edge : goal.invariant-loop-edge
invariant-loop-edge l =
    FaninsKept (drawn_sheet l.fn.sheet).gates l.gate-index (drawn_gate l.fn.sheet.fanins (get_or l.fn.sheet.gates l.gate-index no_sheet_gate)) l.edge-index

abbrev pub invariant-loop-gate : goal.invariant-loop-gate
invariant-loop-gate l = GatesKept (drawn_sheet l.fn.sheet).gates l.gate-index
