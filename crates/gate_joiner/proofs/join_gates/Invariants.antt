use lib.ListN.{get_or}
use Rattle.sheet.specs.Trusted.Answers.{drawn_gate, drawn_sheet}
use Rattle.sheet.specs.PlaceLaws.{no_sheet_gate}
use Rattle.joiner_laws.specs.Joining.{GatesJoining, FaninsJoining}
use Rattle.gate_joiner.proofs.join_gates.Given as goal

abbrev pub invariant-loop-i : goal.invariant-loop-i
invariant-loop-i l =
    FaninsJoining (drawn_sheet l.fn.sheet).gates l.g (drawn_gate l.fn.sheet.fanins (get_or l.fn.sheet.gates l.g no_sheet_gate)) l.joined l.i l.x l.gone

abbrev pub invariant-loop-g : goal.invariant-loop-g
invariant-loop-g l = GatesJoining (drawn_sheet l.fn.sheet).gates l.g l.joined l.gone
