use Rattle.sheet.specs.Trusted.Answers.{drawn_sheet}
use Rattle.joiner_laws.specs.Writing.{GatesWriting, FaninsWriting}
use Rattle.joiner.proofs.write_staying.Given as goal

abbrev pub invariant-loop-i : goal.invariant-loop-i
invariant-loop-i l = FaninsWriting (drawn_sheet l.sheet).gates l.g l.numbers l.kept l.used l.gates l.i l.fanins

abbrev pub invariant-loop-g : goal.invariant-loop-g
invariant-loop-g l =
    GatesWriting (drawn_sheet l.sheet).gates l.g l.numbers l.kept l.used l.gates l.fanins
