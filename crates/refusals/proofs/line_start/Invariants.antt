-- What follows so many lines of the text follows the lines left of the bytes left.
use Rattle.std.proofs.Common.{◌≡◌, drop}
use Rattle.refusals.specs.Lines.{after_lines}
use Rattle.refusals.proofs.line_start.Given as goal

abbrev pub invariant-loop-i : goal.invariant-loop-i
invariant-loop-i l = after_lines l.number l.text ≡ after_lines l.left (drop l.i l.text)
