-- A test that computes says that each line of the text is the sentence of its number, for the numbers below the count of lines.
use Rattle.std.proofs.Common.{refl, ap, ◌∙◌}
use Rattle.refusals.specs.Trusted.Sentences.{refusals, front_write}
use Rattle.refusals.specs.Lines.{text_from}
use Rattle.refusals.specs.LineLaws.{line_is_lem}
use Rattle.refusals.proofs.write.Goals as goal

pub returns : goal.returns
returns c =
    c.put_line.ensures ∙ ap (λ t. front_write t c.args.out.now) (line_is_lem (text_from 0 refusals) refusals 37 c.args.number (tt, tt, refl))
