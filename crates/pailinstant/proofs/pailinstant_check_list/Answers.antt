use Rattle.std.proofs.Common.{ap, ◌∙◌}
use Rattle.part.specs.Trusted.Answers.{Result}
use Rattle.list_reading.specs.Trusted.ReadList.{read_list}
use Rattle.list_numbers.specs.Answered.{answer_code}
use Rattle.list_numbers.specs.NumbersLaws.{result_code}
use Rattle.pailinstant.proofs.pailinstant_check_list.Goals as goal

pub returns : goal.returns
returns c = c.answer_code.ensures ∙ ap (λ (r : Result). answer_code r.answer) c.read_list-read.ensures ∙ result_code (read_list c.args.text.now)
