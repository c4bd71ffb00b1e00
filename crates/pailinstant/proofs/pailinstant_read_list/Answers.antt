use Rattle.std.proofs.Common.{arith, ap, ◌∙◌}
use Rattle.part.specs.Trusted.Answers.{Result}
use Rattle.list_reading.specs.Trusted.ReadList.{read_list}
use Rattle.list_numbers.specs.Trusted.Numbers.{numbers_read}
use Rattle.list_numbers.specs.Answered.{came_of}
use Rattle.list_numbers.specs.NumbersLaws.{result_came, read_used}
use Rattle.pailinstant.proofs.pailinstant_read_list.Goals as goal

pub hand_over-requires : goal.hand_over-requires
hand_over-requires c = omega (arith, ap (λ (r : Result). r.part.used) c.read_list.ensures, read_used c.args.text.now)

pub returns : goal.returns
returns c =
    let old = c.args.numbers.now in
    c.hand_over.ensures ∙ ap (λ (r : Result). numbers_read (came_of r.part r.answer) old) c.read_list.ensures
    ∙ ap (λ b. numbers_read b old) (result_came (read_list c.args.text.now))
