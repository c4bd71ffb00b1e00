use Rattle.std.proofs.Common.{arith, sym, ap, ◌∙◌, ◌-◌, length, take, drop, length-drop}
use Rattle.std.proofs.lemmas.List.{length-take}
use Rattle.decimal.specs.Trusted.Number.{in_word, upright}
use Rattle.decimal.specs.Trusted.Reading.{parsed}
use Rattle.decimal_reader.proofs.NumberLaws.{number_none, word_there, short_word}
use Rattle.decimal_reader.proofs.read_word.Goals as goal

pub returns-in_err-number : goal.returns-in_err-number
returns-in_err-number c =
    c.from_residual.ensures ∙ sym (ap (λ o. parsed (in_word (upright o))) (number_none c.args.s.now (sym c.first_other.ensures ∙ c.in_err-number.was)))

pub returns-then-number-le-SHORT : goal.returns-then-number-le-SHORT
returns-then-number-le-SHORT c =
    let s = c.args.s.now in
    let i = c.in_ok-number.field-0 in
    c.natural.ensures ∙ sym (ap parsed (word_there s (sym c.first_other.ensures ∙ c.in_ok-number.was)
    ∙ short_word (take (length s - i) (drop i s)) (simp (length-take, length-drop) (omega arith))))

pub returns-else-number-le-SHORT : goal.returns-else-number-le-SHORT
returns-else-number-le-SHORT c = c.long.ensures ∙ sym (ap parsed (word_there c.args.s.now (sym c.first_other.ensures ∙ c.in_ok-number.was)))
