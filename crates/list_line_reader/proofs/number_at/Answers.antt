use Prim.Native.Nat.{◌+◌, ◌-◌}
use native.Mathlib.Omega.{arith}
use mathlib.Core.Path.{◌≡◌, sym, ap, ◌∙◌}
use lib.ListN.{take, drop}
use Rattle.decimal.specs.Trusted.Reading.{parsed, word_read}
use Rattle.list_layout.specs.TakenLaws.{first_short, first_there}
use Rattle.list_line_reader.proofs.number_at.Goals as goal

pub returns-then-len-at : goal.returns-then-len-at
returns-then-len-at c =
    let a = c.args in
    sym (ap parsed (first_short a.width a.at a.text.now (omega arith)))

pub returns : goal.returns
returns c =
    let a = c.args in
    let all : a.at + a.width - a.at ≡ a.width = omega arith in
    c.read_word.ensures ∙ ap (λ n. word_read (take n (drop a.at a.text.now))) all
    ∙ sym (ap parsed (first_there a.width a.at a.text.now (omega arith)))
