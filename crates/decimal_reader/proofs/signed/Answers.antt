use Rattle.std.proofs.Common.{arith, rules, sym, take, drop, ◌∙◌, ◌-◌, length, length-drop, SFits, w32, pos, ap, ◌≡◌, to_z, of_z, to_z-of_z, ◌-ℤ◌, neg_ℤ, Some}
use Rattle.std.proofs.lemmas.List.{length-take}
use Rattle.decimal.specs.Trusted.Number.{natural, negated, signed}
use Rattle.decimal.specs.NumberLaws.{negated_more}
use Rattle.decimal.specs.ReadingLaws.{parsed_some}
use Rattle.decimal.specs.Trusted.Reading.{field_answer}
use Rattle.decimal.proofs.SignLaws.{minus_bits, negated_fits}
use Rattle.decimal_reader.proofs.NumberLaws.{natural_fits, signed_minus}
use Rattle.decimal_reader.proofs.signed.Goals as goal
use Rattle.decimal_reader.proofs.signed.Goals.{In_ok-n-in-45}

minus_fits : (c : In_ok-n-in-45) → SFits w32 (pos c.in_ok-n-in-45.n)
minus_fits c = natural_fits (take (length c.args.s.now - 1) (drop 1 c.args.s.now)) (simp (length-take, length-drop) (omega arith)) (sym c.natural.ensures ∙ c.in_ok-n-in-45.was)

pub overflow_cast-result : goal.overflow_cast-result
overflow_cast-result c = minus_fits (goal.at.overflow_cast-result c).In_ok-n-in-45

pub overflow_sub-result : goal.overflow_sub-result
overflow_sub-result c =
    let n = c.in_ok-n-in-45.n in
    let fits = minus_fits (goal.at.overflow_sub-result c).In_ok-n-in-45 in
    rw (minus_bits n fits) (negated_fits n fits)

pub returns-else-is_zero : goal.returns-else-is_zero
returns-else-is_zero c =
    let n = c.in_ok-n-in-45.n in
    let fits = minus_fits (goal.at.returns-else-is_zero c).In_ok-n-in-45 in
    let value : to_z w32 (of_z w32 (pos 0 -ℤ to_z w32 n)) ≡ neg_ℤ (pos n) = ap (λ z. to_z w32 (of_z w32 z)) (minus_bits n fits) ∙ to_z-of_z (negated_fits n fits) in
    let found = parsed_some (natural (take (length c.args.s.now - 1) (drop 1 c.args.s.now))) (sym c.natural.ensures ∙ c.in_ok-n-in-45.was) in
    let minus : signed c.args.s.now ≡ negated (natural (take (length c.args.s.now - 1) (drop 1 c.args.s.now))) = signed_minus c.args.s.now (omega arith) (omega arith) in
    ap Some value ∙ sym (ap field_answer (minus ∙ ap negated found ∙ negated_more n c.if-is_zero.false))

pub overflow_cast-result-in_default : goal.overflow_cast-result-in_default
overflow_cast-result-in_default c = natural_fits c.args.s.now (omega arith) (sym c.natural-in_default.ensures ∙ c.in_ok-natural-in_default.was)

pub returns-in_ok-natural-in_default : goal.returns-in_ok-natural-in_default
returns-in_ok-natural-in_default c =
    let fits : SFits w32 (pos c.in_ok-natural-in_default.field-0) = natural_fits c.args.s.now (omega arith) (sym c.natural-in_default.ensures ∙ c.in_ok-natural-in_default.was) in
    search rules
