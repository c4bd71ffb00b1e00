use mathlib.Core.Path.{◌≡◌, sym, ap, ◌∙◌, subst}
use mathlib.Core.Bool.{true}
use mathlib.Core.Option.{some}
use mathlib.Core.List.{[], ◌∷◌}
use Rattle.std.specs.Prelude.{Option, Some, IfSome}
use Rattle.lists.specs.Trusted.Tests.{within}
use Rattle.tree.specs.Trusted.Limits.{greatest_net}
use Rattle.sheet.specs.Trusted.Limits.{most_gates}
use Rattle.sheet.specs.Trusted.Read.{counts, head_of}
use Rattle.sheet_line.specs.declared.Fields.{Fields}
use Rattle.sheet_line.specs.Inside.{values_of, numbers_of, FieldsRoom}
use Rattle.sheet_line.proofs.HeadLaws.{field_at, values_count, values_pair, head_none, head_other, head_net, head_count, head_good}
use Rattle.sheet_line.proofs.read_head.Goals as goal
use Rattle.sheet_line.proofs.read_head.Goals.{Else-f-ne2, Else-not-counts, Else-not-within}

-- the fields of a line that is laid out
laid_out : {o : Option Fields} {f : Fields} → o ≡ Some f → IfSome o FieldsRoom → FieldsRoom f
laid_out e = subst (λ o. IfSome o FieldsRoom) e

fields_are : {o : Option Fields} {f : Fields} → o ≡ Some f → head_of (numbers_of o) ≡ head_of (some (values_of f))
fields_are e = ap (λ o. head_of (numbers_of o)) e

-- the two fields, where there are two
pair_is : (c : Else-f-ne2) → head_of (numbers_of c.args.fields) ≡ head_of (some (field_at c.in-Some.f 0 ∷ field_at c.in-Some.f 1 ∷ []))
pair_is c = fields_are c.in-Some.is ∙ ap (λ xs. head_of (some xs)) (values_pair c.in-Some.f (laid_out c.in-Some.is c.requires) c.if-f-ne2.false)

net_good : (c : Else-not-within) → within 1 greatest_net (field_at c.in-Some.f 0).magnitude ≡ true
net_good c = sym c.within.ensures ∙ c.if-not-within.false

count_good : (c : Else-not-counts) → counts 1 most_gates (field_at c.in-Some.f 1) ≡ true
count_good c = sym c.counts.ensures ∙ c.if-not-counts.false

pub returns-in_default : goal.returns-in_default
returns-in_default c = ap (λ o. head_of (numbers_of o)) c.in_default.is ∙ head_none

pub returns-then-f-ne2 : goal.returns-then-f-ne2
returns-then-f-ne2 c =
    let f = c.in-Some.f in
    fields_are c.in-Some.is ∙ head_other (values_of f) (λ e. c.if-f-ne2.true (sym (values_count f (laid_out c.in-Some.is c.requires)) ∙ e))

pub returns-then-not-within : goal.returns-then-not-within
returns-then-not-within c =
    pair_is (goal.at.returns-then-not-within c).Else-f-ne2 ∙ head_net _ _ (sym c.within.ensures ∙ c.if-not-within.true)

pub returns-then-not-counts : goal.returns-then-not-counts
returns-then-not-counts c =
    pair_is (goal.at.returns-then-not-counts c).Else-f-ne2 ∙ head_count _ _ (net_good (goal.at.returns-then-not-counts c).Else-not-within) (sym c.counts.ensures ∙ c.if-not-counts.true)

pub returns : goal.returns
returns c =
    pair_is (goal.at.returns c).Else-f-ne2 ∙ head_good _ _ (net_good (goal.at.returns c).Else-not-within) (count_good (goal.at.returns c).Else-not-counts)
