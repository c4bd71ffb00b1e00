use mathlib.Core.Path.{◌≡◌, refl, sym, ap, ◌∙◌}
use mathlib.Core.Bool.{true}
use Prim.Native.Nat.{◌^◌}
use lib.ListN.{length, take}
use Rattle.plan.specs.Entries.{GoodKeys}
use Rattle.plan.specs.PlanOf.{good_input}
use Rattle.search.proofs.Planning.{whole_place, whole_writable, whole_answer, plan_keys}
use borrow.Author.Rules.{rules}
use Rattle.search.proofs.best_plan.Goals as goal
use Rattle.search.proofs.best_plan.Goals.{After-fill-end, Else-not-is_good}

-- the keys are good
passed : (c : Else-not-is_good) → let a = c.args in good_input a.k a.count a.keys ≡ true
passed c = sym c.is_good.ensures ∙ c.if-not-is_good.false

found : (c : Else-not-is_good) →
    let a = c.args in
    (length (take a.count a.keys) ≡ a.count) × GoodKeys a.k (take a.count a.keys)
found c =
    plan_keys c.args.k c.args.count c.args.keys (search rules) c.requires (passed c)

ended : (c : After-fill-end) → let a = c.args in length (take a.count a.keys) ≡ a.count → c.fill-end.result ≡ 2 ^ length (take a.count a.keys)
ended c e = c.fill-end.ensures.0 ∙ ap (λ n. 2 ^ n) (sym e)

pub fill-end-requires : goal.fill-end-requires
fill-end-requires c =
    let f = found (goal.at.fill-end-requires c).Else-not-is_good in
    record { good = f.1; size = f.0; rooms = (refl, refl, refl, refl) }

pub key_at-key-requires : goal.key_at-key-requires
key_at-key-requires c =
    let f = found (goal.at.key_at-key-requires c).Else-not-is_good in
    (whole_place f.1 (ended (goal.at.key_at-key-requires c).After-fill-end f.0)).1

pub with_steps-requires : goal.with_steps-requires
with_steps-requires c =
    let f = found (goal.at.with_steps-requires c).Else-not-is_good in
    let e = ended (goal.at.with_steps-requires c).After-fill-end f.0 in
    rw c.blank.ensures (whole_writable f.1 e c.fill-end.ensures.1 _)

pub returns : goal.returns
returns c =
    let f = found (goal.at.returns c).Else-not-is_good in
    let e = ended (goal.at.returns c).After-fill-end f.0 in
    let w = rw c.blank.ensures at c.with_steps.ensures in
    (passed (goal.at.returns c).Else-not-is_good, whole_answer f.1 e c.fill-end.ensures.1 c.key_at-key.ensures w)
