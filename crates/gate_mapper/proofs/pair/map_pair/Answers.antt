use mathlib.Core.Path.{◌≡◌, sym, ap, ap₂, ◌∙◌, subst₂}
use Rattle.plan.specs.Key.{cuts}
use Rattle.plan.specs.Entries.{Joinable}
use Rattle.pending.specs.Pendings.{Mergeable}
use Rattle.mapper_laws.specs.CodeRun.{held_if}
use Rattle.mapper_laws.specs.CodePair.{pending_of, key_in, count_if}
use Rattle.mapper_laws.specs.PairLaws.{pair_joinable, pair_mergeable}
use Rattle.gate_mapper.proofs.pair.map_pair.Goals as goal

pub join-key-requires : goal.join-key-requires
join-key-requires c =
    subst₂ (Joinable c.args.k) (sym c.key_of-a.ensures) (sym c.key_of-b.ensures)
    (pair_joinable c.args.i c.args.low c.args.j c.args.high c.requires c.args.kind)

pub cuts_of-cuts-requires : goal.cuts_of-cuts-requires
cuts_of-cuts-requires c =
    subst₂ (Joinable c.args.k) (sym c.key_of-a.ensures) (sym c.key_of-b.ensures)
    (pair_joinable c.args.i c.args.low c.args.j c.args.high c.requires c.args.kind)

pub merge-requires : goal.merge-requires
merge-requires c =
    let a = c.args in
    let ek = c.key_of-a.ensures in
    let eb = c.key_of-b.ensures in
    let ec = c.cuts_of-cuts.ensures in
    let el : (cuts a.k (key_in a.high) (key_in a.low)).0 ≡ c.cuts_of-cuts.result.left = sym (ap (λ q. q.left) ec ∙ ap₂ (λ x y. (cuts a.k x y).0) ek eb) in
    let er : (cuts a.k (key_in a.high) (key_in a.low)).1 ≡ c.cuts_of-cuts.result.right = sym (ap (λ q. q.right) ec ∙ ap₂ (λ x y. (cuts a.k x y).1) ek eb) in
    let h = c.hold-x.ensures in
    let n = c.from.ensures in
    let g = c.hold-y.ensures in
    let left : held_if (cuts a.k (key_in a.high) (key_in a.low)).0 a.first 0 (pending_of a.j a.high) ≡ c.hold-x.result = cc in
    let right : held_if (cuts a.k (key_in a.high) (key_in a.low)).1 a.first (count_if (cuts a.k (key_in a.high) (key_in a.low)).0) (pending_of a.i a.low) ≡ c.hold-y.result = cc in
    subst₂ Mergeable left right (pair_mergeable a.i a.low a.j a.high c.requires a.kind)
