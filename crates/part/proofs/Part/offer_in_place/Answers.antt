use native.Mathlib.Omega.{arith}
use mathlib.Core.Path.{◌≡◌, sym, ◌∙◌, subst}
use lib.ListN.{length}
use Rattle.table.specs.Trusted.Limits.{table_room}
use Rattle.part.specs.Trusted.Answers.{accepted}
use Rattle.part.specs.Storing.{Offered}
use Rattle.part.proofs.StoringLaws.{offer_full, offer_stored}
use Rattle.part.proofs.Part.offer_in_place.Goals as goal

pub returns-then-is_full : goal.returns-then-is_full
returns-then-is_full c =
    let p = c.args.self.now in
    let records : length p.tables ≡ table_room = omega arith in
    let u = c.uses-uses.ensures in
    (offer_full p records c.requires.0 c.args.out c.args.mapping c.requires.1 (u.0 ∙ c.if-uses.false) (u.1 ∙ c.if-uses-2.false) c.if-is_full.true, c.requires.2)

pub returns : goal.returns
returns c =
    let a = c.args in
    let p = a.self.now in
    let records : length p.tables ≡ table_room = omega arith in
    let u = c.uses-uses.ensures in
    let s = c.store.ensures in (
      subst (λ q. Offered p a.out a.mapping q accepted) (sym s.0)
          (offer_stored p records c.requires.0 a.out a.mapping c.requires.1 (u.0 ∙ c.if-uses.false) (u.1 ∙ c.if-uses-2.false) c.if-is_full.false),
      s.1,
    )
