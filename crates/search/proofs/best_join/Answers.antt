use mathlib.Core.Path.{sym, ◌∙◌}
use native.Mathlib.Omega.{arith}
use borrow.Author.Tests.{eqb-true}
use Rattle.search.proofs.Submasks.{made_joined, made_least, tried_first, tried_stay, tried_take, tried_last}
use Rattle.search.proofs.best_join.Goals as goal
use Rattle.search.proofs.best_join.Goals.{then-precedes, else-precedes, then-loop-u-test+else-not-met, else-loop-u-test}

pub volume-requires : goal.volume-requires
volume-requires c =
    let p = c.requires in
    made_joined _ _ _ _ _ p (tried_first _ _ _ _ _ p.some _ c.join_at-key.ensures).made

pub loop-u-init : goal.loop-u-init
loop-u-init c =
    (tried_first _ _ _ _ _ c.requires.some _ c.join_at-key.ensures, λ e. sym c.volume.ensures ∙ eqb-true _ _ e)

pub volume-requires-then-precedes : goal.volume-requires-then-precedes
volume-requires-then-precedes c =
    made_joined _ _ _ _ _ c.requires
    (record { some = omega arith; part = c.loop-u.invariant.0.at; is = c.join_at-x.ensures })

pub loop-u-preserved : goal.loop-u-preserved
loop-u-preserved c =
    let p = c.loop-u.invariant in
    let x = c.join_at-x.ensures in
    let t = c.precedes.ensures in
    elim c.if-precedes.branch [
      | then-precedes w ↦
          rw (w.sub-is, w.key-is, w.met-is)
          (tried_take _ _ _ _ _ _ p.0 (omega arith) x (t.0 w.if-precedes.true), λ e. sym w.volume-then-precedes.ensures ∙ eqb-true _ _ e)
      | else-precedes w ↦
          rw (w.sub-is, w.key-is, w.met-is) (tried_stay _ _ _ _ _ p.0 (rw x at (t.1 w.if-precedes.false)), p.1)
    ]

pub returns : goal.returns
returns c =
    let i = c.loop-u.invariant in
    elim c.loop-u-test.branch [
      | then-loop-u-test+else-not-met w ↦ made_least _ _ _ _ _ c.requires i.0.made (i.1 w.if-not-met.false)
      | else-loop-u-test w ↦ tried_last _ _ _ _ _ i.0 (omega arith)
    ]
