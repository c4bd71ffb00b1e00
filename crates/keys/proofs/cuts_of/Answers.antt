use Prim.Native.Nat.{◌+◌, ◌≤◌, ◌<◌, min}
use native.Mathlib.Omega.{arith}
use borrow.Author.Tests.{le-leb, lt-leb}
use Rattle.plan.specs.Key.{cuts}
use Rattle.keys.proofs.cuts_of.Goals as goal

pub returns-then-a-b : goal.returns-then-a-b
unfolding cuts
returns-then-a-b c = simp (le-leb _ _ c.if-a-b.true)

pub returns-then-min-k : goal.returns-then-min-k
unfolding cuts
returns-then-min-k c =
    let a = c.args in
    let h : a.k < a.a.width + a.b.width = omega arith in
    let i : a.k < 1 + min a.a.width a.b.width = omega arith in
    simp (lt-leb _ _ h, lt-leb _ _ i)

pub returns-then-right_wider : goal.returns-then-right_wider
unfolding cuts
returns-then-right_wider c =
    let a = c.args in
    let h : a.k < a.a.width + a.b.width = omega arith in
    let i : 1 + min a.a.width a.b.width ≤ a.k = omega arith in
    simp (lt-leb _ _ h, le-leb _ _ i, le-leb _ _ c.if-right_wider.true)

pub returns-else-right_wider : goal.returns-else-right_wider
unfolding cuts
returns-else-right_wider c =
    let a = c.args in
    let h : a.k < a.a.width + a.b.width = omega arith in
    let i : 1 + min a.a.width a.b.width ≤ a.k = omega arith in
    simp (lt-leb _ _ h, le-leb _ _ i, lt-leb _ _ c.if-right_wider.false)
