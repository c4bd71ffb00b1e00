use Rattle.std.proofs.Common.{arith}
use Rattle.search.proofs.Writing.{one_able, one_writes, fewer, first_writable, second_writable, join_able, join_writes}
use Rattle.search.proofs.+with_steps.Goals as goal

pub with_fanin-requires : goal.with_fanin-requires
with_fanin-requires t c = one_able c.requires c.if-u-eq0.true

pub returns-then-u-eq0 : goal.returns-then-u-eq0
returns-then-u-eq0 t c = one_writes c.requires c.if-u-eq0.true c.with_fanin.ensures

pub with_steps-first-requires : goal.with_steps-first-requires
with_steps-first-requires t c =
    let n = c.if-u-eq0.false in
    (omega (arith, c.decreases, fewer c.requires n), first_writable c.requires n)

pub with_steps-second-requires : goal.with_steps-second-requires
with_steps-second-requires t c =
    let n = c.if-u-eq0.false in
    (omega (arith, c.decreases, fewer c.requires n), second_writable c.requires n c.with_steps-first.ensures)

pub with_join-requires : goal.with_join-requires
with_join-requires t c = join_able c.requires c.if-u-eq0.false c.with_steps-first.ensures c.with_steps-second.ensures

pub returns : goal.returns
returns t c =
    rw c.with_join.ensures
    (join_writes c.requires c.if-u-eq0.false c.with_steps-first.ensures c.with_steps-second.ensures)
