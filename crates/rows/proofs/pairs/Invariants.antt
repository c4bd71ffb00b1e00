use Rattle.cover.specs.Trusted.Bits.{bit, digit}
use Rattle.pending.specs.Merging.{Words}
use Rattle.rows.proofs.pairs.Given as goal

abbrev pub invariant-loop-j : goal.invariant-loop-j
invariant-loop-j l = Words (λ k row. bit l.truth (digit (bit l.column row) k)) l.j l.words
