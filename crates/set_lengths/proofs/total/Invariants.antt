use Rattle.std.proofs.Common.{◌≡◌, ◌+◌, ◌*◌, ◌≤◌, drop}
use Rattle.lists.specs.Trusted.Lists.{sum}
use Rattle.set_lengths.proofs.total.Given as goal

-- what is added and what is left are the whole sum
abbrev pub invariant-loop-length : goal.invariant-loop-length
invariant-loop-length l =
    (l.sum ≤ 4294967295 * l.length-index) × (l.sum + sum (λ n. n) (drop l.length-index l.lengths) ≡ sum (λ n. n) l.lengths)
