use Rattle.std.proofs.Common.{◌≡◌, ◌<◌, ◌^◌, drop}
use Rattle.decimal.specs.Trusted.Number.{digits}
use Rattle.decimal_reader.proofs.long.Given as goal

abbrev pub invariant-loop-b : goal.invariant-loop-b
invariant-loop-b l = (l.n < 2 ^ 64) × (digits 0 l.s ≡ digits l.n (drop l.b-index l.s))
