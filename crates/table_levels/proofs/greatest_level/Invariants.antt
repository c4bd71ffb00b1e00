use Rattle.std.proofs.Common.{◌≡◌, map, max, get_or, drop}
use Rattle.cover.specs.Trusted.Tables.{greatest}
use Rattle.table_levels.proofs.greatest_level.Given as goal

abbrev pub invariant-loop-code : goal.invariant-loop-code
invariant-loop-code l =
    greatest (map (λ c. get_or l.levels c 0) l.code-items) ≡ max l.most (greatest (map (λ c. get_or l.levels c 0) (drop l.code-index l.code-items)))
