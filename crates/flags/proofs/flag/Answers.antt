use Rattle.std.proofs.Common.{rules, ◌≡◌, ℕ, ◌/◌, ◌%◌, ◌^◌, Bool, false, List, Option, Some, None, eqb, get_or, arith, Bor}
use Rattle.std.specs.Option.{MatchOption}
use Rattle.std.specs.Slice.{IsItemAt}
use Rattle.cover.specs.Trusted.Bits.{bit}
use Rattle.cover.specs.BitLaws.{bit_shift, bit_zero}
use Rattle.flags.specs.Flags.{flag_at}
use Rattle.flags.proofs.flag.Goals as goal

by_word : (words : List ℕ) (at i : ℕ) (r : Bool) (o : Option (Bor ℕ)) → IsItemAt words at o →
    MatchOption o (r ≡ false) (λ w. r ≡ eqb (w.now / 2 ^ i % 2) 1) → r ≡ bit (get_or words at 0) i
by_word words at i r None g h = grind (arith, bit_zero i)
by_word words at i r (Some w) g h = grind (arith, bit_shift (get_or words at 0) i)

pub returns : goal.returns
unfolding flag_at
returns c = by_word c.args.words.now (c.args.n / 64) (c.args.n % 64) _ c.get.result c.get.ensures.lookup (search rules)
