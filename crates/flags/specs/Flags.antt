-- Flags packed into words. Internal definitions: the laws are in FlagLaws.
use Rattle.std.specs.Prelude.{ℕ, ◌/◌, ◌%◌, ◌^◌, Bool, List, map, get_or, set}
use Rattle.std.specs.Int.Bits.{bit_or}
use Rattle.lists.specs.Sequences.{upto}
use Rattle.cover.specs.Trusted.Bits.{bit}

-- flag n: bit n % 64 of word n / 64
unfoldable pub flag_at : List ℕ → ℕ → Bool
flag_at ws n = bit (get_or ws (n / 64) 0) (n % 64)

-- the flags below `size`
unfoldable pub flags_of : ℕ → List ℕ → List Bool
flags_of size ws = map (flag_at ws) (upto size)

-- the words with flag n raised, where one of them has it
unfoldable pub raised : List ℕ → ℕ → List ℕ
raised ws n = set ws (n / 64) (bit_or (get_or ws (n / 64) 0) (2 ^ (n % 64)))
