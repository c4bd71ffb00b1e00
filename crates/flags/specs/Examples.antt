-- Worked examples of the definitions, by computation: flags of two words, and one raised in each.
use Rattle.std.specs.Prelude.{◌+◌, ◌^◌, ◌≡◌, refl, true, false, [], ◌∷◌, map}
use Rattle.flags.specs.Flags.{flag_at, flags_of, raised}

-- 5 has the bits 0 and 2, so the flags 64 and 66 are up; there is no flag 128
flags_read : map (flag_at (0 ∷ 5 ∷ [])) (2 ∷ 63 ∷ 64 ∷ 65 ∷ 66 ∷ 128 ∷ []) ≡ false ∷ false ∷ true ∷ false ∷ true ∷ false ∷ []
unfolding flag_at
flags_read = refl

-- flag 63 is the last of the first word; one that is up stays up, and what no word has alters nothing
flags_raised : map (raised (4 ∷ 0 ∷ [])) (0 ∷ 2 ∷ 63 ∷ 64 ∷ 128 ∷ []) ≡ (5 ∷ 0 ∷ []) ∷ (4 ∷ 0 ∷ []) ∷ ((2 ^ 63 + 4) ∷ 0 ∷ []) ∷ (4 ∷ 1 ∷ []) ∷ (4 ∷ 0 ∷ []) ∷ []
unfolding raised
flags_raised = refl

flags_listed : flags_of 4 (6 ∷ []) ≡ false ∷ true ∷ true ∷ false ∷ []
unfolding flags_of flag_at
flags_listed = refl
