-- The definitions computed: 01's list read back, and a text for each refusal of a list.
use Prim.Native.String.{String}
use Rattle.std.specs.Prelude.{◌≡◌, refl, List, [], ◌∷◌, map}
use Rattle.std.proofs.Math.Option.{bind}
use Rattle.lists.specs.Trusted.Checked.{Checked, passed, refused, ◌>>=◌, require, given}
use Rattle.sheet.specs.Checks.{bytes}
use Rattle.part.specs.Trusted.Answers.{empty}
use Rattle.part.specs.declared.Part.{Part}
use Rattle.list_reading.specs.PartExamples.{part}
use Rattle.list_reading.specs.Trusted.ReadList.{read_list}

abbrev Case : Type 0
Case = String × Checked Part

abbrev cases : List Case
cases =
    -- 01's list, and that of a part with no table
    ("     4     8     2\n     1    20     4     1     2     3     4                61152\n     2    21     2     5    20                   11\n", passed part)
    ∷ ("     4     8     0\n", passed (empty 4 8))
    -- line 0: missing, not ended, with a minus sign, with a leading zero; K and the capacity out of range, 2 first; a used count above the capacity
    ∷ ("", refused 31 0)
    ∷ ("     4     8     0", refused 31 0)
    ∷ ("     4     8    -2\n", refused 31 0)
    ∷ ("    04     8     0\n", refused 31 0)
    ∷ ("     7   801   802\n", refused 2 0)
    ∷ ("     1     8     0\n", refused 2 0)
    ∷ ("     4   801   802\n", refused 3 0)
    ∷ ("     4     0     0\n", refused 3 0)
    ∷ ("     4     8     9\n", refused 32 0)
    -- a line missing, not ended, left over
    ∷ ("     4     8     2\n     1    20     4     1     2     3     4                61152\n", refused 31 2)
    ∷ ("     4     8     1\n     1    20     4     1     2     3     4                61152", refused 31 1)
    ∷ ("     4     8     1\n     1    20     4     1     2     3     4                61152\n\n", refused 31 2)
    ∷ ("     4     8     0\n     1    20     2     1     2                    8\n", refused 31 1)
    -- another number than the line's, u 1 and 7, a minus sign, a truth table of 2^64 where u is above K too: 31 first
    ∷ ("     4     8     1\n     2    20     2     1     2                    8\n", refused 31 1)
    ∷ ("     4     8     1\n     1    20     1     1                    2\n", refused 31 1)
    ∷ ("     6     8     1\n     1    20     7     1     2     3     4     5     6     7                    8\n", refused 31 1)
    ∷ ("     4     8     1\n     1    20     2    -1     2                    8\n", refused 31 1)
    ∷ ("     3     8     1\n     1    20     4     1     2     3     4 18446744073709551616\n", refused 31 1)
    -- u above K, a truth table of 2^(2^u), inputs that do not rise, a net driven twice
    ∷ ("     3     8     1\n     1    20     4     1     2     3     4                61152\n", refused 32 1)
    ∷ ("     4     8     1\n     1    20     2     1     2                   16\n", refused 32 1)
    ∷ ("     4     8     1\n     1    20     2     2     1                    8\n", refused 32 1)
    ∷ ("     4     8     2\n     1    20     2     1     2                    8\n     2    20     2     3     4                    8\n", refused 32 2)
    ∷ []

lists_right : map (λ (c : Case). read_list (bytes c.0)) cases ≡ map (λ (c : Case). c.1) cases
unfolding read_list bind ◌>>=◌ require given
lists_right = refl
