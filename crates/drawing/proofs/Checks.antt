-- The definition computed: the paper's two sheets and a third as text, and what reading that gives.
use Prim.Native.String.{String}
use Rattle.std.specs.Prelude.{◌≡◌, refl, true, false, List, [], ◌∷◌, ◌++◌, map}
use Rattle.lists.specs.Trusted.Checked.{passed, ◌>>=◌, require, given}
use Rattle.tree.specs.declared.Kind.TheVariants.{And as and, Or as or}
use Rattle.sheet.specs.declared.Source.{Source}
use Rattle.sheet.specs.declared.Source.TheVariants.{Net as net, Gate as gate}
use Rattle.sheet.specs.declared.Edge.{Edge as Fanin}
use Rattle.sheet.specs.Trusted.Sheet.{DrawnSheet}
use Rattle.sheet.specs.Trusted.Read.{read_sheet}
use Rattle.sheet.specs.Checks.{bytes}
use Rattle.drawing.specs.Trusted.Written.{written}

abbrev up : Source → Fanin
up s = record { inverted = false; source = s }

abbrev down : Source → Fanin
down s = record { inverted = true; source = s }

abbrev pub Drawing : Type 0
Drawing = String × DrawnSheet

-- the two of the paper, and one with the greatest net, the most fanins and an inverted gate
abbrev pub drawings : List Drawing
drawings = (
  "    20     3\n     2     2     1     2\n     2     2     3     4\n     1     2 10001 10002\n",
  record {
    out = 20;
    inverted = false;
    gates =
        record { kind = or; fanins = up (net 1) ∷ up (net 2) ∷ [] }
        ∷ record { kind = or; fanins = up (net 3) ∷ up (net 4) ∷ [] }
        ∷ record { kind = and; fanins = up (gate 1) ∷ up (gate 2) ∷ [] }
        ∷ [];
  },
)
    ∷ (
      "   -21     1\n     1     2    20    -5\n",
      record { out = 21; inverted = true; gates = record { kind = and; fanins = up (net 20) ∷ down (net 5) ∷ [] } ∷ [] },
    )
    ∷ (
      "  9999     2\n     2    10     1     2     3     4     5     6     7     8     9   -10\n     1     2-10001    11\n",
      record {
        out = 9999;
        inverted = false;
        gates =
            record { kind = or; fanins = map (λ n. up (net n)) (1 ∷ 2 ∷ 3 ∷ 4 ∷ 5 ∷ 6 ∷ 7 ∷ 8 ∷ 9 ∷ []) ++ (down (net 10) ∷ []) }
            ∷ record { kind = and; fanins = down (gate 1) ∷ up (net 11) ∷ [] }
            ∷ [];
      },
    )
    ∷ []

pub drawings_written : map (λ (d : Drawing). written d.1) drawings ≡ map (λ (d : Drawing). bytes d.0) drawings
drawings_written = refl

pub drawings_read : map (λ (d : Drawing). read_sheet (written d.1)) drawings ≡ map (λ (d : Drawing). passed d.1) drawings
unfolding ◌>>=◌ require given
drawings_read = refl
