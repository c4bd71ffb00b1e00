-- The definitions computed: fields, the paper's example sheets, and a text for each condition that turns a sheet down.
use Rattle.std.specs.Prelude.{ℕ, ◌+◌, ◌*◌, ◌/◌, ◌%◌, ◌≡◌, refl, true, false, List, [], ◌∷◌, ◌++◌, map, length, drop}
use Prim.Native.Char.{code}
use Prim.Native.String as Text
use Prim.Native.String.{String}
use Rattle.std.proofs.Math.Option.{Option, none, some}
use Rattle.lists.specs.Trusted.Lists.{gather}
use Rattle.lists.specs.Sequences.{upto}
use Rattle.lists.specs.Trusted.Checked.{Checked, passed, refused, ◌>>=◌, require, given}
use Rattle.tree.specs.declared.Kind.TheVariants.{And as and, Or as or}
use Rattle.tree.specs.Trusted.Tree.{Node, Edges}
use Rattle.tree.specs.Measures.{leaves}
use Rattle.decimal.specs.Trusted.Number.{Number}
use Rattle.sheet.specs.Trusted.Line.{fields}
use Rattle.sheet.specs.declared.Source.{Source}
use Rattle.sheet.specs.declared.Source.TheVariants.{Net as net, Gate as gate}
use Rattle.sheet.specs.declared.Edge.{Edge as Fanin}
use Rattle.sheet.specs.declared.Sheet.{Sheet}
use Rattle.sheet.specs.Trusted.Sheet.{DrawnSheet}
use Rattle.sheet.specs.Trusted.Read.{read_sheet}
use Rattle.sheet.specs.Trusted.Cut.{sheet_text}
use Rattle.sheet.specs.Trusted.Trees.{tree_of}
use Rattle.sheet.specs.Trusted.Answers.{drawn_sheet}

-- of ASCII text
abbrev pub bytes : String → List ℕ
bytes Text.[] = []
bytes (Text.◌∷◌ c s) = code c ∷ bytes s

-- ---- fields

abbrev plus : ℕ → Number
plus n = record { negative = false; magnitude = n }

abbrev minus : ℕ → Number
minus n = record { negative = true; magnitude = n }

abbrev pub Line : Type 0
Line = String × Option (List Number)

abbrev pub line_cases : List Line
line_cases =
    ("     0", some (plus 0 ∷ []))
    ∷ ("123456", some (plus 123456 ∷ []))
    ∷ ("   -21     1", some (minus 21 ∷ plus 1 ∷ []))
    ∷ ("-99999", some (minus 99999 ∷ []))
    ∷ ("", none)
    ∷ ("      ", none)
    ∷ ("    -0", none)
    ∷ ("    00", none)
    ∷ ("    01", none)
    ∷ ("   -01", none)
    ∷ ("     -", none)
    ∷ ("    +1", none)
    ∷ ("   - 1", none)
    ∷ ("   --1", none)
    ∷ ("    1 ", none)
    ∷ ("   1 1", none)
    ∷ ("\t    1", none)
    ∷ ("     1\r", none)
    ∷ ("    1", none)
    ∷ ("     1    2", none)
    ∷ ("     1      ", none)
    ∷ ("     1     2     3     4     5     6     7     8     9    10    11    12", some (map plus (map (λ n. 1 + n) (upto 12))))
    ∷ ("     1     2     3     4     5     6     7     8     9    10    11    12    13", none)
    ∷ []

pub lines_right : map (λ (c : Line). fields (bytes c.0)) line_cases ≡ map (λ (c : Line). c.1) line_cases
lines_right = refl

-- ---- the paper's two sheets

abbrev first : String
first = "    20     3\n     2     2     1     2\n     2     2     3     4\n     1     2 10001 10002\n"

abbrev second : String
second = "   -21     1\n     1     2    20    -5\n"

abbrev up : Source → Fanin
up s = record { inverted = false; source = s }

abbrev down : Source → Fanin
down s = record { inverted = true; source = s }

abbrev first_sheet : DrawnSheet
first_sheet = record {
  out = 20;
  inverted = false;
  gates =
      record { kind = or; fanins = up (net 1) ∷ up (net 2) ∷ [] }
      ∷ record { kind = or; fanins = up (net 3) ∷ up (net 4) ∷ [] }
      ∷ record { kind = and; fanins = up (gate 1) ∷ up (gate 2) ∷ [] }
      ∷ [];
}

abbrev second_sheet : DrawnSheet
second_sheet = record { out = 21; inverted = true; gates = record { kind = and; fanins = up (net 20) ∷ down (net 5) ∷ [] } ∷ [] }

-- the first as the code stores it, with what stands past the counts
abbrev first_stored : Sheet
first_stored = record {
  out = 20;
  inverted = false;
  count = 3;
  gates =
      record { kind = or; count = 2; first = 0 }
      ∷ record { kind = or; count = 2; first = 2 }
      ∷ record { kind = and; count = 2; first = 4 }
      ∷ record { kind = and; count = 0; first = 0 }
      ∷ [];
  fanins = up (net 1) ∷ up (net 2) ∷ up (net 3) ∷ up (net 4) ∷ up (gate 1) ∷ up (gate 2) ∷ up (net 0) ∷ [];
}

pub first_drawn : drawn_sheet first_stored ≡ first_sheet
first_drawn = refl

pub first_cut : sheet_text (bytes first ++ bytes second) ≡ (bytes first, bytes second)
unfolding ◌>>=◌ require given
first_cut = refl

pub second_cut : sheet_text (bytes second) ≡ (bytes second, [])
unfolding ◌>>=◌ require given
second_cut = refl

-- all that is left: line 1 turned down, a line missing or unended
abbrev pub left_cases : List String
left_cases = "" ∷ "    20    1\n     1\n" ∷ "    20     0\n     1\n" ∷ "    20     2\n     1\n" ∷ "    20     1\n     1" ∷ []

pub left_cut : map (λ (c : String). sheet_text (bytes c)) left_cases ≡ map (λ (c : String). (bytes c, [])) left_cases
unfolding ◌>>=◌ require given
left_cut = refl

-- a line is cut off whatever its bytes
pub bad_cut : sheet_text (bytes "    20     1\nx\n     1\n") ≡ (bytes "    20     1\nx\n", bytes "     1\n")
unfolding ◌>>=◌ require given
bad_cut = refl

abbrev edges : Node → Node → Edges
edges s t = Edges.edge false s (Edges.edge false t Edges.none)

pub first_tree : tree_of first_sheet
    ≡ Node.gate and (edges (Node.gate or (edges (Node.leaf 1) (Node.leaf 2))) (Node.gate or (edges (Node.leaf 3) (Node.leaf 4))))
first_tree = refl

-- ---- what comes of texts

abbrev pub Case : Type 0
Case = String × Checked DrawnSheet

abbrev pub cases : List Case
cases =
    (first, passed first_sheet)
    ∷ (second, passed second_sheet)
    -- 1: line 1 missing, unended, empty, badly laid out, with one field or three
    ∷ ("", refused 1 1)
    ∷ ("    20     1", refused 1 1)
    ∷ ("\n", refused 1 1)
    ∷ ("    20    1\n", refused 1 1)
    ∷ ("    20\n", refused 1 1)
    ∷ ("     0     0     0\n", refused 1 1)
    -- 4 before 5
    ∷ ("     0     1\n", refused 4 1)
    ∷ (" 10000     0\n", refused 4 1)
    ∷ ("-10001     0\n", refused 4 1)
    ∷ ("  9999     0\n", refused 5 1)
    ∷ (" -9999     0\n", refused 5 1)
    ∷ ("     1   256\n", refused 5 1)
    ∷ ("     1    -1\n", refused 5 1)
    -- 1: a gate's line missing, unended, badly laid out, with one field
    ∷ ("     9     1\n", refused 1 2)
    ∷ ("     9     1\n     1     2     1     2", refused 1 2)
    ∷ ("     9     1\n     3     1     0    00\n", refused 1 2)
    ∷ ("     9     1\n     3\n", refused 1 2)
    ∷ ("     9     2\n     1     2     1     2\n", refused 1 3)
    -- 6 before 7 before 1 for the count of fields before 8
    ∷ ("     9     1\n     3     1     0\n", refused 6 2)
    ∷ ("     9     1\n    -1     2     1     2\n", refused 6 2)
    ∷ ("     9     1\n     1     1     0     0\n", refused 7 2)
    ∷ ("     9     1\n     1    -2     1     2\n", refused 7 2)
    ∷ ("     9     1\n     1    11     1     2     3     4     5     6     7     8     9    10\n", refused 7 2)
    ∷ ("     9     1\n     1     3     0     0\n", refused 1 2)
    ∷ ("     9     1\n     1     2     0     0     0\n", refused 1 2)
    -- 8: zero, the base, the gate itself, a number above all gates; not an earlier gate
    ∷ ("     9     1\n     1     2     1     0\n", refused 8 2)
    ∷ ("     9     1\n     1     2     1 10000\n", refused 8 2)
    ∷ ("     9     1\n     1     2     1-10001\n", refused 8 2)
    ∷ ("     9     1\n     1     2     1-10255\n", refused 8 2)
    ∷ ("     9     1\n     1     2     1 10256\n", refused 8 2)
    ∷ ("     9     2\n     1     2     1     2\n     1     2-10001 10002\n", refused 8 3)
    -- fanins from left to right
    ∷ ("     9     1\n     1     3     1    -1     0\n", refused 10 2)
    ∷ ("     9     1\n     1     3     1     0    -1\n", refused 8 2)
    -- 9, 10, 11
    ∷ ("     9     2\n     1     2     1     2\n     1     2 10001-10001\n", refused 9 3)
    ∷ ("     9     2\n     1     2     1     2\n     1     2 10001    -2\n", refused 10 3)
    ∷ ("    -9     1\n     1     2     1    -9\n", refused 11 2)
    -- 1 for bytes after the last line, before 13
    ∷ ("     9     1\n     1     2     1     2\n\n", refused 1 3)
    ∷ ("     9     2\n     1     2     1     2\n     1     2     3     4\n ", refused 1 4)
    -- 13: the lowest gate
    ∷ ("     9     2\n     1     2     1     2\n     1     2     3     4\n", refused 13 2)
    ∷ ("     9     4\n     1     2     1     2\n     1     2     3     4\n     1     2     5     6\n     1     2 10001     7\n", refused 13 3)
    -- what was a code before request 102 is a net: 1001 to 9999, and so the first sheet in the old codes never reads its first gate
    ∷ ("     9     1\n     1     2 -1001  9999\n", passed (record { out = 9; inverted = false; gates = record { kind = and; fanins = down (net 1001) ∷ up (net 9999) ∷ [] } ∷ [] }))
    ∷ ("    20     3\n     2     2     1     2\n     2     2     3     4\n     1     2  1001  1002\n", refused 13 2)
    ∷ []

pub cases_right : map (λ (c : Case). read_sheet (bytes c.0)) cases ≡ map (λ (c : Case). c.1) cases
unfolding ◌>>=◌ require given
cases_right = refl

-- ---- 12: gates of ten leaves each, nets 100, 101 and so on; the 257th is the seventh of the 26th gate, at line 27

abbrev three : ℕ → List ℕ
three n = 32 ∷ 32 ∷ 32 ∷ (48 + n / 100) ∷ (48 + n / 10 % 10) ∷ (48 + n % 10) ∷ []

abbrev tens : ℕ → List ℕ
tens g = bytes "     1    10" ++ gather (λ i. three (100 + 10 * g + i)) (upto 10) ++ (10 ∷ [])

pub leaf_257 : read_sheet (bytes "  9999    27\n" ++ gather tens (upto 26)) ≡ refused 12 27
unfolding ◌>>=◌ require given
leaf_257 = refl

-- with one leaf fewer line 28 is missed; and the net of a second leaf (10) or the output net (11) comes before the 257th leaf
abbrev seven : ℕ → List ℕ
seven n = bytes "     1     7" ++ gather (λ i. three (350 + i)) (upto 6) ++ three n ++ (10 ∷ [])

pub leaf_256 : read_sheet (bytes "  9999    27\n" ++ gather tens (upto 25) ++ bytes "     1     6" ++ gather (λ i. three (350 + i)) (upto 6) ++ (10 ∷ [])) ≡ refused 1 28
unfolding ◌>>=◌ require given
leaf_256 = refl

pub leaf_257_again : read_sheet (bytes "  9999    27\n" ++ gather tens (upto 25) ++ seven 100) ≡ refused 10 27
unfolding ◌>>=◌ require given
leaf_257_again = refl

pub leaf_257_out : read_sheet (bytes "   999    27\n" ++ gather tens (upto 25) ++ seven 999) ≡ refused 11 27
unfolding ◌>>=◌ require given
leaf_257_out = refl

-- ---- the largest: a chain of 255 gates of two fanins, with 256 leaves

-- the line of gate g + 1, which reads net g + 101 and gate g
abbrev link : ℕ → List ℕ
link g = bytes "     1     2" ++ three (101 + g) ++ bytes " 10" ++ drop 3 (three g) ++ (10 ∷ [])

-- the numbers of gates and of leaves
abbrev sizes : Checked DrawnSheet → ℕ × ℕ
sizes (passed s) = (length s.gates, length (leaves (tree_of s)))
sizes (refused number place) = (0, 0)

pub chain_read : sizes (read_sheet (bytes "  9999   255\n     1     2   100   101\n" ++ gather link (drop 1 (upto 255)))) ≡ (255, 256)
unfolding ◌>>=◌ require given
chain_read = refl
