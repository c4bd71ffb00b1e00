-- What is kept of the gates of a sheet in the search for the fewest levels: the lines of those passed, and the fanins of one. Internal definitions: the
-- laws are in LinedLaws.
use Rattle.std.specs.Prelude.{ℕ, ◌-◌, ◌≤◌, ◌<◌, ◌≡◌, Bool, List, [], ◌∷◌, length, get_or}
use Rattle.tree.specs.Trusted.Limits.{most_fanins}
use Rattle.tree.specs.Trusted.Tree.{leaf}
use Rattle.sheet.specs.declared.Source.{Source}
use Rattle.sheet.specs.declared.Source.TheVariants.{Net, Gate}
use Rattle.sheet.specs.declared.Edge.{Edge}
use Rattle.sheet.specs.declared.Gate.{Gate as SheetGate}
use Rattle.sheet.specs.Trusted.Limits.{most_gates}
use Rattle.sheet.specs.Trusted.Sheet.{DrawnGate, fanin_nets, fanin_gates, leaf_nets}
use Rattle.sheet.specs.Trusted.Answers.{drawn_gate}
use Rattle.lists.specs.Trusted.Lists.{Every}
use Rattle.sheet.specs.Trusted.Trees.{trees_of}
use Rattle.sheet.specs.PlaceLaws.{no_edge}
use Rattle.levels.specs.Lines.{LevelLines}
use Rattle.level_arrays.specs.Arrays.{big, line_at}
use Rattle.level_arrays.specs.declared.Fans.{Fans}

-- of what a fanin reads: the greatest level of the nets under it, how many lines it has, and which gate it is. `starts` and `counts` have the gates'
abbrev pub FanOf : (ℕ → ℕ) → (starts counts : List ℕ) → Source → (level lines gate : ℕ) → Type 0
FanOf lev starts counts (Net n) l c g = (l ≡ lev n) × (c ≡ 0)
FanOf lev starts counts (Gate j) l c g = (l ≡ get_or starts (j - 1) 0) × (c ≡ get_or counts (j - 1) 0) × (g ≡ j - 1)

-- of all fanins of a gate
pub record FansOf (lev : ℕ → ℕ) (starts counts : List ℕ) (fs : List Edge) (f : Fans) : Type 0 where
  pub count : f.count ≡ length fs
  pub rooms : (length f.levels ≡ 10) × (length f.lines ≡ 10) × (length f.gates ≡ 10)
  pub each : (h : ℕ) → h < length fs → FanOf lev starts counts (get_or fs h no_edge).source (get_or f.levels h 0) (get_or f.lines h 0) (get_or f.gates h 0)

-- no net that a sheet reads has a high level: a part has at most 800 tables
abbrev pub LowNets : (ℕ → ℕ) → List DrawnGate → Type 0
LowNets lev gs = Every (λ n. lev n ≤ 1000) (leaf_nets gs)

-- THE LINES of the first g gates of a sheet
pub record Lined (K : ℕ) (lev : ℕ → ℕ) (gs : List DrawnGate) (g : ℕ) (starts counts store : List ℕ) : Type 0 where
  pub at : g ≤ length gs
  pub lines : (j : ℕ) → j < g → (i : Bool) →
      LevelLines K lev big ((i, get_or (trees_of [] gs) j (leaf 0)) ∷ []) (get_or starts j 0) (get_or counts j 0 - 1) (line_at store j)
  pub some : (j : ℕ) → j < g → (1 ≤ get_or counts j 0) × (get_or counts j 0 ≤ 256)
  pub low : (j : ℕ) → j < g → get_or starts j 0 ≤ 1000

-- ---- for the code's gate

-- its fanins are few, and read gates that there is room for and nets that have a level
pub record FansReach (fs : List Edge) (x : SheetGate) (levels : List ℕ) : Type 0 where
  pub few : length (drawn_gate fs x).fanins ≤ most_fanins
  pub gates : Every (λ j. (1 ≤ j) × (j ≤ most_gates)) (fanin_gates (drawn_gate fs x).fanins)
  pub nets : Every (λ n. n < length levels) (fanin_nets (drawn_gate fs x).fanins)

-- the level of each net
abbrev pub net_level : List ℕ → ℕ → ℕ
net_level levels n = get_or levels n 0
