-- The root of a sheet: its first line with an entry for K inputs tells the least root level and the fewest tables, and this is asked of it; and once every
-- gate has its plan, the plans meet what is asked.
use Rattle.std.specs.Prelude.{ℕ, suc, ◌+◌, ◌-◌, ◌≤◌, ◌<◌, ◌≡◌, Bool, false, List, [], ◌∷◌, length, get_or}
use Rattle.std.proofs.Common.{arith, ap, subst, ◌∙◌, inl, inr}
use Rattle.std.proofs.lemmas.List.{length-map}
use Rattle.lists.specs.NumberLaws.{upto_length}
use Rattle.lists.specs.Sequences.{upto}
use Rattle.lists.specs.ListLaws.{every_none, every_cons, every_head}
use Rattle.tree.specs.declared.Kind.{Kind}
use Rattle.tree.specs.Trusted.Tree.{gate, Edges}
use Rattle.plan.specs.declared.Plan.{Plan}
use Rattle.sheet.specs.Trusted.Sheet.{DrawnSheet}
use Rattle.sheet.specs.Trusted.Trees.{edges_of, trees_of, tree_of}
use Rattle.sheet.specs.Trusted.Formed.{WellFormed}
use Rattle.sheet.specs.PlaceLaws.{no_gate}
use Rattle.levels.specs.Trusted.Levels.{Fastest}
use Rattle.levels.specs.Gives.{fanins, drawn}
use Rattle.levels.specs.GivesLaws.{gives_higher, gives_narrow, gate_out, nets_in, nets_out}
use Rattle.levels.specs.EntryLaws.{entry_one, entry_fanins}
use Rattle.levels.specs.Lines.{LevelLines}
use Rattle.levels.proofs.LineLaws.{look_entry}
use Rattle.levels.specs.Demands.{demand}
use Rattle.level_arrays.specs.Arrays.{big, line_at}
use Rattle.level_arrays.specs.Askable.{Askable}
use Rattle.level_arrays.specs.GateLaws.{lines_fastest, last_some}
use Rattle.level_sheets.specs.SheetTrees.{fanins_at, gate_tree}
use Rattle.level_sheets.specs.Lined.{Lined}
use Rattle.level_sheets.specs.LinedLaws.{proper_gate, few_under}
use Rattle.level_sheets.specs.PlansMeet.{PlansMeet}
use Rattle.level_sheets.specs.Asking.{gate_entry, demand_at, demands_of, ReadFrom, Asking}
use Rattle.level_sheets.specs.AskingLaws.{demands_at}

-- the lines of a gate are those of its fanins
lines_fanins : {K : ℕ} {lev : ℕ → ℕ} {i : Bool} {k : Kind} (es : Edges) {a top : ℕ} {f : ℕ → ℕ → ℕ} → LevelLines K lev big ((i, gate k es) ∷ []) a top f →
    LevelLines K lev big (fanins es) a top f
lines_fanins {i = i} {k = k} es x = record {
  greatest = record {
    nets = nets_in es (every_head x.greatest.nets);
    least = λ ℓ s. x.greatest.least ℓ (every_cons (nets_out es s) (every_none _));
  };
  exact = λ j w l b. entry_fanins {i = i} {k = k} (x.exact j w l b);
  final = λ ℓ w c g. let (v, e, l, b, h) = x.final ℓ w c (drawn g) in (v, e, l, b, gate_out h);
}

module _ (K : ℕ) (lev : ℕ → ℕ) (table : (2 ≤ K) × (K ≤ 6)) (s : DrawnSheet) (w : WellFormed s) {starts counts store : List ℕ}
    (x : Lined K lev s.gates (length s.gates) starts counts store) where
  abbrev last : ℕ
  last = length s.gates - 1

  abbrev below : Edges
  below = edges_of (trees_of [] s.gates) (fanins_at s.gates last)

  last_gate : last < length s.gates
  last_gate = omega (arith, w.gate_count.0)

  root_lines : LevelLines K lev big (fanins below) (get_or starts last 0) (get_or counts last 0 - 1) (line_at store last)
  root_lines =
      lines_fanins {i = false} {k = (get_or s.gates last no_gate).kind} below
      (subst (λ t. LevelLines K lev big ((false, t) ∷ []) (get_or starts last 0) (get_or counts last 0 - 1) (line_at store last)) (gate_tree s w last last_gate) (x.lines last last_gate false))

  -- one of its lines has an entry for K inputs
  pub root_some : line_at store last (get_or counts last 0 - 1) K < big
  root_some = last_some K lev table.0 (get_or s.gates last no_gate).kind below (proper_gate s w last last_gate) (few_under s w last last_gate) root_lines

  -- the first that has
  module _ (j : ℕ) (l : j < get_or counts last 0) (some : line_at store last j K < big) (none : (i : ℕ) → i < j → big ≤ line_at store last i K) where
    pub root_fastest : Fastest lev K (tree_of s) (suc (line_at store last j K)) (suc (get_or starts last 0 + j))
    root_fastest =
        rw (gate_tree s w last last_gate)
        (lines_fastest K lev table.0 (get_or s.gates last no_gate).kind below (proper_gate s w last last_gate) (few_under s w last last_gate) root_lines j (omega arith) some none)

    -- at its bound the entry is the line's
    line_entry : gate_entry starts counts store last (get_or starts last 0 + j) K ≡ line_at store last j K
    line_entry =
        entry_one (look_entry root_lines (get_or starts last 0 + j) K (omega arith)) (root_lines.exact j K (omega arith) (omega arith))

    module _ (bounds inputs : List ℕ) (b : get_or bounds last 0 ≡ get_or starts last 0 + j) (i : get_or inputs last 0 ≡ K) (plans : List Plan) where
      pub root_demand : demand_at starts counts store bounds inputs last ≡ demand (get_or starts last 0 + j) K (line_at store last j K)
      root_demand = rw (b, i) (ap (demand (get_or starts last 0 + j) K) line_entry)

      root_asked : Askable K lev (fanins below) (demand_at starts counts store bounds inputs last)
      root_asked = rw root_demand (record {
        entry = root_lines.exact j K (omega arith) (omega arith);
        some = some;
        inputs = (omega arith, omega arith);
        held = λ p v c e g.
            (root_lines.exact j K (omega arith) (omega arith)).low c (v, gives_narrow (omega arith) g, gives_higher (get_or starts last 0 + j) g (omega arith));
      })

      -- THE BEGINNING: nothing but the root is asked
      pub asking_start : Asking K lev s.gates starts counts store (length s.gates) bounds inputs plans
      asking_start = record {
        asked = λ k m r. only k m r (λ e. rw e root_asked);
        low = λ k m r. only k m r (λ e. rw (e, b) (omega (arith, x.low last last_gate, x.some last last_gate)));
        planned = λ k m n. absurd (omega arith);
      }
        where
          only : {P : Type 0} (k : ℕ) → k < length s.gates → ReadFrom s.gates (length s.gates) k → (k ≡ last → P) → P
          only k m (inl e) f = f (omega arith)
          only k m (inr (n, h, o, r)) f = absurd (omega (arith, r.gate))

  -- THE END: every gate has its plan
  pub asking_end : {bounds inputs : List ℕ} {plans : List Plan} → Asking K lev s.gates starts counts store 0 bounds inputs plans →
      PlansMeet K lev (demands_of starts counts store bounds inputs (length s.gates)) s.gates plans
  asking_end {bounds} {inputs} y = record {
    count = length-map (upto (length s.gates)) (demand_at starts counts store bounds inputs) ∙ upto_length (length s.gates);
    each = λ j m. rw (demands_at starts counts store bounds inputs (length s.gates) j m) (y.planned j (omega arith) m);
  }
