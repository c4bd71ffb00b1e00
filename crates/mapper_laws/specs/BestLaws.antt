-- The code's mapping of a sheet by plans with the best keys: it has the tables of a least cover.
use Rattle.std.specs.Prelude.{ℕ, ◌+◌, ◌-◌, ◌<◌, ◌≤◌, ◌≡◌, List, [], ◌∷◌, ◌++◌, length, get_or, set, take}
use Rattle.std.proofs.Common.{arith, subst}
use Rattle.std.proofs.lemmas.List.{length-map}
use Rattle.lists.specs.Trusted.Lists.{Every}
use Rattle.lists.specs.Sequences.{Paired, no_pair, pair, upto}
use Rattle.lists.specs.ListLaws.{every_head, every_left, every_right}
use Rattle.lists.specs.MixLaws.{paired_append}
use Rattle.tree.specs.Trusted.Tree.{Node, leaf}
use Rattle.plan.specs.Least.{body_least}
use Rattle.plan.specs.Plans.{Planned}
use Rattle.plan.specs.Reach.{LeastReach, Best, at_leaf, Bests, at_end, at_edge}
use Rattle.plan.specs.ReachLaws.{best_gate}
use Rattle.plan.specs.Steps.{tokens}
use Rattle.cover.specs.Trusted.CoverTables.{LeastCoverTables}
use Rattle.cover.specs.Trusted.Tables.{LookupTable}
use Rattle.sheet.specs.declared.Source.{Source}
use Rattle.sheet.specs.declared.Source.TheVariants.{Net, Gate}
use Rattle.sheet.specs.declared.Edge.{Edge}
use Rattle.sheet.specs.declared.Sheet.{Sheet}
use Rattle.sheet.specs.Trusted.Limits.{most_gates}
use Rattle.sheet.specs.Trusted.Sheet.{DrawnGate, DrawnSheet, gate_of, fanin_gates}
use Rattle.sheet.specs.Trusted.Trees.{node_of, edges_of}
use Rattle.sheet.specs.Trusted.Answers.{drawn_gate, drawn_sheet}
use Rattle.sheet.specs.Trusted.Formed.{WellFormed}
use Rattle.sheet.specs.Drawn.{drawn}
use Rattle.sheet.specs.PlaceLaws.{no_sheet_gate}
use Rattle.mapper_laws.specs.declared.Held.{Held}
use Rattle.mapper_laws.specs.declared.Mapping.{Mapping}
use Rattle.mapper_laws.specs.declared.MappedGate.{MappedGate}
use Rattle.mapper_laws.specs.declared.Operands.{Operands}
use Rattle.mapper_laws.specs.Mapping.{GatesMapped, unmapped, mapped_at, key_of, keys_of, Progress, CoveredBy}
use Rattle.mapper_laws.specs.MappingLaws.{paired_at, trees_end, done_count, root_stood}
use Rattle.mapper_laws.specs.CodeMap.{Mappable, GateMapped, BelowIs, no_held, Gathers, most_tables, Staged, Sheetable, SheetMapped, BestKeys, BestGoing, rooted}
use Rattle.mapper_laws.specs.SheetLaws.{held_more, going_start, gates_taken, ended, here_facts, step_before, step_gates, step_mapped, step_keys, step_mappable, step_room, step_next, step_ended, end_covered}

-- ---- on lists

module _ (K : ℕ) {ts : List Node} {done : List GatesMapped} (bests : Paired (λ t d. Best K t d.key) ts done) where
  source_best : (s : Source) → Every (λ j. (1 ≤ j) × (j ≤ length done)) (gate_of s) → Best K (node_of ts s) (key_of done s)
  source_best (Net n) h = at_leaf
  source_best (Gate g) h = let b = every_head h in paired_at (leaf 0) unmapped bests (g - 1) (omega arith)

  fanins_best : (fs : List Edge) → Every (λ j. (1 ≤ j) × (j ≤ length done)) (fanin_gates fs) → Bests K (edges_of ts fs) (keys_of done fs)
  fanins_best [] h = at_end
  fanins_best (f ∷ fs) h =
      at_edge (source_best f.source (every_left (gate_of f.source) (fanin_gates fs) h)) (fanins_best fs (every_right (gate_of f.source) (fanin_gates fs) h))

-- one gate more
bests_next : {K : ℕ} (gs : List DrawnGate) {done : List GatesMapped} (g : DrawnGate) (d : GatesMapped) → BestKeys K gs done → 2 ≤ length g.fanins →
    Every (λ j. (1 ≤ j) × (j ≤ length done)) (fanin_gates g.fanins) → LeastReach K (keys_of done g.fanins) d.key → BestKeys K (gs ++ (g ∷ [])) (done ++ (d ∷ []))
bests_next {K} gs {done} g d bests two gates least =
    rw (trees_end [] gs g)
    (paired_append bests (pair (best_gate (fanins_best K bests g.fanins gates) (omega (arith, length-map g.fanins (λ f. key_of done f.source))) least) no_pair))

-- the root
covered_least : {base n K : ℕ} (two : 2 ≤ K) (s : DrawnSheet) (w : WellFormed s) {done : List GatesMapped} {staged : List LookupTable} → Progress base n K s.gates done staged →
    BestKeys K s.gates done → {old new : List LookupTable} → CoveredBy base K old new (drawn s) (mapped_at done (length s.gates)) →
    LeastCoverTables base K old new (drawn s)
covered_least {base} {n} {K} two s w {done} p bests c =
    let r = root_stood base n K two s w p in
    let b = paired_at (leaf 0) unmapped bests (length s.gates - 1) (omega (arith, done_count base p, w.gate_count.0)) in
    record { added = c.added; fewest = rw (r.tree, ← c.count, c.cover) (body_least K two (rw r.tree at b) r.is c.number) }

-- ---- for the code's sheet

pub best_start : {K used : ℕ} {gs : List DrawnGate} {held : List Held} {m : Mapping} → m.count ≡ 0 → length m.tables ≡ most_tables → length held ≡ most_gates → BestGoing K used gs 0 held m
best_start e l h = record { done = []; going = going_start e l h; bests = no_pair; below = λ j i. absurd (omega arith) }

module _ {K used : ℕ} (c : Sheet) (p : Sheetable K used c) (room : length c.gates ≡ most_gates) (most : c.count ≤ most_gates)
    {g : ℕ} {held : List Held} {m : Mapping} (y : BestGoing K used (drawn_sheet c).gates g held m) where
  module _ (l : g < c.count) {o : Operands} (q : Gathers c.fanins (get_or c.gates g no_sheet_gate) held o) where
    pub best_mappable : Mappable K (used + m.count) o
    best_mappable = step_mappable c p room most y.going l q y.below

    module _ {r : MappedGate} (e : GateMapped K (used + m.count) (get_or c.gates g no_sheet_gate).kind o r) where
      abbrev gate : DrawnGate
      gate = drawn_gate c.fanins (get_or c.gates g no_sheet_gate)

      least : LeastReach K (keys_of y.done gate.fanins) e.plan.key
      least = subst (λ ks. LeastReach K ks e.plan.key) (step_keys c p room most y.going l q y.below) e.answer.least

      planned : Planned K (keys_of y.done gate.fanins) (upto (length (keys_of y.done gate.fanins))) (tokens e.plan) e.plan.key
      planned = subst (λ ks. Planned K ks (upto (length ks)) (tokens e.plan) e.plan.key) (step_keys c p room most y.going l q y.below) e.answer.planned

      pub best_room : (m.count + r.run.placed ≤ most_tables) × (r.run.placed ≤ 18)
      best_room = step_room c p room most y.going l q planned e.run

      -- ONE GATE MORE
      pub best_next : {n : Mapping} → Staged m r.run n → BestGoing K used (drawn_sheet c).gates (g + 1) (set held g r.held) n
      best_next z =
          let a = step_next c p room most y.going l q planned e.run z in
          let d : GatesMapped = record { kind = gate.kind; body = a.body; key = e.plan.key } in
          let f = here_facts c p room most y.going l in
          let (b, h) = step_before c p room most y.going l in
          record {
            done = y.done ++ (d ∷ []);
            going = a.going;
            bests = rw (step_gates c p room most y.going l) (bests_next (take g (drawn_sheet c).gates) gate d y.bests f.many.0 (step_mapped c p room most y.going l q) least);
            below = held_more BelowIs y.done held r.held d b h y.below e.run.below;
          }

  -- THE MAPPING OF THE SHEET
  module _ (l : c.count ≤ g) where
    pub best_end : {n : Mapping} → n ≡ rooted m c.out c.inverted (get_or held (c.count - 1) no_held).table → SheetMapped K used c n
    best_end e =
        let x = end_covered c p room most y.going l e in
        let i = step_ended c p room most y.going l in
        let b = subst (λ gs. BestKeys K gs y.done) (gates_taken p.table.0 p.formed y.going i) y.bests in
        record {
          room = x.room;
          few = x.few;
          kept = x.kept;
          least = λ old f. covered_least p.table.0 (drawn_sheet c) p.formed (ended p.table.0 p.formed y.going i) b (x.covered old f);
        }
