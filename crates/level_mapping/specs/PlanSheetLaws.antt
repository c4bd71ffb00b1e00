-- The code's mapping of a sheet by plans that meet demands.
use Rattle.std.specs.Prelude.{ℕ, ◌+◌, ◌-◌, ◌≤◌, ◌<◌, ◌≡◌, List, [], ◌∷◌, ◌++◌, length, get_or, set, take}
use Rattle.std.proofs.Common.{arith, ap, ◌∙◌, subst, length-take-le}
use Rattle.std.proofs.lemmas.List.{length-map}
use Rattle.lists.specs.Sequences.{upto}
use Rattle.cover.specs.Trusted.Cover.{Fanins, tables}
use Rattle.plan.specs.declared.Key.{Key}
use Rattle.plan.specs.declared.Plan.{Plan}
use Rattle.plan.specs.Plans.{Planned, made, Runs}
use Rattle.plan.specs.Steps.{tokens}
use Rattle.levels.specs.Demands.{Demand}
use Rattle.levels.specs.Trusted.Levels.{level}
use Rattle.sheet.specs.declared.Gate.{Gate}
use Rattle.sheet.specs.declared.Sheet.{Sheet}
use Rattle.sheet.specs.Trusted.Limits.{most_gates}
use Rattle.sheet.specs.Trusted.Sheet.{DrawnGate}
use Rattle.sheet.specs.Trusted.Trees.{trees_of}
use Rattle.sheet.specs.Trusted.Answers.{drawn_gate, drawn_sheet}
use Rattle.sheet.specs.PlaceLaws.{no_sheet_gate}
use Rattle.pending.specs.Luts.{lut_table}
use Rattle.mapper_laws.specs.declared.Held.{Held}
use Rattle.mapper_laws.specs.declared.Mapping.{Mapping}
use Rattle.mapper_laws.specs.declared.MappedGate.{MappedGate}
use Rattle.mapper_laws.specs.declared.Operands.{Operands}
use Rattle.mapper_laws.specs.Mapping.{keys_of, covers_of}
use Rattle.mapper_laws.specs.MappingLaws.{trees_end}
use Rattle.mapper_laws.specs.CodeRun.{Runnable}
use Rattle.mapper_laws.specs.CodeMap.{GateRun, no_held, Gathers, most_tables, Staged, Sheetable, rooted}
use Rattle.mapper_laws.specs.SheetLaws.{going_start, going_count, step_inside, here_drawn, here_facts, step_gates, step_mapped, step_runs, step_room, step_next, step_ended, end_covered}
use Rattle.level_sheets.specs.PlansMeet.{no_plan, no_demand, PlanFor, PlansMeet, last_demand}
use Rattle.level_mapping.specs.PlanMapped.{MappedWithin, GatesMeet, PlanGoing}
use Rattle.level_mapping.specs.MeetLaws.{meets_planned, run_meets, meet_next}

pub plan_start : {K used : ℕ} {gs : List DrawnGate} {plans : List Plan} {held : List Held} {m : Mapping} → m.count ≡ 0 → length m.tables ≡ most_tables → length held ≡ most_gates →
    PlanGoing K used gs plans 0 held m
plan_start e l h = record { done = []; going = going_start e l h; meet = λ lev ds w j i. absurd (omega arith) }

module _ {K used : ℕ} (c : Sheet) (p : Sheetable K used c) (room : length c.gates ≡ most_gates) (most : c.count ≤ most_gates) {plans : List Plan}
    {g : ℕ} {held : List Held} {m : Mapping} (y : PlanGoing K used (drawn_sheet c).gates plans g held m) where
  module _ (l : g < c.count) {o : Operands} (q : Gathers c.fanins (get_or c.gates g no_sheet_gate) held o) where
    abbrev here : Gate
    here = get_or c.gates g no_sheet_gate

    abbrev gate : DrawnGate
    gate = drawn_gate c.fanins here

    abbrev plan : Plan
    plan = get_or plans g no_plan

    module _ (lev : ℕ → ℕ) (ds : List Demand) (w : PlansMeet K lev ds (drawn_sheet c).gates plans) where
      plan_for : PlanFor K lev ds gate (get_or ds g no_demand) plan
      plan_for = subst (λ x. PlanFor K lev ds x (get_or ds g no_demand) plan) (here_drawn c p room most y.going l) (w.each g (step_inside c p room most y.going l))

      planned : (a : Key) × Planned K (keys_of y.done gate.fanins) (upto (length (keys_of y.done gate.fanins))) (tokens plan) a
      planned = meets_planned K p.table.0 lev ds y.going.progress.stood (y.meet lev ds w) plan_for (step_mapped c p room most y.going l q)

      pub plan_runnable : Runnable (used + m.count) here.kind o plan
      plan_runnable = step_runs c p room most y.going l q planned.1 plan_for.len

      made_meets : (a : Key) {body : Fanins} → Runs (covers_of y.done gate.fanins) (tokens plan) [] (made body ∷ []) →
          GatesMeet K lev ds (trees_of [] (take (g + 1) (drawn_sheet c).gates)) (y.done ++ (record { kind = gate.kind; body = body; key = a } ∷ []))
      made_meets a x =
          let s = y.going.progress.stood in
          let v = y.meet lev ds w in
          rw (step_gates c p room most y.going l, trees_end [] (take g (drawn_sheet c).gates) gate)
          (meet_next ds _ _ s v
          (rw (going_count y.going) (run_meets K p.table.0 lev ds s v plan_for (step_mapped c p room most y.going l q) x (here_facts c p room most y.going l).many.0)))

    module _ (lev : ℕ → ℕ) (ds : List Demand) (w : PlansMeet K lev ds (drawn_sheet c).gates plans) {r : MappedGate} (e : GateRun (used + m.count) here.kind o plan r) where
      pub plan_room : (m.count + r.run.placed ≤ most_tables) × (r.run.placed ≤ 18)
      plan_room = step_room c p room most y.going l q (planned lev ds w).1 e

      -- ONE GATE MORE
      pub plan_next : {n : Mapping} → Staged m r.run n → PlanGoing K used (drawn_sheet c).gates plans (g + 1) (set held g r.held) n
      plan_next z =
          let a = step_next c p room most y.going l q (planned lev ds w).1 e z in
          record { done = _; going = a.going; meet = λ lev' ds' w'. made_meets lev' ds' w' (planned lev ds w).0 a.runs }

  -- THE MAPPING OF THE SHEET
  module _ (l : c.count ≤ g) where
    pub plan_end : {n : Mapping} → n ≡ rooted m c.out c.inverted (get_or held (c.count - 1) no_held).table → (lev : ℕ → ℕ) (ds : List Demand) →
        PlansMeet K lev ds (drawn_sheet c).gates plans → MappedWithin K used lev (last_demand ds).bound (last_demand ds).below c n
    plan_end {n} e lev ds w =
        let x = end_covered c p room most y.going l e in
        let s = y.meet lev ds w (length (drawn_sheet c).gates - 1) (omega (arith, going_count y.going, step_ended c p room most y.going l, p.formed.gate_count.0)) in
        record {
          room = x.room;
          few = x.few;
          kept = x.kept;
          covered = λ old f.
              let v = x.covered old f in
              rw w.count (
                v.added,
                omega (arith, ap (level lev) v.cover, s.high),
                omega (arith, ap tables v.cover, s.count),
                v.count ∙ length-map (take n.count n.tables) lut_table ∙ length-take-le n.count n.tables (omega (arith, x.room, x.few)),
              );
        }
