use Prim.Native.Nat.{ℕ, ◌+◌, ◌≤◌, ◌<◌}
use native.Mathlib.Omega.{arith}
use mathlib.Core.Path.{◌≡◌, refl, sym, ap, ◌∙◌, subst, subst₂}
use mathlib.Core.Bool.{Bool}
use mathlib.Core.List.{List}
use lib.ListN.{length, get_or, set, take, length-take}
use borrow.Author.Rules.{rules}
use Rattle.lists.specs.Trusted.Lists.{Every}
use Rattle.sheet.specs.declared.Edge.{Edge}
use Rattle.sheet.specs.declared.Gate.{Gate}
use Rattle.sheet.specs.declared.Sheet.{Sheet}
use Rattle.sheet.specs.Trusted.Limits.{most_gates}
use Rattle.sheet.specs.Trusted.Sheet.{gate_of}
use Rattle.sheet.specs.Trusted.Answers.{drawn_gate, drawn_sheet}
use Rattle.sheet.specs.PlaceLaws.{no_sheet_gate}
use Rattle.gate_fanins.specs.Fanins.{place_in}
use Rattle.gate_fanins.specs.FaninLaws.{every_fanin}
use Rattle.mapper_laws.specs.CodeMap.{no_held, Gathering, Gathers, Mappable, GateMapped, most_tables, run_of, Staged, Sheetable, BestGoing}
use Rattle.mapper_laws.specs.declared.Held.{Held}
use Rattle.mapper_laws.specs.declared.MappedPair.{MappedPair}
use Rattle.mapper_laws.specs.declared.Mapping.{Mapping}
use Rattle.mapper_laws.specs.CodePair.{read_as, pair_of, pair_mapped, staged_of}
use Rattle.mapper_laws.specs.CodeMapLaws.{staged_run}
use Rattle.mapper_laws.specs.PairLaws.{edge_at, read_at, pair_gate, pair_mapped_lem, pair_staged, pair_placed, pair_few, pair_room, pair_gathers}
use Rattle.mapper_laws.specs.SheetLaws.{step_reaches, end_room}
use Rattle.mapper_laws.specs.BestLaws.{best_start, best_mappable, best_room, best_next, best_end}
use Rattle.mapper.proofs.map.Goals as goal
use Rattle.mapper.proofs.map.Goals.{in-len2, in_default}

-- a gate's turn; it has these fanins
module _ (s : Sheet) {K used : ℕ} (p : Sheetable K used s) (room : length s.gates ≡ most_gates) (most : s.count ≤ most_gates) {g : ℕ} {held : List Held} {m : Mapping}
    (b : BestGoing K used (drawn_sheet s).gates g held m) (l : g < s.count) {fs : List Edge} (e : fs ≡ (drawn_gate s.fanins (get_or s.gates g no_sheet_gate)).fanins) where
  abbrev gate : Gate
  gate = get_or s.gates g no_sheet_gate

  reads : (i : ℕ) → i < length fs → Every (λ j. (1 ≤ j) × (j ≤ most_gates)) (gate_of (edge_at fs i).source)
  reads i k = every_fanin {P = λ j. (1 ≤ j) × (j ≤ most_gates)} fs i k (rw e (step_reaches s p room most b.going l).gates)

  -- two of them
  module _ (two : length fs ≡ 2) {x y : Held} {i j : ℕ} (ei : i ≡ place_in (edge_at fs 0).source) (ej : j ≡ place_in (edge_at fs 1).source)
      (ex : x ≡ read_as (edge_at fs 0).source (get_or held i no_held)) (ey : y ≡ read_as (edge_at fs 1).source (get_or held j no_held)) where
    read_is : (n : ℕ) {i : ℕ} {x : Held} → i ≡ place_in (edge_at fs n).source → x ≡ read_as (edge_at fs n).source (get_or held i no_held) → read_at fs held n ≡ x
    read_is n e f = sym (f ∙ ap (λ i. read_as (edge_at fs n).source (get_or held i no_held)) e)

    abbrev low : Bool
    low = (edge_at fs 0).inverted

    abbrev high : Bool
    high = (edge_at fs 1).inverted

    found : Gathers s.fanins gate held (pair_of low x high y)
    found =
        subst (λ gs. Gathering gs held (length gs) (pair_of low x high y)) e
        (subst₂ (λ x y. Gathering fs held (length fs) (pair_of low x high y)) (read_is 0 ei ex) (read_is 1 ej ey) (pair_gathers fs held two))

    able : Mappable K (used + m.count) (pair_of low x high y)
    able = best_mappable s p room most b l found

    abbrev pair : MappedPair
    pair = pair_mapped K (used + m.count) gate.kind low x high y

    made : GateMapped K (used + m.count) gate.kind (pair_of low x high y) (pair_gate low x high y able gate.kind)
    made = pair_mapped_lem low x high y able gate.kind

    pair_space : m.count + length (take pair.placed pair.tables) ≤ most_tables
    pair_space = omega (arith, best_room s p room most b l found made, pair_placed low x high y able gate.kind, length-take pair.placed pair.tables)

    pair_next : {q : MappedPair} → q ≡ pair → {n : Mapping} → Staged m (run_of (take q.placed q.tables)) n → BestGoing K used (drawn_sheet s).gates (g + 1) (set held g q.held) n
    pair_next is {n} z =
        subst (λ q. BestGoing K used (drawn_sheet s).gates (g + 1) (set held g q.held) n) (sym is)
        (best_next s p room most b l found made
        (pair_staged low x high y able gate.kind
        (staged_run (staged_of pair) (omega (arith, pair_few low x high y able gate.kind, pair_room low x high y able gate.kind))
        (subst (λ q. Staged m (run_of (take q.placed q.tables)) n) is z))))

pub loop-g-init : goal.loop-g-init
loop-g-init c = best_start c.no_tables-mapping.ensures.0 c.no_tables-mapping.ensures.1 refl

pub place_of-low_at-requires : goal.place_of-low_at-requires
place_of-low_at-requires c = reads c.args.sheet c.requires (search rules) (search rules) c.loop-g.invariant c.loop-g-test.true c.fanins_of.ensures _ (omega (arith, c.in-len2))

pub place_of-high_at-requires : goal.place_of-high_at-requires
place_of-high_at-requires c = reads c.args.sheet c.requires (search rules) (search rules) c.loop-g.invariant c.loop-g-test.true c.fanins_of.ensures _ (omega (arith, c.in-len2))

pub map_pair-pair-requires : goal.map_pair-pair-requires
map_pair-pair-requires c =
    able c.args.sheet c.requires (search rules) (search rules) c.loop-g.invariant c.loop-g-test.true c.fanins_of.ensures (omega (arith, c.in-len2)) c.place_of-low_at.ensures.0 c.place_of-high_at.ensures.0 c.read_from-x.ensures c.read_from-y.ensures

pub stage-requires : goal.stage-requires
stage-requires c =
    rw c.map_pair-pair.ensures
    (pair_space c.args.sheet c.requires (search rules) (search rules) c.loop-g.invariant c.loop-g-test.true c.fanins_of.ensures (omega (arith, c.in-len2)) c.place_of-low_at.ensures.0 c.place_of-high_at.ensures.0 c.read_from-x.ensures c.read_from-y.ensures)

pub gather-operands-requires : goal.gather-operands-requires
gather-operands-requires c = step_reaches c.args.sheet c.requires (search rules) (search rules) c.loop-g.invariant.going c.loop-g-test.true

pub map_gate-mapped-requires : goal.map_gate-mapped-requires
map_gate-mapped-requires c = best_mappable c.args.sheet c.requires (search rules) (search rules) c.loop-g.invariant c.loop-g-test.true c.gather-operands.ensures

pub stage-requires-in_default : goal.stage-requires-in_default
stage-requires-in_default c =
    let r = c.map_gate-mapped.result.run in
    omega (
      arith,
      best_room c.args.sheet c.requires (search rules) (search rules) c.loop-g.invariant c.loop-g-test.true c.gather-operands.ensures c.map_gate-mapped.ensures,
      length-take r.placed r.tables,
    )

pub loop-g-preserved : goal.loop-g-preserved
loop-g-preserved c =
    let s = c.args.sheet in
    elim c.if-fanins_of-lt2.branch [
      | in-len2 w ↦ rw (w.held-is, w.mapping-is)
          (pair_next s c.requires (search rules) (search rules) c.loop-g.invariant c.loop-g-test.true c.fanins_of.ensures (omega (arith, w.in-len2)) w.place_of-low_at.ensures.0 w.place_of-high_at.ensures.0 w.read_from-x.ensures w.read_from-y.ensures
          w.map_pair-pair.ensures w.stage.ensures)
      | in_default w ↦ rw (w.held-is, w.mapping-is)
          (let h = w.map_gate-mapped.ensures.run.ran.holds in
          best_next s c.requires (search rules) (search rules) c.loop-g.invariant c.loop-g-test.true w.gather-operands.ensures w.map_gate-mapped.ensures
          (staged_run w.map_gate-mapped.result.run (omega (arith, h.placed, h.table_room_lem)) w.stage-in_default.ensures))
    ]

pub with_root-requires : goal.with_root-requires
with_root-requires c = end_room c.args.sheet c.requires (search rules) (search rules) c.loop-g.invariant.going c.loop-g-test.false

pub returns : goal.returns
returns c = best_end c.args.sheet c.requires (search rules) (search rules) c.loop-g.invariant c.loop-g-test.false c.with_root.ensures
