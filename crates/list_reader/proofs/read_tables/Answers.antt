use Prim.Native.Nat.{ℕ, ◌+◌}
use native.Mathlib.Omega.{arith}
use mathlib.Core.Path.{◌≡◌, refl, sym, ap, ◌∙◌, subst}
use mathlib.Core.Bool.{true}
use borrow.Author.Rules.{rules}
use lib.ListN.{set, drop}
use Rattle.table.specs.LevelTest.{no_levels}
use Rattle.table.specs.LevelTestLaws.{levels_small}
use Rattle.std.specs.Prelude.{Option, Some, None}
use Rattle.std.proofs.lemmas.Option.{MatchOption-at_some, MatchOption-at_none}
use Rattle.std.proofs.Math.Option.{none}
use mathlib.Core.List.{List}
use Rattle.list_layout.specs.Trusted.Layout.{take_table}
use Rattle.list_layout.specs.declared.TableRead.{TableRead}
use Rattle.list_layout.specs.Taken.{at_level, TableTaken, TableThere}
use Rattle.part.specs.Trusted.Parts.{blanks}
use Rattle.part.specs.Trusted.Answers.{accepted}
use Rattle.part_records.specs.Trusted.Reservations.{unreserved}
use Rattle.list_reading.specs.Trusted.ReadList.{read_result}
use Rattle.list_reading.specs.LoopLaws.{LinesSoFar, handed_refused, lines_none, line_bad, rule_bad, line_good, rest_refused, rest_over, rest_all}
use Rattle.list_reading.specs.declared.ListAnswer.TheVariants.{RuleBroken}
use Rattle.list_reader.proofs.read_tables.Goals as goal
use Rattle.list_reader.proofs.read_tables.Goals.{After-loop-t}

pub loop-t-init : goal.loop-t-init
unfolding no_levels
loop-t-init c =
    let a = c.args in
    let h = c.requires in
    subst (λ p. (p.k ≡ a.k) × (p.capacity ≡ a.capacity) × (p.reservation ≡ unreserved) × LinesSoFar a.text.now a.k a.used p.tables c.empty_prefix-prefix.result no_levels 19 0) (sym c.empty-part.ensures)
    (refl, refl, refl, subst (λ s. LinesSoFar a.text.now a.k a.used blanks s no_levels 19 0) (sym c.empty_prefix-prefix.ensures) (lines_none a.text.now a.k a.used h.0 h.1))

-- what is known of the next line, by the answer
line_missing : (text : List ℕ) (at t : ℕ) {r : Option TableRead} → r ≡ None → TableTaken text at t r → take_table t (drop at text) ≡ none
line_missing text at t = MatchOption-at_none (take_table t (drop at text) ≡ none) (TableThere text at t)

line_there : (text : List ℕ) (at t : ℕ) {r : Option TableRead} {read : TableRead} → r ≡ Some read → TableTaken text at t r → TableThere text at t read
line_there text at t {read = read} = MatchOption-at_some (take_table t (drop at text) ≡ none) (TableThere text at t) read

pub returns-in_default : goal.returns-in_default
returns-in_default c =
    let a = c.args in
    handed_refused c.refused.ensures refl
    (rest_refused a.text.now a.k a.capacity a.used
    (line_bad a.text.now a.k a.used c.loop-t.invariant.3 (omega arith)
    (line_missing a.text.now c.loop-t.at (c.loop-t.t + 1) c.in_default.is c.read_table.ensures)))

pub returns-then-not-keeps_points : goal.returns-then-not-keeps_points
returns-then-not-keeps_points c =
    let a = c.args in
    handed_refused {a = RuleBroken (c.loop-t.t + 1)} (search rules) refl
    (rest_refused a.text.now a.k a.capacity a.used
    (rule_bad a.text.now a.k a.used c.loop-t.invariant.3 (omega arith) c.in-Some.read (line_there a.text.now c.loop-t.at (c.loop-t.t + 1) c.in-Some.is c.read_table.ensures)
    (sym c.keeps_points.ensures ∙ c.if-not-keeps_points.true)))

pub next_level-level-requires : goal.next_level-level-requires
next_level-level-requires c =
    let l = c.loop-t in
    let h = l.invariant.3 in
    (omega (arith, c.loop-t-test.true, h.room), levels_small l.levels _ h.kept.by_code)

pub loop-t-preserved : goal.loop-t-preserved
loop-t-preserved c =
    let a = c.args in
    let n = c.next_level-level in (
      c.loop-t.invariant.0,
      c.loop-t.invariant.1,
      c.loop-t.invariant.2,
      subst (λ s. LinesSoFar a.text.now a.k a.used (set c.loop-t.part.tables c.loop-t.t (at_level n.result c.in-Some.read.table)) s n.new.levels c.in-Some.read.end (c.loop-t.t + 1)) (sym c.after-prefix.ensures)
          (line_good a.text.now a.k a.used c.loop-t.invariant.3 (omega arith) c.in-Some.read (line_there a.text.now c.loop-t.at (c.loop-t.t + 1) c.in-Some.is c.read_table.ensures)
          (sym c.keeps_points.ensures ∙ c.if-not-keeps_points.false) n.ensures.0 n.ensures.1),
    )

-- after the last line
all_passed : (c : After-loop-t) → let a = c.args in
    LinesSoFar a.text.now a.k a.used c.loop-t.part.tables c.loop-t.prefix c.loop-t.levels c.loop-t.at a.used
all_passed c =
    let a = c.args in
    let n = c.loop-t.invariant.3.count in
    let e : c.loop-t.t ≡ a.used = omega (arith, n) in
    subst (LinesSoFar a.text.now a.k a.used c.loop-t.part.tables c.loop-t.prefix c.loop-t.levels c.loop-t.at) e c.loop-t.invariant.3

pub returns-then-at-text : goal.returns-then-at-text
returns-then-at-text c =
    let a = c.args in
    handed_refused c.refused-then-at-text.ensures refl
    (rest_over a.text.now a.k a.capacity a.used (all_passed (goal.at.returns-then-at-text c).After-loop-t) c.if-at-text.true)

pub returns : goal.returns
returns c =
    let a = c.args in
    let i = c.loop-t.invariant in
    (λ j. record { part = record { k = i.0 j; capacity = i.1 j; used = a.used; reservation = i.2 j; tables = c.loop-t.part.tables }; answer = accepted })
    ∙ sym (ap read_result (rest_all a.text.now a.k a.capacity a.used (all_passed (goal.at.returns c).After-loop-t) (omega arith)))
