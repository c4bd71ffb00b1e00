use Prim.Native.Nat.{◌≤◌}
use native.Mathlib.Omega.{arith}
use mathlib.Core.Path.{◌≡◌, refl, sym, ap, ◌∙◌}
use mathlib.Core.Bool.{true}
use borrow.Author.Rules.{rules}
use borrow.Author.Tests.{le-leb, lt-leb}
use Rattle.lists.specs.Trusted.Tests.{within}
use Rattle.lists.specs.TestLaws.{reflects_within}
use Rattle.table.specs.ResultLaws.{says_true}
use Rattle.std.proofs.lemmas.Option.{MatchOption-at_some, MatchOption-at_none}
use Rattle.std.proofs.Math.Option.{none}
use Rattle.list_layout.specs.Trusted.Layout.{take_top}
use Rattle.list_layout.specs.Taken.{TopThere}
use Rattle.list_reading.specs.Trusted.ReadList.{read_result}
use Rattle.list_reading.specs.LoopLaws.{handed_refused, top_bad, k_bad, capacity_bad, used_bad, top_passed}
use Rattle.list_reading.specs.declared.ListAnswer.TheVariants.{NotLaidOut, RuleBroken}
use Rattle.list_reader.proofs.read_list.Goals as goal
use Rattle.list_reader.proofs.read_list.Goals.{In-Some, Else-not-within, Else-not-within-2}

pub returns-in_default : goal.returns-in_default
returns-in_default c =
    let text = c.args.text.now in
    handed_refused {a = NotLaidOut 0} (search rules) refl (top_bad text (MatchOption-at_none (take_top text ≡ none) (TopThere text) c.in_default.is c.read_top.ensures))

top_there : (c : In-Some) → TopThere c.args.text.now c.in-Some.top
top_there c =
    let text = c.args.text.now in
    MatchOption-at_some (take_top text ≡ none) (TopThere text) c.in-Some.top c.in-Some.is c.read_top.ensures

good_k : (c : Else-not-within) → within 2 6 c.in-Some.top.k ≡ true
good_k c = sym c.within.ensures ∙ c.if-not-within.false

good_capacity : (c : Else-not-within-2) → within 1 800 c.in-Some.top.capacity ≡ true
good_capacity c = sym c.within-2.ensures ∙ c.if-not-within-2.false

pub returns-then-not-within : goal.returns-then-not-within
returns-then-not-within c =
    handed_refused c.refused-then-not-within.ensures refl
    (k_bad c.args.text.now c.in-Some.top (top_there (goal.at.returns-then-not-within c).In-Some) (sym c.within.ensures ∙ c.if-not-within.true))

pub returns-then-not-within-2 : goal.returns-then-not-within-2
returns-then-not-within-2 c =
    handed_refused c.refused-then-not-within-2.ensures refl
    (capacity_bad c.args.text.now c.in-Some.top (top_there (goal.at.returns-then-not-within-2 c).In-Some) (good_k (goal.at.returns-then-not-within-2 c).Else-not-within)
    (sym c.within-2.ensures ∙ c.if-not-within-2.true))

pub returns-then-used-capacity : goal.returns-then-used-capacity
returns-then-used-capacity c =
    let t = c.in-Some.top in
    -- what the tests before this one passed, from the facts at hand
    let k : within 2 6 t.k ≡ true = search rules in
    let n : within 1 800 t.capacity ≡ true = search rules in
    handed_refused {a = RuleBroken 0} (search rules) refl
    (used_bad c.args.text.now t (top_there (goal.at.returns-then-used-capacity c).In-Some) k n
    (lt-leb c.in-Some.top.used c.in-Some.top.capacity c.if-used-capacity.true))

capacity_range : (c : Else-not-within-2) → let n = c.in-Some.top.capacity in (1 ≤ n) × (n ≤ 800)
capacity_range c = says_true (reflects_within 1 800 c.in-Some.top.capacity) (good_capacity c)

pub overflow_cast-k : goal.overflow_cast-k
overflow_cast-k c =
    let k = says_true (reflects_within 2 6 c.in-Some.top.k) (good_k (goal.at.overflow_cast-k c).Else-not-within) in
    omega (arith, k)

pub overflow_cast-capacity : goal.overflow_cast-capacity
overflow_cast-capacity c = let n = capacity_range (goal.at.overflow_cast-capacity c).Else-not-within-2 in omega (arith, n)

pub overflow_cast-used : goal.overflow_cast-used
overflow_cast-used c = let n = capacity_range (goal.at.overflow_cast-used c).Else-not-within-2 in omega (arith, n)

pub read_tables-requires : goal.read_tables-requires
read_tables-requires c =
    let n = capacity_range (goal.at.read_tables-requires c).Else-not-within-2 in
    (omega (arith, n), (top_there (goal.at.read_tables-requires c).In-Some).ends)

pub returns : goal.returns
returns c =
    c.read_tables.ensures
    ∙ sym (ap read_result (top_passed c.args.text.now c.in-Some.top (top_there (goal.at.returns c).In-Some) (good_k (goal.at.returns c).Else-not-within) (good_capacity (goal.at.returns c).Else-not-within-2)
    (le-leb c.in-Some.top.used c.in-Some.top.capacity c.if-used-capacity.false)))
