use Prim.Native.Nat.{ℕ, ◌+◌, ◌-◌, ◌≤◌, ◌<◌}
use native.Mathlib.Omega.{arith}
use mathlib.Core.Path.{◌≡◌, refl, sym, ap, ap₂, ◌∙◌, subst}
use mathlib.Core.Bool.{Bool, ◌&&◌}
use lib.Dec.{leb}
use lib.ListN.{length, get_or}
use borrow.Author.Rules.{rules}
use Rattle.lists.specs.Trusted.Lists.{Every}
use Rattle.lists.specs.ListLaws.{every_head}
use Rattle.tree.specs.declared.Kind.{Kind}
use Rattle.tree.specs.Trusted.Limits.{most_fanins}
use Rattle.sheet.specs.declared.Source.{Source}
use Rattle.sheet.specs.declared.Source.TheVariants.{Gate as reads}
use Rattle.sheet.specs.declared.Gate.{Gate}
use Rattle.sheet.specs.declared.Sheet.{Sheet}
use Rattle.sheet.specs.Trusted.Limits.{most_gates}
use Rattle.sheet.specs.Trusted.Formed.{WellFormed}
use Rattle.sheet.specs.Trusted.Answers.{drawn_gate, drawn_sheet}
use Rattle.sheet.specs.Trusted.Sheet.{gate_of}
use Rattle.sheet.specs.PlaceLaws.{no_sheet_gate, sheet_gate}
use Rattle.joined.specs.Trusted.Joined.{chained}
use Rattle.joined.specs.JoinedSheet.{joins_source}
use Rattle.chained_gates.proofs.joins.Goals as goal
use Rattle.chained_gates.proofs.joins.Goals.{In-Gate}

-- the gate that is read, in a sheet whose array is as long as its type says
bound : (c : In-Gate) → (1 ≤ c.in-Gate.j) × (c.in-Gate.j ≤ c.args.sheet.now.count)
bound c = every_head (subst (λ s. Every (λ j. (1 ≤ j) × (j ≤ c.args.sheet.now.count)) (gate_of s)) c.in-Gate.is c.requires.1)

-- an edge to it is joined where it is chained, and there is room
joins_is : (sheet : Sheet) → WellFormed (drawn_sheet sheet) → length sheet.gates ≡ most_gates → sheet.count ≤ most_gates → {j : ℕ} → (1 ≤ j) × (j ≤ sheet.count) →
    (k : Kind) (n : ℕ) (i : Bool) {s : Source} → s ≡ reads j → {a b : Bool} →
    let x : Gate = get_or sheet.gates (j - 1) no_sheet_gate in
    chained i k x.kind ≡ a → leb (n + length (drawn_gate sheet.fanins x).fanins) most_fanins ≡ b → (a && b) ≡ joins_source (drawn_sheet sheet).gates k n i s
joins_is sheet w r m {j} l k n i e p q =
    let low : j - 1 < sheet.count = omega (arith, l) in
    sym (ap (joins_source (drawn_sheet sheet).gates k n i) e ∙ (ap (λ d. chained i k d.kind && leb (n + length d.fanins) most_fanins) (sheet_gate sheet w r m low) ∙ ap₂ ◌&&◌ p q))

pub overflow_sub-lower : goal.overflow_sub-lower
overflow_sub-lower c = (bound (goal.at.overflow_sub-lower c).In-Gate).0

pub bounds-sheet-j : goal.bounds-sheet-j
bounds-sheet-j c = omega (arith, bound (goal.at.bounds-sheet-j c).In-Gate)

pub returns-then-chained : goal.returns-then-chained
returns-then-chained c =
    let s = c.args.sheet.now in
    joins_is s c.requires.0 (search rules) (search rules) (bound (goal.at.returns-then-chained c).In-Gate) c.args.kind c.args.others c.args.edge.inverted c.in-Gate.is
    (sym c.chained.ensures ∙ c.if-chained.true) (ap (λ n. leb (c.args.others + n) most_fanins) (sym (c.fanin_count.ensures s.fanins (search rules))))

pub returns-else-chained : goal.returns-else-chained
returns-else-chained c =
    c.if-chained.false
    ∙ joins_is c.args.sheet.now c.requires.0 (search rules) (search rules) (bound (goal.at.returns-else-chained c).In-Gate) c.args.kind c.args.others c.args.edge.inverted c.in-Gate.is
    (sym c.chained.ensures ∙ c.if-chained.false) refl
