use Prim.Native.Nat.{ℕ, ◌≤◌}
use native.Mathlib.Omega.{arith}
use mathlib.Core.Path.{◌≡◌, sym, ap, ◌∙◌, subst}
use mathlib.Core.Bool.{true}
use mathlib.Core.Option.{some}
use mathlib.Core.List.{◌∷◌}
use lib.Dec.{T}
use lib.ListN.{drop}
use borrow.Author.Tests.{eq-eqb, ne_eqb}
use Rattle.tree.specs.Trusted.Limits.{fewest_fanins, most_fanins}
use Rattle.sheet.specs.Trusted.Read.{counts, kind_of, gate_head_of}
use Rattle.sheet_line.specs.Inside.{values_of}
use Rattle.sheet.specs.Trusted.Answers.{found}
use Rattle.sheet.specs.NumberLaws.{counts_holds}
use Rattle.sheet_line.proofs.HeadLaws.{field_at, values_count, more_count, values_two}
use Rattle.sheet_line.proofs.GateLaws.{gate_few, gate_kind, gate_count, gate_fields, gate_good}
use Rattle.sheet_line.proofs.read_gate_head.Goals as goal
use Rattle.sheet_line.proofs.read_gate_head.Goals.{Else-f-lt2, Else-not-counts, In-Some}

-- the first two fields, where there are two
two_are : (c : Else-f-lt2) (g : ℕ) → let f = c.args.f in
    gate_head_of g (some (values_of f)) ≡ gate_head_of g (some (field_at f 0 ∷ field_at f 1 ∷ drop 2 (values_of f)))
two_are c g =
    let f = c.args.f in
    ap (λ xs. gate_head_of g (some xs)) (values_two f c.requires (omega (arith, c.if-f-lt2.false)))

kind_is : (c : In-Some) → kind_of (field_at c.args.f 0) ≡ some c.in-Some.kind
kind_is c = c.read_kind.ensures ∙ ap found c.in-Some.is

count_good : (c : Else-not-counts) → counts fewest_fanins most_fanins (field_at c.args.f 1) ≡ true
count_good c = sym c.counts.ensures ∙ c.if-not-counts.false

few : (c : Else-not-counts) → (field_at c.args.f 1).magnitude ≤ most_fanins
few c =
    let x = field_at c.args.f 1 in
    (counts_holds fewest_fanins most_fanins x (subst T (sym (count_good c)) tt)).1

pub returns-then-f-lt2 : goal.returns-then-f-lt2
returns-then-f-lt2 c =
    let f = c.args.f in
    record { step = λ g. gate_few g (values_of f) (omega (arith, values_count f c.requires)); fanins = tt }

pub returns-in_default : goal.returns-in_default
returns-in_default c = record {
  step = λ g. two_are (goal.at.returns-in_default c).Else-f-lt2 g ∙ gate_kind g _ _ _ (c.read_kind.ensures ∙ ap found c.in_default.is);
  fanins = tt;
}

pub returns-then-not-counts : goal.returns-then-not-counts
returns-then-not-counts c = record {
  step = λ g. two_are (goal.at.returns-then-not-counts c).Else-f-lt2 g
      ∙ gate_count g _ _ _ (kind_is (goal.at.returns-then-not-counts c).In-Some) (sym c.counts.ensures ∙ c.if-not-counts.true);
  fanins = tt;
}

pub returns-then-n-f : goal.returns-then-n-f
returns-then-n-f c =
    record {
      step = λ g. two_are (goal.at.returns-then-n-f c).Else-f-lt2 g
          ∙ gate_fields g _ _ _ (kind_is (goal.at.returns-then-n-f c).In-Some) (count_good (goal.at.returns-then-n-f c).Else-not-counts)
          (ne_eqb _ _ (λ e. c.if-n-f.true (sym (sym (more_count c.args.f c.requires) ∙ e))));
      fanins = tt;
    }

pub returns : goal.returns
returns c =
    record {
      step = λ g. two_are (goal.at.returns c).Else-f-lt2 g
          ∙ gate_good g _ _ _ (kind_is (goal.at.returns c).In-Some) (count_good (goal.at.returns c).Else-not-counts)
          (eq-eqb _ _ (more_count c.args.f c.requires ∙ sym c.if-n-f.false));
      fanins = let l = few (goal.at.returns c).Else-not-counts in (omega arith, l);
    }
