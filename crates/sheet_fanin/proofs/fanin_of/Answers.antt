use native.Mathlib.Omega.{arith}
use mathlib.Core.Path.{◌≡◌, sym, ap, ◌∙◌}
use mathlib.Core.Option.{some}
use lib.ListN.{length}
use borrow.Author.Rules.{rules}
use borrow.Author.Tests.{eq-eqb, ne_eqb, lt-ltb, le-ltb}
use Rattle.lists.specs.Trusted.Checked.{passed}
use Rattle.sheet.specs.declared.Source.TheVariants.{Net as net, Gate as gate}
use Rattle.sheet.specs.Trusted.Limits.{most_leaves}
use Rattle.sheet.specs.Trusted.Sheet.{net_of}
use Rattle.sheet.specs.Trusted.Read.{source_of}
use Rattle.sheet.specs.Trusted.Answers.{found}
use Rattle.sheet_fanin.specs.Fanins.{saw}
use Rattle.sheet_fanin.proofs.FaninLaws.{fanin_none, gate_twice, gate_once, net_twice, net_out, net_many, net_once, net_flag, gate_flag}
use Rattle.sheet_fanin.proofs.fanin_of.Goals as goal
use Rattle.sheet_fanin.proofs.fanin_of.Goals.{In-Gate, In-Net}

-- in the arm of a gate
gate_is_lem : (c : In-Gate) → let a = c.args in
    source_of a.gate a.code ≡ some (gate c.in-Gate.field-0)
gate_is_lem c = c.source_of.ensures ∙ (ap found c.in-Some.is ∙ ap some c.in-Gate.is)

-- in the arm of a net
net_is : (c : In-Net) → let a = c.args in
    source_of a.gate a.code ≡ some (net c.in-Net.n)
net_is c = c.source_of.ensures ∙ (ap found c.in-Some.is ∙ ap some c.in-Net.is)

pub returns-in_default : goal.returns-in_default
returns-in_default c =
    let a = c.args in
    let e = c.source_of.ensures ∙ ap found c.in_default.is in
    record {
      taken = tt;
      step = λ seen h. fanin_none a.out a.gate seen a.code e;
    }

pub returns-then-twice : goal.returns-then-twice
returns-then-twice c =
    let a = c.args in
    record {
      taken = tt;
      step = λ seen h. gate_twice a.out a.gate seen a.code _ (gate_is_lem (goal.at.returns-then-twice c).In-Gate) (sym (gate_flag a.gate a.code c.requires h _ (gate_is_lem (goal.at.returns-then-twice c).In-Gate)) ∙ sym c.flag-twice.ensures ∙ c.if-twice.true);
    }

pub returns-then-twice-2 : goal.returns-then-twice-2
returns-then-twice-2 c =
    let a = c.args in
    record {
      taken = tt;
      step = λ seen h. net_twice a.out a.gate seen a.code _ (net_is (goal.at.returns-then-twice-2 c).In-Net) (sym (net_flag a.gate a.code c.requires h _ (net_is (goal.at.returns-then-twice-2 c).In-Net)) ∙ sym c.flag-twice.ensures ∙ c.if-twice-2.true);
    }

pub returns-then-n-out : goal.returns-then-n-out
returns-then-n-out c =
    let a = c.args in
    let e = net_is (goal.at.returns-then-n-out c).In-Net in
    record {
      taken = tt;
      step = λ seen h. net_out a.out a.gate seen a.code _ e (sym (net_flag a.gate a.code c.requires h _ e) ∙ sym c.flag-twice.ensures ∙ c.if-twice-2.false) (eq-eqb _ _ c.if-n-out.true);
    }

pub returns-then-leaves-ge-MOST_LEAVES : goal.returns-then-leaves-ge-MOST_LEAVES
returns-then-leaves-ge-MOST_LEAVES c =
    let a = c.args in
    let e = net_is (goal.at.returns-then-leaves-ge-MOST_LEAVES c).In-Net in
    record {
      taken = tt;
      step = λ seen h.
          net_many a.out a.gate seen a.code _ e (sym (net_flag a.gate a.code c.requires h _ e) ∙ sym c.flag-twice.ensures ∙ c.if-twice-2.false) (ne_eqb c.in-Net.n a.out (search rules))
          (le-ltb (length seen.nets) most_leaves (omega (arith, h.count)));
    }

pub returns-else-twice : goal.returns-else-twice
returns-else-twice c =
    let a = c.args in
    let e = gate_is_lem (goal.at.returns-else-twice c).In-Gate in
    record {
      taken = record {
        source = e ∙ ap some (sym c.in-Gate.is);
        first = sym c.flag-twice.ensures ∙ c.if-twice.false;
        few = λ l. omega (arith, ap (λ s. length (net_of s)) c.in-Gate.is);
      };
      step = λ seen h.
          gate_once a.out a.gate seen a.code _ e (sym (gate_flag a.gate a.code c.requires h _ e) ∙ sym c.flag-twice.ensures ∙ c.if-twice.false)
          ∙ ap (λ s. passed (s, saw seen s)) (sym c.in-Gate.is);
    }

pub returns-else-leaves-ge-MOST_LEAVES : goal.returns-else-leaves-ge-MOST_LEAVES
returns-else-leaves-ge-MOST_LEAVES c =
    let a = c.args in
    let e = net_is (goal.at.returns-else-leaves-ge-MOST_LEAVES c).In-Net in
    record {
      taken = record { source = e; first = sym c.flag-twice.ensures ∙ c.if-twice-2.false; few = λ l. omega arith };
      step = λ seen h.
          net_once a.out a.gate seen a.code _ e (sym (net_flag a.gate a.code c.requires h _ e) ∙ sym c.flag-twice.ensures ∙ c.if-twice-2.false) (ne_eqb _ _ c.if-n-out.false)
          (lt-ltb (length seen.nets) most_leaves (omega (arith, h.count)));
    }
