use mathlib.Core.Path.{◌≡◌, ap₂, ◌∙◌}
use mathlib.Core.Bool.{true, false, ◌&&◌}
use lib.Dec.{ltb}
use lib.ListN.{length}
use borrow.Author.Rules.{rules}
use Rattle.lists.specs.Trusted.Checked.{passed}
use Rattle.sheet.specs.Trusted.Read.{Head}
use Rattle.sheet_reader.proofs.SheetLaws.{end_more, end_unread, end_passed}
use Rattle.sheet_reader.proofs.read_end.Goals as goal
use Rattle.sheet_reader.proofs.read_end.Goals.{Start, Then-more, Else-more}

abbrev head_of : Start → Head
head_of s = let h = s.args.head in record { out = h.out; inverted = h.inverted; count = h.count }

some_more : (c : Then-more) → (c.args.last && ltb c.args.lines.now.end (length c.args.text.now)) ≡ true
some_more c = search rules

no_more : (c : Else-more) → (c.args.last && ltb c.args.lines.now.end (length c.args.text.now)) ≡ false
no_more c = search rules

pub returns-then-more : goal.returns-then-more
returns-then-more c =
    let a = c.args in
    λ m h. record {
      same = end_more a.text.now a.lines.now (head_of (goal.at.returns-then-more c).Start) a.last m h (some_more (goal.at.returns-then-more c).Then-more);
      within = tt;
    }

pub returns-in-Some : goal.returns-in-Some
returns-in-Some c =
    let a = c.args in
    λ m h. record {
      same = end_unread a.text.now a.lines.now (head_of (goal.at.returns-in-Some c).Start) a.last m h (no_more (goal.at.returns-in-Some c).Else-more)
          (c.in-Some.ensures m.1.gates h.marked);
      within = tt;
    }

pub returns : goal.returns
returns c =
    let a = c.args in
    λ m h. record {
      same = end_passed a.text.now a.lines.now (head_of (goal.at.returns c).Start) a.last m h (no_more (goal.at.returns c).Else-more) (c.in_default.ensures m.1.gates h.marked)
          ∙ ap₂ (λ gs rest. passed (record { out = a.head.out; inverted = a.head.inverted; gates = gs }, rest)) h.gates h.rest;
      within = h.within;
    }
