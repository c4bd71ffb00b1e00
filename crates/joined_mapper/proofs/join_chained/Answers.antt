use mathlib.Core.Path.{sym, ◌∙◌, subst}
use Rattle.sheet.specs.Trusted.Answers.{drawn_sheet}
use Rattle.sheet.specs.Trusted.Formed.{WellFormed}
use Rattle.joined.proofs.SheetLaws.{joined_formed}
use Rattle.joiner_laws.specs.NoneJoinedLaws.{none_joined_lem}
use Rattle.joined_mapper.specs.CoverLaws.{covers_joined}
use Rattle.joined_mapper.proofs.join_chained.Goals as goal

pub returns-then-chained : goal.returns-then-chained
returns-then-chained c =
    let s = c.args.sheet.now in record {
      formed = subst WellFormed (sym c.joined.ensures) (joined_formed (drawn_sheet s) c.requires);
      covers = covers_joined s c.requires c.joined.result c.joined.ensures;
    }

pub returns-else-chained : goal.returns-else-chained
returns-else-chained c =
    let s = c.args.sheet.now in record {
      formed = c.requires;
      covers = covers_joined s c.requires s (none_joined_lem (drawn_sheet s) c.requires (sym c.none_joined-chained.ensures ∙ c.if-chained.false));
    }
