use Rattle.std.proofs.Common.{rules, tests, take, ◌∙◌}
use Rattle.std.proofs.lemmas.Iterator.{YieldsList-from_slice}
use Rattle.std.proofs.lemmas.Iterator.Search.{all_from_yields_List}
use Rattle.lists.proofs.LibraryTests.{list_all_is_all}
use Rattle.table.specs.Trusted.RecordTest.{is_code}
use Rattle.table_inputs.proofs.all_codes.Goals as goal

pub returns : goal.returns
returns c =
    let used = take c.args.n c.args.inputs in
    all_from_yields_List is_code _ _ _ c.all.ensures.ran (YieldsList-from_slice used (cc)) (λ x b q k. search (rules, tests)) ∙ list_all_is_all is_code used
