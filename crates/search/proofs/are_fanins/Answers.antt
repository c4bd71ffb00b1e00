use mathlib.Core.Path.{◌∙◌}
use lib.ListN.{take}
use Rattle.std.proofs.Common.{rules, tests}
use Rattle.std.proofs.lemmas.Iterator.{YieldsList-from_slice}
use Rattle.std.proofs.lemmas.Iterator.Search.{all_from_yields_List}
use Rattle.lists.proofs.LibraryTests.{list_all_is_all}
use Rattle.plan.specs.PlanOf.{fanin_test}
use Rattle.search.proofs.are_fanins.Goals as goal

pub returns : goal.returns
returns c =
    let a = c.args in
    all_from_yields_List (fanin_test a.k) _ _ c.all.result c.all.ensures.ran (YieldsList-from_slice (take a.count a.keys) cc) (λ x b q k. search (rules, tests))
    ∙ list_all_is_all (fanin_test a.k) (take a.count a.keys)
