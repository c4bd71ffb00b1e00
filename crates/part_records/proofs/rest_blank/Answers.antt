use Rattle.std.proofs.Common.{rules, tests, drop, ◌-◌, ◌≤◌, length, arith, length-drop, ◌∙◌}
use Rattle.std.proofs.lemmas.List.{take_all}
use Rattle.std.proofs.lemmas.Iterator.{YieldsList-from_slice}
use Rattle.std.proofs.lemmas.Iterator.Search.{all_from_yields_List}
use Rattle.lists.proofs.LibraryTests.{list_all_is_all}
use Rattle.table.specs.Trusted.RecordTest.{is_blank}
use Rattle.part_records.proofs.rest_blank.Goals as goal

pub returns : goal.returns
returns c =
    let rest = drop c.args.used c.args.tables in
    let room : length rest ≤ 800 - c.args.used = simp length-drop (omega arith) in
    let whole = take_all (800 - c.args.used) rest room in
    all_from_yields_List is_blank _ _ _ c.all.ensures.ran (YieldsList-from_slice rest (cc)) (λ x b q k. search (rules, tests)) ∙ list_all_is_all is_blank rest
