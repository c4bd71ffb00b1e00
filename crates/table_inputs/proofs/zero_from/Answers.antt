use Rattle.std.proofs.Common.{rules, tests, drop, eqb, ◌-◌, ◌≤◌, length, arith, length-drop, ◌∙◌}
use Rattle.std.proofs.lemmas.List.{take_all}
use Rattle.std.proofs.lemmas.Iterator.{YieldsList-from_slice}
use Rattle.std.proofs.lemmas.Iterator.Search.{all_from_yields_List}
use Rattle.lists.proofs.LibraryTests.{list_all_is_all}
use Rattle.table_inputs.proofs.zero_from.Goals as goal

pub returns : goal.returns
returns c =
    let rest = drop c.args.n c.args.inputs in
    let room : length rest ≤ 6 - c.args.n = simp length-drop (omega arith) in
    let whole = take_all (6 - c.args.n) rest room in
    all_from_yields_List (λ x. eqb x 0) _ _ _ c.all.ensures.ran (YieldsList-from_slice rest (cc)) (λ x b q k. search (rules, tests)) ∙ list_all_is_all (λ x. eqb x 0) rest
