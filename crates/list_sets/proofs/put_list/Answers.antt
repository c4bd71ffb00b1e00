use mathlib.Core.Path.{◌≡◌, sym, subst}
use Rattle.std.specs.Prelude.{ℕ, Result}
use Rattle.listing.specs.Trusted.Listing.{list_of}
use Rattle.printing.specs.Promises.{WrittenAs}
use Rattle.printing.specs.declared.NoRoom.{NoRoom}
use Rattle.list_sets.specs.Trusted.ListSets.{PutInFront}
use Rattle.list_sets.specs.ListSetLaws.{printed_code, put_in_front}
use Rattle.list_sets.proofs.put_list.Goals as goal
use Rattle.list_sets.proofs.put_list.Goals.{After-print_list}

-- what stands in the buffer, by what was printed
put : (c : After-print_list) {r : Result ℕ NoRoom} → c.print_list.result ≡ r → let a = c.args in
    PutInFront (list_of a.p) a.output.now (printed_code r) c.print_list.new.output
put c {r} e =
    let a = c.args in
    put_in_front (list_of a.p) c.print_list.new.output a.output.now r
    (subst (λ r. WrittenAs (list_of a.p) r c.print_list.new.output a.output.now) e c.print_list.ensures)

pub returns-in-Ok : goal.returns-in-Ok
returns-in-Ok c = put (goal.at.returns-in-Ok c).After-print_list c.in-Ok.is

pub returns-in-Err : goal.returns-in-Err
returns-in-Err c =
    let a = c.args in
    subst (λ n. PutInFront (list_of a.p) a.output.now n c.print_list.new.output) (sym c.refusal_code.ensures) (put (goal.at.returns-in-Err c).After-print_list c.in-Err.is)
